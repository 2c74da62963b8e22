-- Whether a PDU comes from a recorded station, one station more at a time.
use Rattle.std.proofs.Common.{◌≡◌, ℕ, ◌+◌, ◌<◌, take, length, Bool, true, false, refl, sym, ap, ◌∙◌}
use Rattle.std.specs.Prelude.{◌||◌}
use Rattle.std.specs.List.{list_any}
use Rattle.std.proofs.Math.Seq.{take-length}
use Rattle.std.proofs.lemmas.List.Folds.{list_any_at, list_any_more}
use Rattle.siman_pdus.specs.declared.pdu.Pdu.{Pdu}
use Rattle.exercise_model.specs.Station.{StationData}
use Rattle.exercise_model.specs.Recording.{PlainRecording}
use Rattle.exercise_model.specs.History.{station_at}
use Rattle.exercise_model.specs.Setting.{nowhere, is_from, is_recorded}

-- p comes from one of the first n stations
abbrev pub is_from_first : PlainRecording → Pdu → ℕ → Bool
is_from_first r p n = list_any (λ (o : StationData). is_from o.address p) (take n r.setting.stations)

pub from_none : (r : PlainRecording) (p : Pdu) → is_from_first r p 0 ≡ false
from_none r p = refl

pub from_one_more : (r : PlainRecording) (p : Pdu) (n : ℕ) → n < length r.setting.stations → is_from_first r p n ≡ false
    → is_from (station_at r n).address p ≡ false → is_from_first r p (n + 1) ≡ false
from_one_more r p n within none other =
    list_any_more (λ (o : StationData). is_from o.address p) r.setting.stations n nowhere within
    ∙ ap (λ (b : Bool). b || is_from (station_at r n).address p) none ∙ other

pub from_this : (r : PlainRecording) (p : Pdu) (n : ℕ) → n < length r.setting.stations → is_from (station_at r n).address p ≡ true
    → is_recorded r.setting p ≡ true
unfolding is_recorded
from_this r p n within here = list_any_at (λ (o : StationData). is_from o.address p) r.setting.stations n nowhere within here

pub from_nobody : (r : PlainRecording) (p : Pdu) (n : ℕ) → n ≡ length r.setting.stations → is_from_first r p n ≡ false → is_recorded r.setting p ≡ false
unfolding is_recorded
from_nobody r p n end none =
    ap (list_any (λ (o : StationData). is_from o.address p)) (sym (take-length r.setting.stations))
    ∙ ap (is_from_first r p) (sym end) ∙ none
