-- What a post leaves, from the start of its recording on.
use Rattle.std.proofs.Common.{ℕ, List, [], ◌∷◌, ap, sym, ◌∙◌, subst}
use Rattle.std.specs.Prelude.{Option, Some}
use Rattle.exercise_model.specs.Recording.{PlainRecording}
use Rattle.exercise_model.specs.Setting.{SettingData}
use Rattle.siman_lines.specs.Calls.{IsFresh}
use Rattle.siman_lines.specs.KeptAtLine.{IsWritten, IsKept}
use Rattle.siman_lines.proofs.Offered.{started, fresh}
use Rattle.siman_operator.specs.Noting.{datagrams_sent}
use Rattle.siman_operator.specs.Deeds.{PostState, GoesOn}
use Rattle.siman_operator.specs.Explained.{GoOn, IsStarted, Leaves}
use Rattle.siman_operator.proofs.Going.{goes_then}
use Rattle.siman_operator.proofs.Lines.{none_printed}

pub go_on : {L : Type 0} (a : PostState L) (bs : List (PostState L)) (c : PostState L) → GoOn a bs c → GoesOn a c
go_on a [] c goes = goes
go_on a (b ∷ bs) c goes = goes_then a b c goes.0 (go_on b bs c goes.1)

pub leaves : {L : Type 0} (before start : Option (List ℕ)) (w : SettingData) (old new : PostState L) → IsStarted before start w old → GoesOn old new
    → Leaves before start w new
leaves before start w old new is goes =
    let written : IsWritten before old.recorder [] = started before w old.recorder is.setting is.starts in
    let handed = Some (datagrams_sent old.station.line) in
    let begun : IsKept old.station.index old.station.node old.recorder [] handed =
    fresh old.station.index old.station.node old.recorder handed
    (subst (λ (v : SettingData). IsFresh old.station.index old.station.node v handed) (sym is.starts.setting) is.fresh) in
    let kept = goes.keeps before [] written begun in
    let printed = goes.prints before start [] written (none_printed start old.printing (ap (λ (r : PlainRecording). r.entries) is.log) is.fault is.out) in (
      (
        kept.0,
        record {
          setting = kept.1 ∙ is.starts.setting;
          written = kept.2;
          kept = subst (λ (i : ℕ). IsKept i new.station.node new.recorder kept.0 (Some (datagrams_sent new.station.line))) (sym goes.index) kept.3;
        },
      ),
      (
        printed.0,
        record { setting = goes.setting ∙ ap (λ (r : PlainRecording). r.setting) is.log; written = printed.1; printed = printed.2 },
      ),
    )
