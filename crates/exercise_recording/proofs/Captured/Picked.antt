-- Which packets of an exported capture are wanted, where the interface of a station is asked for, and where there is one.
use Rattle.std.proofs.Common.{◌≡◌, ◌∙◌, sym, ap, subst, ℕ, ◌<◌, Bool, true, false, length, Some, None, arith, refl}
use Rattle.std.proofs.lemmas.Bool.{both_ways, eqb-true, eq-eqb, false_from_ne_true}
use Rattle.std.proofs.lemmas.Option.{slice_get-get_or}
use Rattle.std.proofs.lemmas.Slice.Eq.{bytes_eq-Decides}
use Rattle.std.specs.Prelude.{bytes_eq, ◌==◌, List}
use Rattle.std.specs.List.{AllByRecursion}
use Rattle.dis_records.specs.declared.address.SiteApplication.{SiteApplication}
use Rattle.exercise_model.specs.Recording.{PlainRecording, IsRecording}
use Rattle.exercise_model.specs.Setting.{IsSetting, SettingData, nowhere, station_in}
use Rattle.exercise_model.specs.Station.{StationData, is_station}
use Rattle.exercise_model.proofs.Offered.{all_at, own_rising}
use Rattle.packet_captures.specs.Capture.{capture_of}
use Rattle.exercise_recording.specs.declared.captures.packet_rule.PacketRule.{PacketRule}
use Rattle.exercise_recording.specs.Joining.{place_among}
use Rattle.exercise_recording.specs.Captures.Blocks.{name_text}
use Rattle.exercise_recording.specs.Captures.Export.{exported_text}
use Rattle.exercise_recording.specs.Captures.LogBack.{ComesBack, HasBytes, IsRuleFor}
use Rattle.exercise_recording.specs.Captures.ReadBack.{FitsAddress}
use Rattle.exercise_recording.proofs.Captured.EntriesBack.{IsAsked, Picks, log-back}
use Rattle.exercise_recording.proofs.Captured.Names.{one-address, same-name}
use Rattle.exercise_recording.proofs.Captured.ReadBack.{export-read, station-fits}
use Rattle.exercise_recording.proofs.Ranks.{own_place}

-- the address of a station of a setting
address-fits : (w : SettingData) (s : ℕ) → IsSetting w → s < length w.stations → FitsAddress (station_in w s).address
address-fits w s setting within =
    station-fits (station_in w s) (all_at is_station w.stations s nowhere (station_in w s) setting.each_station within refl)

-- stations of one address are one
one-station : (w : SettingData) (s t : ℕ) → IsSetting w → s < length w.stations → t < length w.stations
    → (station_in w s).address ≡ (station_in w t).address → s ≡ t
one-station w s t setting within below same =
    let rising = own_rising w setting in
    let here : place_among w.stations (station_in w s).address ≡ s = own_place None w.stations s (station_in w s) rising (slice_get-get_or w.stations s nowhere within) in
    let there : place_among w.stations (station_in w t).address ≡ t = own_place None w.stations t (station_in w t) rising (slice_get-get_or w.stations t nowhere below) in
    sym here ∙ ap (place_among w.stations) same ∙ there

name-is : (w : SettingData) (s t : ℕ) (own : Bool) → IsSetting w → s < length w.stations → t < length w.stations → (t == s) ≡ own
    → bytes_eq (name_text (station_in w t).address) (name_text (station_in w s).address) ≡ own
name-is w s t true setting within below own =
    let name : List ℕ = name_text (station_in w t).address in
    subst (λ k. bytes_eq name (name_text (station_in w k).address) ≡ true) (eqb-true t s own) (same-name name)
name-is w s t false setting within below own =
    let here : SiteApplication = (station_in w t).address in
    let there : SiteApplication = (station_in w s).address in
    false_from_ne_true (bytes_eq (name_text here) (name_text there))
    (λ (same : bytes_eq (name_text here) (name_text there) ≡ true).
    let names : name_text here ≡ name_text there = (bytes_eq-Decides (name_text here) (name_text there)).0 same in
    let one : t ≡ s = one-station w t s setting below within
    (one-address here there (address-fits w t setting below) (address-fits w s setting within) names) in
    both_ways (t == s) own (eq-eqb t s one))

-- the name of a station's interface picks its packets
picks-named : (w : SettingData) (s : ℕ) → IsSetting w → s < length w.stations → Picks (Some (name_text (station_in w s).address)) w s
picks-named w s setting within t below = name-is w s t (t == s) setting within below refl

-- and with one station no name is needed
picks-alone : (w : SettingData) → length w.stations ≡ 1 → Picks None w 0
picks-alone w alone t below = sym (eq-eqb t 0 (omega (arith, alone, below)))

-- THE LOG OF A STATION COMES BACK from the file, by the name of its interface
pub named-back : (r : PlainRecording) (s room : ℕ) (rule : PacketRule) (station : StationData) → IsRecording r → AllByRecursion HasBytes r.entries
    → s < length r.setting.stations → IsRuleFor (station_in r.setting s).address rule
    → ComesBack rule room station s r (capture_of (Some (name_text (station_in r.setting s).address)) (exported_text r))
named-back r s room rule station limits bytes within for =
    let w : SettingData = r.setting in
    let name = Some (name_text (station_in w s).address) in
    let asked : IsAsked name rule w s =
    record { asks = for; fits = address-fits w s limits.setting within; picks = picks-named w s limits.setting within } in
    subst (ComesBack rule room station s r) (sym (export-read name r limits)) (log-back name rule room station s r limits bytes asked)

-- of one station, without a name
pub alone-back : (r : PlainRecording) (room : ℕ) (rule : PacketRule) (station : StationData) → IsRecording r → AllByRecursion HasBytes r.entries
    → length r.setting.stations ≡ 1 → IsRuleFor (station_in r.setting 0).address rule
    → ComesBack rule room station 0 r (capture_of None (exported_text r))
alone-back r room rule station limits bytes alone for =
    let w : SettingData = r.setting in
    let asked : IsAsked None rule w 0 =
    record { asks = for; fits = address-fits w 0 limits.setting (omega (arith, alone)); picks = picks-alone w alone } in
    subst (ComesBack rule room station 0 r) (sym (export-read None r limits)) (log-back None rule room station 0 r limits bytes asked)
