use Rattle.std.proofs.Common.{◌≡◌, ℕ, List, [], ◌++◌, ap, sym, ◌∙◌, subst, append-nil}
use Rattle.std.specs.Prelude.{true, length, Option, Some}
use Rattle.exercise_model.specs.Entry.{Entry}
use Rattle.exercise_model.specs.History.{past, log_at}
use Rattle.exercise_model.specs.Run.{Explains}
use Rattle.exercise_model.specs.Setting.{SettingData, is_open}
use Rattle.exercise_recording.specs.Writer.{WriterState}
use Rattle.siman_application.specs.OwnLog.{AreOneOrder}
use Rattle.siman_stations.specs.declared.turn.Node.{Node}
use Rattle.siman_lines.specs.KeptAtLine.{IsWritten, IsKept}
use Rattle.siman_lines.specs.LineDatagrams.{Datagrams}
use Rattle.siman_operator.specs.Noting.{datagrams_sent}
use Rattle.siman_operator.specs.Explained.{HearsOwnSent}
use Rattle.siman_tests.proofs.uses.post.is_judged_alone.Goals as goal

-- what the law says of one station, of all its entries
abbrev Law : Type 0
Law =
    (before : Option (List ℕ)) (n : Node) (w : WriterState) (handed : Option Datagrams) (front back : List Entry)
    → is_open w.setting.form ≡ true → length w.setting.stations ≡ 1 → IsWritten before w (front ++ back) → IsKept 0 n w (front ++ back) handed
    → AreOneOrder n.application.outfit (log_at 0 (past (front ++ back))) → HearsOwnSent w.setting (past front)
    → Explains (record { setting = w.setting; entries = front }) (past front)

of_all : Law → (before : Option (List ℕ)) (n : Node) (r : WriterState) (handed : Option Datagrams) (w : SettingData) (es : List Entry) → r.setting ≡ w
    → is_open w.form ≡ true → length w.stations ≡ 1 → IsWritten before r es → IsKept 0 n r es handed → AreOneOrder n.application.outfit (log_at 0 (past es))
    → HearsOwnSent w (past es) → Explains (record { setting = w; entries = es }) (past es)
of_all law before n r handed w es same open_form one written kept orders hears =
    subst (λ (v : SettingData). Explains (record { setting = v; entries = es }) (past es)) same
    (law before n r handed es [] (subst (λ (v : SettingData). is_open v.form ≡ true) (sym same) open_form)
    (subst (λ (v : SettingData). length v.stations ≡ 1) (sym same) one)
    (subst (λ (l : List Entry). IsWritten before r l) (sym (append-nil es)) written)
    (subst (λ (l : List Entry). IsKept 0 n r l handed) (sym (append-nil es)) kept)
    (subst (λ (l : List Entry). AreOneOrder n.application.outfit (log_at 0 (past l))) (sym (append-nil es)) orders)
    (subst (λ (v : SettingData). HearsOwnSent v (past es)) (sym same) hears))

pub returns : goal.returns
returns g c = λ before start w a bs d open_form one index is go.
    let goes = c.posts_keep_their_recordings.ensures.lines a bs d go in
    let left = c.posts_keep_their_recordings.ensures.leaves before start w a d is goes in
    let handed = Some (datagrams_sent d.station.line) in (
      left.0.0,
      λ orders hears.
          of_all c.own_recordings_are_explained.ensures before d.station.node d.recorder handed w left.0.0 left.0.1.setting open_form one left.0.1.written
          (subst (λ (i : ℕ). IsKept i d.station.node d.recorder left.0.0 handed) (goes.index ∙ index) left.0.1.kept) orders hears,
    )
