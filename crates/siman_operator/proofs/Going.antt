-- Posts that go on.
use Rattle.std.proofs.Common.{ℕ, List, [], ◌++◌, refl, sym, ◌∙◌, subst, append_assoc, append-nil}
use Rattle.std.specs.Prelude.{Some}
use Rattle.exercise_model.specs.Entry.{Entry}
use Rattle.exercise_recording.specs.Writer.{WriterState}
use Rattle.siman_stations.specs.declared.turn.Node.{Node}
use Rattle.siman_lines.specs.KeptAtLine.{IsWritten, IsKept, Keeps}
use Rattle.siman_lines.specs.LineDatagrams.{Datagrams}
use Rattle.siman_operator.specs.Noting.{datagrams_sent}
use Rattle.siman_operator.specs.Printing.{IsPrinted}
use Rattle.siman_operator.specs.Deeds.{PostState, KeepsAll, GoesOn}

-- as of one call
pub keeps_all : (s : ℕ) (n : Node) (w : WriterState) (ds : Datagrams) (m : Node) (v : WriterState) (es : Datagrams) → Keeps s n w (Some ds) m v (Some es)
    → KeepsAll s n w ds m v es
keeps_all s n w ds m v es keeps = λ before entries written is.
    let on = keeps before entries written is in (on.more, on.setting, on.written, on.kept)

-- nothing is done
pub goes_none : {L : Type 0} (a : PostState L) → GoesOn a a
goes_none a = record {
  index = refl;
  setting = refl;
  keeps = λ before es written is. (
    [],
    refl,
    subst (λ (l : List Entry). IsWritten before a.recorder l) (sym (append-nil es)) written,
    subst (λ (l : List Entry). IsKept a.station.index a.station.node a.recorder l (Some (datagrams_sent a.station.line))) (sym (append-nil es)) is,
  );
  prints = λ before start es written is. (
    [],
    subst (λ (l : List Entry). IsWritten before a.recorder l) (sym (append-nil es)) written,
    subst (λ (l : List Entry). IsPrinted start l a.printing) (sym (append-nil es)) is,
  );
}

-- one thing after the other
pub goes_then : {L : Type 0} (a b c : PostState L) → GoesOn a b → GoesOn b c → GoesOn a c
goes_then a b c first second = record {
  index = second.index ∙ first.index;
  setting = second.setting ∙ first.setting;
  keeps = λ before es written is.
      let one = first.keeps before es written is in
      let two = second.keeps before (es ++ one.0) one.2
      (subst (λ (i : ℕ). IsKept i b.station.node b.recorder (es ++ one.0) (Some (datagrams_sent b.station.line))) (sym first.index) one.3) in (
        one.0 ++ two.0,
        two.1 ∙ one.1,
        subst (λ (l : List Entry). IsWritten before c.recorder l) (append_assoc es one.0 two.0) two.2,
        subst (λ (i : ℕ). IsKept i c.station.node c.recorder (es ++ (one.0 ++ two.0)) (Some (datagrams_sent c.station.line))) first.index
            (subst (λ (l : List Entry). IsKept b.station.index c.station.node c.recorder l (Some (datagrams_sent c.station.line))) (append_assoc es one.0 two.0) two.3),
      );
  prints = λ before start es written is.
      let one = first.prints before start es written is in
      let two = second.prints before start (es ++ one.0) one.1 one.2 in (
        one.0 ++ two.0,
        subst (λ (l : List Entry). IsWritten before c.recorder l) (append_assoc es one.0 two.0) two.1,
        subst (λ (l : List Entry). IsPrinted start l c.printing) (append_assoc es one.0 two.0) two.2,
      );
}
