-- The lines of a conflict, and behind them those of the entries that they name.
use Rattle.std.proofs.Common.{refl, inr}
use Rattle.exercise_conflict.specs.Told.{conflict_lines, conflict_entries}
use Rattle.exercise_log.specs.Named.{named_lines}
use Rattle.siman_file_commands.proofs.Said.{said_behind}
use Rattle.siman_file_commands.proofs.why.contradicted.Goals as goal

pub returns : goal.returns
returns g c =
    let first = rw c.log.ensures at c.in_ok-put_conflict.ensures in
    let second = rw (c.in_ok-entries.ensures, c.deref.ensures.value, c.in_ok-named.ensures) at c.in_ok-put_named.ensures in
    let told = said_behind c.args.spelling _ _ _ (conflict_lines c.args.findings c.args.conflict.now) (named_lines c.args.findings (conflict_entries c.args.conflict.now)) c.new-text.ensures.bytes first second in
    inr (record { conflict = c.args.conflict.now; contradicts = c.requires.contradicts; text_is = told }, refl)
