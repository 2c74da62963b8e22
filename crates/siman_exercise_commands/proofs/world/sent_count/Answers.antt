-- One more entry was counted if it was sent.
use Rattle.std.proofs.Common.{◌≡◌, ◌<◌, ℕ, List, length, get_or, map, sym, ap, ◌∙◌, rules}
use Rattle.std.proofs.lemmas.List.{get_or-map, length-map}
use Rattle.exercise_model.specs.declared.entry.LogEntry.{LogEntry}
use Rattle.exercise_model.specs.Held.{kept}
use Rattle.siman_exercise_commands.proofs.Files.{more_sent}
use Rattle.siman_exercise_commands.proofs.world.sent_count.Goals.{then-is_sent, else-is_sent}
use Rattle.siman_exercise_commands.proofs.world.sent_count.Goals as goal

-- an entry of a list, apart from memory
kept_at : (xs : List LogEntry) (i : ℕ) (x : LogEntry) → i < length xs → x ≡ get_or xs i x → kept x ≡ get_or (map kept xs) i (kept x)
kept_at xs i x within at = ap kept at ∙ sym (get_or-map kept xs i x (kept x) within)

pub loop-entry-preserved : goal.loop-entry-preserved
loop-entry-preserved c =
    let x = c.entry-item.result in
    let xs = c.args.entries.now in
    let i = c.loop-entry.entry-index in
    let within : i < length (map kept xs) = rw length-map c.loop-entry-test.true in
    let more = more_sent (map kept xs) i (kept x) within (kept_at xs i x c.loop-entry-test.true c.entry-item.is) in
    search (rules, more)
