use Rattle.std.proofs.Common.{◌≡◌, ◌<◌, ℕ, List, [], ◌∷◌, ◌++◌, length, take, get_or, sym, ap, ◌∙◌, subst}
use Rattle.std.proofs.lemmas.List.{take_more, take_all}
use Rattle.std.proofs.lemmas.List.Elements.{All-get_or}
use Rattle.exercise_findings.specs.Column.{IsShortColumn}
use Rattle.exercise_findings.specs.Number.{entry_number, IsNumberOf}
use Rattle.exercise_findings.specs.Firsts.{first_under}
use Rattle.exercise_findings.proofs.Ables.{change_among, among_none, among_more, among_still, among_all}
use Rattle.exercise_findings.proofs.behind.changes_behind.Goals.{in-Some+in_ok-put_number, in_default}
use Rattle.exercise_findings.proofs.behind.changes_behind.Goals as goal

pub loop-able-preserved : goal.loop-able-preserved
loop-able-preserved g c =
    let r = g.L.ExerciseLog.recording c.args.log.now in
    let n = length r.entries in
    let i = c.loop-able.able-index in
    let xs : List ℕ = c.args.ables.now in
    let x : ℕ = get_or xs i 0 in
    let within : x < n = All-get_or (λ k. k < n) xs i 0 c.loop-able-test.true c.requires.ables.within in
    let more : IsShortColumn 4294967295 (IsNumberOf (change_among r (take i xs ++ x ∷ []))) n c.match-entry_change_key.changes.items =
    elim c.match-entry_change_key.branch [
      | in-Some+in_ok-put_number w ↦
          let key = w.in-Some.key in
          subst (λ v. IsShortColumn 4294967295 (IsNumberOf (change_among r (take i xs ++ x ∷ []))) n v.items) (sym w.changes-is)
          (among_more r n (take i xs) x key w.entry_number-change.result c.loop-able.changes.items w.put_number.new.column.items
          within c.entry_count-end.ensures.limits.count (sym w.in-Some.is ∙ c.entry_change_key.ensures)
          (w.entry_number-change.ensures ∙ ap entry_number (w.first_near.ensures ∙ ap (first_under r key) c.entry_count-end.ensures.count))
          w.in_ok-put_number.ensures c.loop-able.invariant)
      | in_default w ↦
          subst (λ v. IsShortColumn 4294967295 (IsNumberOf (change_among r (take i xs ++ x ∷ []))) n v.items) (sym w.changes-is)
          (among_still r n (take i xs) x c.loop-able.changes.items (sym w.in_default.is ∙ c.entry_change_key.ensures) c.loop-able.invariant)
    ] in
    subst (λ ys. IsShortColumn 4294967295 (IsNumberOf (change_among r ys)) n c.match-entry_change_key.changes.items) (sym (take_more xs i 0 c.loop-able-test.true)) more

pub returns : goal.returns
returns g c =
    let r = g.L.ExerciseLog.recording c.args.log.now in
    let xs : List ℕ = c.args.ables.now in
    let all : take c.loop-able.able-index xs ≡ xs = take_all c.loop-able.able-index xs c.loop-able-test.false in
    among_all r xs c.loop-able.changes.items c.requires.ables
    (subst (λ ys. IsShortColumn 4294967295 (IsNumberOf (change_among r ys)) (length r.entries) c.loop-able.changes.items) all c.loop-able.invariant)

pub loop-able-init : goal.loop-able-init
loop-able-init g c =
    let r = g.L.ExerciseLog.recording c.args.log.now in
    subst (λ (ys : List ℕ). IsShortColumn 4294967295 (IsNumberOf (change_among r [])) (length r.entries) ys) (sym c.new-changes.ensures.items) (among_none r (length r.entries))
