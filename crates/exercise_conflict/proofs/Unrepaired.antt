-- A recording whose logs lack nothing is its own repair.
use Rattle.std.proofs.Common.{◌≡◌, ℕ, zero, suc, ◌+◌, ◌≤◌, List, [], ◌∷◌, ◌++◌, map, length, take, true, false, refl, sym, ap, ◌∙◌, subst, arith}
use Rattle.std.specs.Prelude.{slice_index_or, nat_lt}
use Rattle.std.specs.List.{list_any}
use Rattle.std.proofs.Math.Numerals.{add-one}
use Rattle.std.proofs.lemmas.Bool.{le-ltb}
use Rattle.std.proofs.lemmas.List.{length-map, map-append, take_more, take_all}
use Rattle.exercise_model.specs.declared.recording.TheConstants.{MOST_ENTRIES}
use Rattle.exercise_model.specs.Entry.{Entry}
use Rattle.exercise_model.specs.Recording.{PlainRecording, IsRecording}
use Rattle.exercise_conflict.specs.declared.lacks.MissingSend.{MissingSend}
use Rattle.exercise_conflict.specs.declared.repair.Enough.TheVariants.{No}
use Rattle.exercise_conflict.specs.declared.repair.Repair.{Repair}
use Rattle.exercise_conflict.specs.Lacks.{missing_sends}
use Rattle.exercise_conflict.specs.Repair.{no_entry, slot_entry, kept, slots_below, repaired, is_too_long, is_able_at, is_able_missing, IsUnexplained, IsRepairOf}

-- the slots of n entries, to which nothing is added, show these entries
kept_alone : (r : PlainRecording) (n : ℕ) → n ≤ length r.entries → map (slot_entry r) (slots_below [] n) ≡ take n r.entries
unfolding slots_below
kept_alone r zero le = refl
kept_alone r (suc n) le =
    map-append (slot_entry r) (slots_below [] n) (kept n ∷ [])
    ∙ ap (λ es. es ++ slice_index_or r.entries n no_entry ∷ []) (kept_alone r n (omega (arith, le)))
    ∙ sym (ap (λ k. take k r.entries) (sym (add-one n)) ∙ take_more r.entries n no_entry (omega (arith, le)))

all_kept : (r : PlainRecording) → missing_sends r ≡ [] → map (slot_entry r) (slots_below (missing_sends r) (length r.entries)) ≡ r.entries
all_kept r none =
    ap (λ xs. map (slot_entry r) (slots_below xs (length r.entries))) none ∙ kept_alone r (length r.entries) (omega arith) ∙ take_all (length r.entries) r.entries (omega arith)

repaired_same : (r : PlainRecording) → missing_sends r ≡ [] → repaired r ≡ r
unfolding repaired
repaired_same r none =
    ap (λ (es : List Entry). let s : PlainRecording = record { setting = r.setting; entries = es } in s) (all_kept r none)

not_too_long : (r : PlainRecording) → IsRecording r → missing_sends r ≡ [] → is_too_long r ≡ false
unfolding is_too_long
not_too_long r limits none =
    let count : length (slots_below (missing_sends r) (length r.entries)) ≡ length r.entries =
    sym (length-map (slots_below (missing_sends r) (length r.entries)) (slot_entry r)) ∙ ap length (all_kept r none) in
    le-ltb _ _ (omega (arith, count, limits.count))

lacks_none : (r : PlainRecording) → missing_sends r ≡ [] → is_able_missing r ≡ false
unfolding is_able_missing
lacks_none r none = ap (list_any (λ (lack : MissingSend). is_able_at r lack.entry)) none

-- NOTHING REPAIRS a recording that no run explains and whose logs lack nothing
pub nothing_repairs : (r : PlainRecording) (xs : List MissingSend) → IsRecording r → IsUnexplained r → xs ≡ missing_sends r → length xs ≡ 0
    → IsRepairOf r (record { sends = 0; enough = No })
nothing_repairs r xs limits unexplained is none =
    let empty : missing_sends r ≡ [] = sym is ∙ nil_of xs none in
    record {
      sends = sym (ap length empty);
      enough = (not_too_long r limits empty, lacks_none r empty, subst IsUnexplained (sym (repaired_same r empty)) unexplained);
    }
  where
    nil_of : (xs : List MissingSend) → length xs ≡ 0 → xs ≡ []
    nil_of [] e = refl
    nil_of (x ∷ xs) e = absurd (omega (arith, e))
