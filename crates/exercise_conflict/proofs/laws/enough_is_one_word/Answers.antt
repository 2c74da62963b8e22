use Rattle.std.proofs.Common.{◌≡◌, ⊎_elim, true, false, refl}
use Rattle.exercise_model.specs.Recording.{PlainRecording}
use Rattle.exercise_conflict.specs.declared.repair.Enough.{Enough}
use Rattle.exercise_conflict.specs.declared.repair.Enough.TheVariants.{Yes, No, Unknown}
use Rattle.exercise_conflict.specs.Repair.{repaired, is_too_long, is_able_missing, IsUnexplained, IsEnough}
use Rattle.exercise_conflict.proofs.laws.enough_is_one_word.Goals as goal

no_yes : (r : PlainRecording) → IsEnough r Yes → IsEnough r No → ⊥
no_yes r some none = none.2 some.1.0 some.1.1

unknown_yes : (r : PlainRecording) → IsEnough r Yes → IsEnough r Unknown → ⊥
unknown_yes r some unknown =
    ⊎_elim (λ (long : is_too_long r ≡ true). absurd (cc (some.0)))
    (λ (left : (is_too_long r ≡ false) × (is_able_missing r ≡ true) × IsUnexplained (repaired r)). left.2 some.1.0 some.1.1) unknown

unknown_no : (r : PlainRecording) → IsEnough r No → IsEnough r Unknown → ⊥
unknown_no r none unknown =
    ⊎_elim (λ (long : is_too_long r ≡ true). absurd (cc (none.0)))
    (λ (left : (is_too_long r ≡ false) × (is_able_missing r ≡ true) × IsUnexplained (repaired r)). absurd (cc (none.1, left.1))) unknown

one_word : (r : PlainRecording) (word other : Enough) → IsEnough r word → IsEnough r other → word ≡ other
one_word r Yes Yes a b = refl
one_word r No No a b = refl
one_word r Unknown Unknown a b = refl
one_word r Yes No a b = absurd (no_yes r a b)
one_word r No Yes a b = absurd (no_yes r b a)
one_word r Yes Unknown a b = absurd (unknown_yes r a b)
one_word r Unknown Yes a b = absurd (unknown_yes r b a)
one_word r No Unknown a b = absurd (unknown_no r a b)
one_word r Unknown No a b = absurd (unknown_no r b a)

pub returns-clause-one : goal.returns-clause-one
returns-clause-one c = one_word

pub returns-clause-yes : goal.returns-clause-yes
returns-clause-yes c = λ r some. some.1

pub returns-clause-no : goal.returns-clause-no
returns-clause-no c = λ r h none explains. none.2 h explains
