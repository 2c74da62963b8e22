-- Texts for 0, 1 and so on, one after the other.
use Rattle.std.proofs.Common.{◌≡◌, ℕ, ◌+◌, ◌<◌, List, [], ◌++◌, cond, length, refl, sym, ap, ◌∙◌, subst, append_assoc, append-nil}
use Rattle.std.proofs.Math.Numerals.{add-one}
use Rattle.std.proofs.lemmas.Bool.{lt-ltb}
use Rattle.exercise_model.specs.Recording.{PlainRecording}
use Rattle.exercise_model.specs.Account.{entities_of, states_of}
use Rattle.siman_print.specs.Below.{texts_below}

-- no text, behind what there is
pub texts-none : (text : ℕ → List ℕ) (start : List ℕ) → start ≡ start ++ texts_below text 0
unfolding texts_below
texts-none text start = sym (append-nil start)

pub texts_below-more : (text : ℕ → List ℕ) (n : ℕ) → texts_below text (n + 1) ≡ texts_below text n ++ text n
unfolding texts_below
texts_below-more text n = rw add-one refl

-- a text, behind those before it
pub texts-with-next : (text : ℕ → List ℕ) (n : ℕ) (start old new : List ℕ) → new ≡ old ++ text n → old ≡ start ++ texts_below text n
    → new ≡ start ++ texts_below text (n + 1)
texts-with-next text n start old new step before =
    step ∙ ap (λ t. t ++ text n) before ∙ append_assoc start (texts_below text n) (text n) ∙ ap (λ t. start ++ t) (sym (texts_below-more text n))

-- a line of what is the same
pub line-of-same : {X : Type 0} (line : X → List ℕ) (old new : List ℕ) (given own : X) → new ≡ old ++ line given → given ≡ own → new ≡ old ++ line own
line-of-same line old new given own step same = subst (λ x. new ≡ old ++ line x) same step

-- the entities of a station that is there
pub states_of-station : (r : PlainRecording) (s : ℕ) → s < length r.setting.stations → states_of r s ≡ entities_of r s
states_of-station r s within = ap (λ b. cond b (entities_of r s) []) (lt-ltb s (length r.setting.stations) within)
