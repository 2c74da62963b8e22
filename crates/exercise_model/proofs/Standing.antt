-- Where entries stand in a run that explains their recording, and what holds there.
use Rattle.std.proofs.Common.{◌≡◌, ⊎_elim, ℕ, ◌+◌, ◌<◌, ◌∷◌, ◌++◌, length, Some, sym, ap, ◌∙◌, subst, arith, length-append}
use Rattle.std.proofs.lemmas.Option.{same_Some}
use Rattle.exercise_model.specs.Recording.{PlainRecording}
use Rattle.exercise_model.specs.History.{Event, Send, History, station_of, log_at, station_at}
use Rattle.exercise_model.specs.State.{entities_after}
use Rattle.exercise_model.specs.Place.{own_event, log_before}
use Rattle.exercise_model.specs.Run.{Explains, IsBeginning, Represents, Contains}
use Rattle.exercise_model.specs.Account.{pair_of}
use Rattle.exercise_model.specs.Pairing.{SendsAnswer}
use Rattle.exercise_model.specs.Alike.{HasPlace, IsPairIn, IsAsSaid}
use Rattle.exercise_model.proofs.Beginnings.{log_at-append, log_before-next}
use Rattle.exercise_model.proofs.Confluence.{log_at-own}
use Rattle.exercise_model.proofs.Places.{stands_in}
use Rattle.exercise_model.proofs.Wholes.{answer_paired, pair_of_answer}
use Rattle.exercise_model.proofs.Knowledge.{in_order, own_sent}

-- behind an event its station did more than before it
did_more : (c d : History) (v : Event) → Contains d c v → length (log_at (station_of v) c) < length (log_at (station_of v) d)
did_more c d v within =
    let s = station_of v in
    let parts : log_at s d ≡ log_at s within.0 ++ log_at s (v ∷ c) = ap (log_at s) (sym within.1) ∙ log_at-append s within.0 (v ∷ c) in
    let size : length (log_at s d) ≡ length (log_at s within.0) + length (log_at s (v ∷ c)) =
    ap length parts ∙ length-append (log_at s within.0) (log_at s (v ∷ c)) in
    let own : length (log_at s (v ∷ c)) ≡ length (log_at s c) + 1 = ap length (log_at-own v c) ∙ omega arith in
    omega (arith, size, own)

-- so an entry has one place
one_place : (r : PlainRecording) (h c d : History) (i : ℕ) (v : Event) → Contains h c v → Represents r i c v → Contains h d v → Represents r i d v → c ≡ d
one_place r h c d i v one here other there =
    ⊎_elim (λ before. absurd (let more = did_more c d v before in omega (arith, more, here.place, there.place)))
    (λ rest. ⊎_elim (λ same. same.0) (λ behind. absurd (let more = did_more d c v behind in omega (arith, more, here.place, there.place))) rest)
    (in_order h c d v v one other)

-- EACH ENTRY HAS ITS PLACE
pub entry_stands : (r : PlainRecording) (h : History) (i : ℕ) (v : Event) → Explains r h → own_event r (station_of v) i ≡ Some v → HasPlace r h i v
entry_stands r h i v explains own =
    let s = station_of v in
    let at = stands_in r h s i v own (subst (IsBeginning (v ∷ log_before r s i)) (sym (explains.logs s)) (log_before-next r s i v own)) in
    record {
      before = at.earlier;
      within = at.within;
      stands = at.stands;
      log = at.log;
      only = λ place within stands. one_place r h place at.earlier i v within stands at.within at.stands;
    }

-- where it sends an answer, it has a pair there
answer_stands : (r : PlainRecording) (h : History) (i : ℕ) → Explains r h → SendsAnswer r i → (j : ℕ) × (pair_of r i ≡ Some j) × IsPairIn r h i j
answer_stands r h i explains answer =
    let s = answer.station in
    let v : Event = Send s answer.bytes in
    let at = entry_stands r h i v explains (own_sent r s i answer.stamp answer.bytes answer.at) in
    let found = answer_paired r h at.before s answer.bytes answer.pdu i explains at.within at.stands answer.meant answer.answer in
    (found.0, found.1, record { answer = answer; place = at; taken = found.2 })

pair_stands : (r : PlainRecording) (h : History) (i j : ℕ) → Explains r h → pair_of r i ≡ Some j → IsPairIn r h i j
pair_stands r h i j explains pair =
    let found = answer_stands r h i explains (pair_of_answer r i j pair) in
    subst (IsPairIn r h i) (same_Some found.0 j (sym found.1 ∙ pair)) found.2

-- WHAT A RECORDING SAYS IS SO IN EVERY RUN THAT EXPLAINS IT
pub always_as_said : (r : PlainRecording) (h : History) → Explains r h → IsAsSaid r h
always_as_said r h explains = record {
  places = λ i v own. entry_stands r h i v explains own;
  pairs = λ i answer. answer_stands r h i explains answer;
  no_others = λ i j pair. pair_stands r h i j explains pair;
  entities = λ s. ap (λ log. entities_after r.setting.exercise (station_at r s) log) (sym (explains.logs s));
}
