-- The arrows of a good certificate lead down from the sources of receipts.
use Rattle.std.proofs.Common.{◌≡◌, ⊎_elim, ℕ, zero, suc, ◌<◌, ◌≤◌, List, [], ◌∷◌, length, take, Bool, true, false, Option, Some, None, refl, sym, ap, ◌∙◌, subst, arith}
use Rattle.std.specs.Prelude.{All, Contains, ◌||◌, unwrap_or, slice_get, option_and_then, if◌then◌else◌}
use Rattle.std.specs.Option.{option_map_or, option_or, option_to_list}
use Rattle.std.proofs.lemmas.Bool.{cases_lt, eqb-true, eq-eqb, lt-ltb}
use Rattle.std.proofs.lemmas.List.{get_or-take, length-take-le}
use Rattle.std.proofs.lemmas.List.Elements.{All-nil, All-cons, All-append, Contains-append_left, Contains-append_right, Contains-push}
use Rattle.std.proofs.lemmas.Option.{slice_get_within}
use Rattle.exercise_model.specs.Entry.{Entry, Sent, Received, Told}
use Rattle.exercise_model.specs.Recording.{PlainRecording, IsRecording}
use Rattle.exercise_model.specs.History.{Get, event_of}
use Rattle.exercise_model.specs.Meaning.{meaning}
use Rattle.exercise_model.specs.Setting.{must_have_sent}
use Rattle.exercise_model.specs.Cause.{sends}
use Rattle.exercise_model.specs.Place.{first_below}
use Rattle.exercise_model.specs.Account.{pair_of_entry, pair_of, sender_of}
use Rattle.exercise_model.proofs.Offered.{first_found}
use Rattle.exercise_findings.specs.Source.{sends_here, first_send, source_of_pdu, source_of_entry, source_of}
use Rattle.exercise_check.specs.declared.certificate.Step.{Step}
use Rattle.exercise_check.specs.Sequence.{first_sender, sender_link, link_of, link_number}
use Rattle.exercise_check.specs.Goodness.{no_step, IsGood}
use Rattle.exercise_check.proofs.Offered.{entry_within, good_step}
use Rattle.exercise_findings.proofs.Offered.{source_here}
use Rattle.exercise_check.specs.Links.{log_link, step_at, IsNamedOnce}
use Rattle.exercise_review.specs.Room.{lists_below}
use Rattle.dis_records.specs.declared.entity.EntityId.{EntityId}
use Rattle.exercise_chart.specs.declared.point.Rows.{Rows}
use Rattle.exercise_chart.specs.declared.selection.BlockedEntry.{BlockedEntry}
use Rattle.exercise_chart.specs.Window.{is_row}
use Rattle.exercise_chart.specs.Point.{takes, first_step, step_of}
use Rattle.exercise_chart.specs.Scene.{SceneData}
use Rattle.exercise_chart.specs.Arrow.{arrow_between, arrow_from, arrow_to, arrows_to, arrows_of}
use Rattle.exercise_chart.specs.Marks.{scene_of}
use Rattle.exercise_chart.specs.Picture.{LeadsDown}

-- ---- which step takes an entry

-- some number passes, so the first that does is no later
first_up_to : (test : ℕ → Bool) (n k : ℕ) → k < n → test k ≡ true → (m : ℕ) × (first_below test n ≡ Some m) × (m ≤ k)
unfolding first_below
first_up_to test zero k within passes = absurd (let no : ⊥ = omega (arith, within) in no)
first_up_to test (suc n) k within passes =
    ⊎_elim
    (λ (below : k < n).
    let found = first_up_to test n k below passes in
    (found.0, ap (λ o. option_or o (if test n then Some n else None)) found.1, found.2))
    (λ (from : n ≤ k).
    let same : n ≡ k = omega (arith, from, within) in
    elim (first_below test n) as (λ o. first_below test n ≡ o → (m : ℕ) × (option_or o (if test n then Some n else None) ≡ Some m) × (m ≤ k)) [
      | None ↦ λ _. (n, ap (λ (b : Bool). if b then Some n else None) (ap test same ∙ passes), omega (arith, same))
      | Some m ↦ λ found. (m, refl, omega (arith, (first_found test n m found).below, same))
    ] refl)
    (cases_lt k n)

-- an entry that a step takes has its first step no later
step_up_to : (r : PlainRecording) (steps : List Step) (i k : ℕ) → i < length r.entries → k < length steps → (step_at steps k).place ≡ i
    → (step_of r steps i ≤ k) × (takes steps i (step_of r steps i) ≡ true)
unfolding first_step
step_up_to r steps i k within below takes_it =
    let found = first_up_to (takes steps i) (length steps) k below (eq-eqb _ _ takes_it) in
    let is : step_of r steps i ≡ found.0 =
    ap (λ (b : Bool). unwrap_or (if b then first_below (takes steps i) (length steps) else None) (length steps)) (lt-ltb _ _ within)
    ∙ ap (λ o. unwrap_or o (length steps)) found.1 in
    (omega (arith, found.2, is), ap (takes steps i) is ∙ (first_found (takes steps i) (length steps) found.0 found.1).passes)

-- the step of an entry that steps name once
pub step_is : (r : PlainRecording) (steps : List Step) (i : ℕ) → i < length r.entries → (once : IsNamedOnce steps i) → step_of r steps i ≡ once.at
step_is r steps i within once =
    let up = step_up_to r steps i once.at within once.within once.names in
    once.only (step_of r steps i) (omega (arith, up.0, once.within)) (eqb-true _ _ up.1)

-- ---- where a source stands

-- the entry of the first step that sends a datagram is named by one of the steps
named_sender : (r : PlainRecording) (b : List ℕ) (steps : List Step) (j : ℕ) → first_sender r.entries b steps ≡ Some j
    → (k : ℕ) × (k < length steps) × ((step_at steps k).place ≡ j)
unfolding first_sender
named_sender r b [] j found = absurd (cc)
named_sender r b (step ∷ steps) j found =
    elim (option_map_or (λ e. sends b (event_of e)) (slice_get r.entries step.place) false) as
    (λ t. (if t then Some step.place else first_sender r.entries b steps) ≡ Some j → (k : ℕ) × (k < length (step ∷ steps)) × ((step_at (step ∷ steps) k).place ≡ j)) [
      | true ↦ λ here. (0, omega arith, cc)
      | false ↦ λ further. let later = named_sender r b steps j further in (suc later.0, omega (arith, later.1), later.2)
    ] found

-- a link that is an entry is that entry
link_there : (o : Option ℕ) (j : ℕ) → link_number o ≡ j → j < 4294967295 → o ≡ Some j
link_there None j same few = absurd (let no : ⊥ = omega (arith, same, few) in no)
link_there (Some x) j same few = ap Some same

-- a source is an entry of the recording
source_there : (r : PlainRecording) (b : List ℕ) (j : ℕ) → option_and_then (source_of_pdu r b) (meaning r.setting.exercise b) ≡ Some j → j < length r.entries
unfolding first_send
source_there r b j =
    elim (meaning r.setting.exercise b) as (λ o. option_and_then (source_of_pdu r b) o ≡ Some j → j < length r.entries) [
      | None ↦ λ h. absurd (cc)
      | Some p ↦ elim (sender_of r p) as (λ o. option_and_then (first_send r b) o ≡ Some j → j < length r.entries) [
        | None ↦ λ h. absurd (cc)
        | Some t ↦ λ h. (first_found (sends_here r b t) (length r.entries) j h).below
      ]
    ]

-- a receipt is linked with an entry that a step before took
linked_sender : (r : PlainRecording) (before : List Step) (i s j : ℕ) (b : List ℕ) → link_of r before i (Get s b) ≡ Some j
    → first_sender r.entries b before ≡ Some j
unfolding link_of
linked_sender r before i s j b =
    elim (meaning r.setting.exercise b) as (λ o. option_and_then (sender_link r b before) o ≡ Some j → first_sender r.entries b before ≡ Some j) [
      | None ↦ λ h. absurd (cc)
      | Some p ↦ elim (must_have_sent r.setting p) as
          (λ t. (if t then first_sender r.entries b before else None) ≡ Some j → first_sender r.entries b before ≡ Some j) [
            | true ↦ λ h. h
            | false ↦ λ h. absurd (cc)
          ]
    ]

-- of a receipt the step of its source comes before
received_down : (r : PlainRecording) (steps : List Step) (i j s stamp : ℕ) (b : List ℕ) → IsRecording r → IsGood r steps → i < length r.entries
    → (once : IsNamedOnce steps i) → (step_at steps once.at).link ≡ link_number (log_link r (step_at steps once.at).place)
    → slice_get r.entries i ≡ Some (Received s stamp b) → source_of_entry r (Received s stamp b) ≡ Some j
    → (j < length r.entries) × (step_of r steps j < step_of r steps i)
unfolding pair_of
received_down r steps i j s stamp b limits good within once said at source =
    let k : ℕ = once.at in
    let here = good_step r (take k steps) (step_at steps k) (good.good k once.within) in
    let entry : Some here.0 ≡ Some (Received s stamp b) = sym here.1.at ∙ ap (slice_get r.entries) once.names ∙ at in
    let event : event_of here.0 ≡ Get s b = ap (λ o. option_map_or event_of o (Get s b)) entry in
    let there : j < length r.entries = source_there r b j source in
    let by_logs : log_link r i ≡ Some j =
    ap (λ o. option_or (option_and_then (pair_of_entry r i) o) (source_of r i)) at ∙ source_here r i (Received s stamp b) at ∙ source in
    let link : link_number (link_of r (take k steps) i (Get s b)) ≡ j =
    ap (λ p. link_number (link_of r (take k steps) p (Get s b))) (sym once.names)
    ∙ ap (λ v. link_number (link_of r (take k steps) (step_at steps k).place v)) (sym event)
    ∙ sym here.1.link ∙ said ∙ ap (λ p. link_number (log_link r p)) once.names ∙ ap link_number by_logs in
    let sender = linked_sender r (take k steps) i s j b (link_there _ j link (omega (arith, there, limits.count))) in
    let named = named_sender r b (take k steps) j sender in
    let count : length (take k steps) ≡ k = length-take-le k steps (omega (arith, once.within)) in
    let below : named.0 < k = omega (arith, named.1, count) in
    let place : (step_at steps named.0).place ≡ j = ap (λ (x : Step). x.place) (sym (get_or-take k steps named.0 no_step below)) ∙ named.2 in
    let up = step_up_to r steps j named.0 there (omega (arith, below, once.within)) place in
    let mine : step_of r steps i ≡ k = step_is r steps i within once in
    (there, omega (arith, up.0, below, mine))

-- THE SOURCE OF A RECEIPT STANDS BEFORE IT
source_before : (r : PlainRecording) (steps : List Step) (i j : ℕ) → IsRecording r → IsGood r steps → i < length r.entries
    → (once : IsNamedOnce steps i) → (step_at steps once.at).link ≡ link_number (log_link r (step_at steps once.at).place)
    → source_of r i ≡ Some j → (j < length r.entries) × (step_of r steps j < step_of r steps i)
source_before r steps i j limits good within once said source =
    let entry = entry_within r.entries i within in
    by_entry entry.0 entry.1 (sym (source_here r i entry.0 entry.1) ∙ source)
  where
    by_entry : (e : Entry) → slice_get r.entries i ≡ Some e → source_of_entry r e ≡ Some j → (j < length r.entries) × (step_of r steps j < step_of r steps i)
    by_entry (Sent s stamp b) at from = absurd (cc)
    by_entry (Received s stamp b) at from = received_down r steps i j s stamp b limits good within once said at from
    by_entry (Told s e y) at from = absurd (cc)

-- ---- arrows

-- each entry is named once, and each link is what the logs say
abbrev pub AreNamedOnce : PlainRecording → List Step → Type 0
AreNamedOnce r steps = (i : ℕ) → i < length r.entries → IsNamedOnce steps i

abbrev pub AreLinked : PlainRecording → List Step → Type 0
AreLinked r steps = (k : ℕ) → k < length steps → (step_at steps k).link ≡ link_number (log_link r (step_at steps k).place)

arrow_down : (r : PlainRecording) (steps : List Step) (w : Rows) (chosen : List EntityId) (blocked : List BlockedEntry) (i : ℕ) → IsRecording r → IsGood r steps
    → AreNamedOnce r steps → AreLinked r steps
    → i < length r.entries → All (LeadsDown r steps w) (arrows_to (scene_of r steps w chosen blocked) i)
unfolding arrow_to
arrow_down r steps w chosen blocked i limits good once said within =
    elim (source_of r i) as (λ o. source_of r i ≡ o → All (LeadsDown r steps w) (option_to_list (option_and_then (arrow_from c i) o))) [
      | None ↦ λ _. All-nil (LeadsDown r steps w)
      | Some j ↦ λ source. from j source
    ] refl
  where
    c : SceneData
    c = scene_of r steps w chosen blocked

    from : (j : ℕ) → source_of r i ≡ Some j → All (LeadsDown r steps w) (option_to_list (arrow_from c i j))
    from j source =
        let it = once i within in
        let down = source_before r steps i j limits good within it (said it.at it.within) source in
        elim (is_row w (step_of r steps j) || is_row w (step_of r steps i)) as
        (λ t. (is_row w (step_of r steps j) || is_row w (step_of r steps i)) ≡ t
        → All (LeadsDown r steps w) (option_to_list (if t then Some (arrow_between c j i) else None))) [
          | true ↦ λ shown. All-cons (LeadsDown r steps w) (arrow_between c j i) []
              (record { source = source; from = refl; to = refl; down = down.1; shown = shown }) (All-nil (LeadsDown r steps w))
          | false ↦ λ _. All-nil (LeadsDown r steps w)
        ] refl

pub all_below : {X : Type 0} (P : X → Type 0) (f : ℕ → List X) (n : ℕ) → ((k : ℕ) → k < n → All P (f k)) → All P (lists_below f n)
unfolding lists_below
all_below P f zero each = All-nil P
all_below P f (suc n) each = All-append P (lists_below f n) (f n) (all_below P f n (λ k below. each k (omega (arith, below)))) (each n (omega arith))

contains_below : {X : Type 0} (f : ℕ → List X) (n k : ℕ) (x : X) → k < n → Contains (f k) x → Contains (lists_below f n) x
unfolding lists_below
contains_below f zero k x within has = absurd (let no : ⊥ = omega (arith, within) in no)
contains_below f (suc n) k x within has =
    ⊎_elim
    (λ (below : k < n). Contains-append_left (lists_below f n) (f n) x (contains_below f n k x below has))
    (λ (from : n ≤ k). let same : k ≡ n = omega (arith, from, within) in
    Contains-append_right (lists_below f n) (f n) x (subst (λ m. Contains (f m) x) same has))
    (cases_lt k n)

-- THE ARROWS LEAD DOWN
pub arrows_down : (r : PlainRecording) (steps : List Step) (w : Rows) (chosen : List EntityId) (blocked : List BlockedEntry) → IsRecording r → IsGood r steps
    → AreNamedOnce r steps → AreLinked r steps
    → All (LeadsDown r steps w) (arrows_of (scene_of r steps w chosen blocked))
unfolding arrows_of
arrows_down r steps w chosen blocked limits good once said =
    all_below (LeadsDown r steps w) (arrows_to (scene_of r steps w chosen blocked)) (length r.entries) (λ i within. arrow_down r steps w chosen blocked i limits good once said within)

source_entry : (r : PlainRecording) (i j : ℕ) → source_of r i ≡ Some j → i < length r.entries
unfolding source_of
source_entry r i j =
    elim (slice_get r.entries i) as (λ o. slice_get r.entries i ≡ o → option_and_then (source_of_entry r) o ≡ Some j → i < length r.entries) [
      | None ↦ λ _ h. absurd (cc)
      | Some e ↦ λ at _. slice_get_within r.entries i e at
    ] refl

-- OF EACH RECEIPT WITH A SOURCE there is one, where one of the two is in a row
pub arrow_drawn : (r : PlainRecording) (steps : List Step) (w : Rows) (chosen : List EntityId) (blocked : List BlockedEntry) (j i : ℕ) → source_of r i ≡ Some j
    → (is_row w (step_of r steps j) || is_row w (step_of r steps i)) ≡ true
    → Contains (arrows_of (scene_of r steps w chosen blocked)) (arrow_between (scene_of r steps w chosen blocked) j i)
unfolding arrows_of arrow_to
arrow_drawn r steps w chosen blocked j i source shown =
    contains_below (arrows_to c) (length r.entries) i (arrow_between c j i) (source_entry r i j source)
    (subst (λ xs. Contains xs (arrow_between c j i)) (sym is) (Contains-append_right [] (arrow_between c j i ∷ []) (arrow_between c j i) (first (arrow_between c j i))))
  where
    c : SceneData
    c = scene_of r steps w chosen blocked

    is : option_to_list (option_and_then (arrow_from c i) (source_of r i)) ≡ arrow_between c j i ∷ []
    is = ap (λ o. option_to_list (option_and_then (arrow_from c i) o)) source ∙ ap (λ (t : Bool). option_to_list (if t then Some (arrow_between c j i) else None)) shown

    first : {X : Type 0} (x : X) → Contains (x ∷ []) x
    first x = Contains-push [] x
