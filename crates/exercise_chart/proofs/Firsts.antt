-- Where each datagram was sent, or received, first, one entry more at a time.
use Rattle.std.proofs.Common.{◌≡◌, ℕ, ◌+◌, List, Bool, true, false, Option, Some, None, refl, sym, ap, ◌∙◌}
use Rattle.std.specs.Prelude.{◌&&◌, ◌==◌, bytes_eq, slice_get, option_and_then, if◌then◌else◌}
use Rattle.std.specs.Option.{option_map_or, option_or}
use Rattle.std.specs.Cmp.Lexicographic.{bytes_decides}
use Rattle.std.proofs.Math.Numerals.{add-one}
use Rattle.std.proofs.lemmas.Bool.{and_parts, eqb-true}
use Rattle.std.proofs.lemmas.Bool.Decides.{Decides-like, same_from_decides}
use Rattle.indexmap.specs.IndexMap.{get}
use Rattle.dis_records.specs.declared.entity_state.EntityState.{EntityState}
use Rattle.exercise_model.specs.Entry.{Sent, Received, Told}
use Rattle.exercise_model.specs.Recording.{PlainRecording}
use Rattle.exercise_model.specs.Place.{first_below}
use Rattle.exercise_review.specs.Entries.{bytes_sent_by, bytes_sent, bytes_received_by, bytes_received}
use Rattle.exercise_chart.specs.declared.deeds.StationDatagram.{StationDatagram}
use Rattle.exercise_chart.specs.Deeds.{has_bytes, same_deed, first_kept, Firsts, AreFirsts}

bytes_sym : (a b : List ℕ) → bytes_eq a b ≡ bytes_eq b a
bytes_sym a b = same_from_decides (bytes_eq a b) (bytes_eq b a) (bytes_decides a b) (Decides-like (bytes_eq b a) (λ e. sym e) (λ e. sym e) (bytes_decides b a))

pub firsts_none : (by : ℕ → ℕ → Option (List ℕ)) (firsts : Firsts) → ((k : StationDatagram) → get same_deed firsts k ≡ None) → AreFirsts by 0 firsts
unfolding first_below
firsts_none by firsts none k = none k

-- one number more, which passes or does not
pub first_more : (f : ℕ → Bool) (n : ℕ) (b : Bool) → f n ≡ b → first_below f (n + 1) ≡ option_or (first_below f n) (if b then Some n else None)
unfolding first_below
first_more f n b e = ap (first_below f) (add-one n) ∙ ap (λ c. option_or (first_below f n) (if c then Some n else None)) e

nothing : (o : Option ℕ) → o ≡ option_or o None
nothing None = refl
nothing (Some x) = refl

still_first : (f : ℕ → Bool) (n : ℕ) (o : Option ℕ) → f n ≡ false → o ≡ first_below f n → o ≡ first_below f (n + 1)
still_first f n o fails is = is ∙ nothing (first_below f n) ∙ sym (first_more f n false fails)

-- an entry without such bytes
pub firsts_still : (by : ℕ → ℕ → Option (List ℕ)) (n : ℕ) (firsts : Firsts) → ((s : ℕ) → by s n ≡ None) → AreFirsts by n firsts → AreFirsts by (n + 1) firsts
unfolding has_bytes
firsts_still by n firsts none so_far k =
    still_first (has_bytes by k.station k.bytes.now) n (get same_deed firsts k) (ap (λ o. option_map_or (bytes_eq k.bytes.now) o false) (none k.station)) (so_far k)

kept_first : (n : ℕ) (o : Option ℕ) → Some (first_kept n o) ≡ option_or o (Some n)
kept_first n None = refl
kept_first n (Some x) = refl

-- an entry with them
firsts_more : (by : ℕ → ℕ → Option (List ℕ)) (n : ℕ) (x : StationDatagram) (old new : Firsts)
    → ((k : StationDatagram) → has_bytes by k.station k.bytes.now n ≡ same_deed x k)
    → ((k : StationDatagram) → get same_deed new k ≡ (if same_deed x k then Some (first_kept n (get same_deed old x)) else get same_deed old k))
    → AreFirsts by n old → AreFirsts by (n + 1) new
firsts_more by n x old new here written so_far k =
    elim (same_deed x k) as (λ b. same_deed x k ≡ b → get same_deed new k ≡ first_below (has_bytes by k.station k.bytes.now) (n + 1)) [
      | true ↦ λ same.
          let parts = and_parts (x.station == k.station) _ same in
          let station : x.station ≡ k.station = eqb-true x.station k.station parts.0 in
          let bytes : x.bytes.now ≡ k.bytes.now = (bytes_decides x.bytes.now k.bytes.now).0 parts.1 in
          written k ∙ ap (λ (b : Bool). if b then Some (first_kept n (get same_deed old x)) else get same_deed old k) same
          ∙ kept_first n (get same_deed old x)
          ∙ ap (λ o. option_or o (Some n)) (so_far x
          ∙ ap (λ s. first_below (has_bytes by s x.bytes.now) n) station ∙ ap (λ (b : List ℕ). first_below (has_bytes by k.station b) n) bytes)
          ∙ sym (first_more (has_bytes by k.station k.bytes.now) n true (here k ∙ same))
      | false ↦ λ other.
          still_first (has_bytes by k.station k.bytes.now) n (get same_deed new k) (here k ∙ other)
          (written k ∙ ap (λ (b : Bool). if b then Some (first_kept n (get same_deed old x)) else get same_deed old k) other ∙ so_far k)
    ] refl

same_here : (x k : StationDatagram) → option_map_or (bytes_eq k.bytes.now) (if x.station == k.station then Some x.bytes.now else None) false ≡ same_deed x k
same_here x k =
    elim (x.station == k.station) as (λ c. option_map_or (bytes_eq k.bytes.now) (if c then Some x.bytes.now else None) false ≡ (c && bytes_eq x.bytes.now k.bytes.now)) [
      | true ↦ bytes_sym k.bytes.now x.bytes.now
      | false ↦ refl
    ]

-- ---- what is sent

pub sent_more : (r : PlainRecording) (n stamp : ℕ) (x : StationDatagram) (old new : Firsts) → slice_get r.entries n ≡ Some (Sent x.station stamp x.bytes.now)
    → ((k : StationDatagram) → get same_deed new k ≡ (if same_deed x k then Some (first_kept n (get same_deed old x)) else get same_deed old k))
    → AreFirsts (bytes_sent r) n old → AreFirsts (bytes_sent r) (n + 1) new
unfolding has_bytes bytes_sent
sent_more r n stamp x old new at written so_far =
    firsts_more (bytes_sent r) n x old new
    (λ k. ap (λ o. option_map_or (bytes_eq k.bytes.now) (option_and_then (bytes_sent_by k.station) o) false) at ∙ same_here x k) written so_far

pub received_sends_nothing : (r : PlainRecording) (n t stamp : ℕ) (b : List ℕ) → slice_get r.entries n ≡ Some (Received t stamp b) → (s : ℕ) → bytes_sent r s n ≡ None
unfolding bytes_sent
received_sends_nothing r n t stamp b at s = ap (option_and_then (bytes_sent_by s)) at

pub told_sends_nothing : (r : PlainRecording) (n t e : ℕ) (y : EntityState) → slice_get r.entries n ≡ Some (Told t e y) → (s : ℕ) → bytes_sent r s n ≡ None
unfolding bytes_sent
told_sends_nothing r n t e y at s = ap (option_and_then (bytes_sent_by s)) at

-- ---- what is received

pub got_more : (r : PlainRecording) (n stamp : ℕ) (x : StationDatagram) (old new : Firsts) → slice_get r.entries n ≡ Some (Received x.station stamp x.bytes.now)
    → ((k : StationDatagram) → get same_deed new k ≡ (if same_deed x k then Some (first_kept n (get same_deed old x)) else get same_deed old k))
    → AreFirsts (bytes_received r) n old → AreFirsts (bytes_received r) (n + 1) new
unfolding has_bytes bytes_received
got_more r n stamp x old new at written so_far =
    firsts_more (bytes_received r) n x old new
    (λ k. ap (λ o. option_map_or (bytes_eq k.bytes.now) (option_and_then (bytes_received_by k.station) o) false) at ∙ same_here x k) written so_far

pub sent_gets_nothing : (r : PlainRecording) (n t stamp : ℕ) (b : List ℕ) → slice_get r.entries n ≡ Some (Sent t stamp b) → (s : ℕ) → bytes_received r s n ≡ None
unfolding bytes_received
sent_gets_nothing r n t stamp b at s = ap (option_and_then (bytes_received_by s)) at

pub told_gets_nothing : (r : PlainRecording) (n t e : ℕ) (y : EntityState) → slice_get r.entries n ≡ Some (Told t e y) → (s : ℕ) → bytes_received r s n ≡ None
unfolding bytes_received
told_gets_nothing r n t e y at s = ap (option_and_then (bytes_received_by s)) at
