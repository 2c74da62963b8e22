-- What a socket specifies grows, and what a link over it sends and passes over.
use Rattle.std.proofs.Common.{◌≡◌, ◌∙◌, ℕ, ◌+◌, Bool, true, false, not, List, [], ◌∷◌, ◌++◌, length, take, get_or, ◌≤◌, ◌<◌, Option, Some, None, Result, Ok, Err, refl, inl, inr, sym, ap, subst, arith, append_assoc, append-nil}
use Rattle.std.specs.Prelude.{OnOk, OnErr, IfErr}
use Rattle.std.specs.List.{AllByRecursion, filter, flat_map, filter_map}
use Rattle.std.specs.Option.{option_or}
use Rattle.std.proofs.lemmas.List.{map-append, take_more}
use Rattle.std.proofs.lemmas.Grind.{common_steps}
use Rattle.std.proofs.lemmas.List.Elements.{filter-append, filter_map-append}
use Rattle.std.proofs.lemmas.List.Concat.{flat_map-append}
use Rattle.std.specs.declared.net.socket_addr.SocketAddr.{SocketAddr}
use Rattle.std.specs.declared.io.ErrorKind.{ErrorKind}
use Rattle.siman_lines.specs.LineDatagrams.{Datagrams, Same, Grows}
use Rattle.siman_lines.specs.LineDatagrams.{Hands as Returned}
use Rattle.siman_lines.specs.Socket.{Addressed, Failure, grown, Hands, MayHand, Fails, Telling}
use Rattle.siman_lines.specs.declared.trouble.LineCall.TheVariants as calls
use Rattle.siman_lines.specs.declared.line.PassedOver.{PassedOver}
use Rattle.siman_lines.specs.declared.socket.Hearing.{Hearing}
use Rattle.siman_lines.specs.declared.trouble.LineTrouble.{LineTrouble}
use Rattle.siman_lines.specs.Udp.{Attempt, handed_by, failure_of, SendsToAll, first_trouble, trouble_of, v4_of, is_passed_over, passed_on, all_passed_on, heard_of}

pub grown_none : {X : Type 0} (o : Option (List X)) → o ≡ grown o []
grown_none None = refl
grown_none (Some xs) = ap Some (sym (append-nil xs))

pub grown_on : {X : Type 0} (o : Option (List X)) (xs ys : List X) → grown (grown o xs) ys ≡ grown o (xs ++ ys)
grown_on None xs ys = refl
grown_on (Some os) xs ys = ap Some (append_assoc os xs ys)

pub first_on : (bs : List Attempt) (a : Attempt) → first_trouble (bs ++ a ∷ []) ≡ option_or (first_trouble bs) (trouble_of a)
first_on [] a = elim (trouble_of a) as (λ t. option_or t None ≡ t) [ None ↦ refl | Some t ↦ refl ]
first_on (x ∷ bs) a = elim (trouble_of x) as (λ t. option_or t (first_trouble (bs ++ a ∷ [])) ≡ option_or (option_or t (first_trouble bs)) (trouble_of a)) [
  | None ↦ first_on bs a
  | Some t ↦ refl
]

-- it is sent to one more peer
pub sends_more : {S : Type 0} (told : Telling S) (d : List ℕ) (peers : List SocketAddr) (old mid new : S) (first : Option LineTrouble) (a : Attempt)
    → SendsToAll told d peers old mid first → told.handed new ≡ grown (told.handed mid) (handed_by d a)
    → told.failed new ≡ grown (told.failed mid) (filter_map failure_of (a ∷ [])) → told.came new ≡ told.came mid
    → SendsToAll told d (peers ++ a.peer ∷ []) old new (option_or first (trouble_of a))
sends_more told d peers old mid new first a h handed failed came = record {
  attempts = h.attempts ++ a ∷ [];
  peers_are = map-append (λ (b : Attempt). b.peer) h.attempts (a ∷ []) ∙ ap (λ (l : List SocketAddr). l ++ a.peer ∷ []) h.peers_are;
  handed = handed ∙ (ap (λ (o : Option (List Addressed)). grown o (handed_by d a)) h.handed ∙ (grown_on (told.handed old) (flat_map (handed_by d) h.attempts) (handed_by d a)
      ∙ ap (grown (told.handed old)) (sym (flat_map-append (handed_by d) h.attempts (a ∷ []) ∙ ap (λ (l : List Addressed). flat_map (handed_by d) h.attempts ++ l) (append-nil (handed_by d a))))));
  failed = failed ∙ (ap (λ (o : Option (List Failure)). grown o (filter_map failure_of (a ∷ []))) h.failed ∙ (grown_on (told.failed old) (filter_map failure_of h.attempts) (filter_map failure_of (a ∷ []))
      ∙ ap (grown (told.failed old)) (sym (filter_map-append failure_of h.attempts (a ∷ [])))));
  came = came ∙ h.came;
  first_is = ap (λ (f : Option LineTrouble). option_or f (trouble_of a)) h.first_is ∙ sym (first_on h.attempts a);
}

-- the trouble of a send with this result
abbrev pub trouble_after : SocketAddr → Result (Unit {0}) ErrorKind → Option LineTrouble
trouble_after peer (Ok x) = None
trouble_after peer (Err kind) = Some (record { call = calls.Send; peer = v4_of peer; kind = kind })

-- it is sent to one more peer, with this result
pub send_step : {S : Type 0} (told : Telling S) (d : List ℕ) (peers : List SocketAddr) (old mid new : S) (first : Option LineTrouble) (peer : SocketAddr)
    (result : Result (Unit {0}) ErrorKind)
    → SendsToAll told d peers old mid first → OnOk result (Hands (told.handed mid) (told.handed new) d peer)
    → OnErr result (MayHand (told.handed mid) (told.handed new) d peer) → told.came new ≡ told.came mid
    → OnOk result (told.failed new ≡ told.failed mid) → IfErr result (λ kind. Fails (told.failed mid) (told.failed new) (Some peer) kind)
    → SendsToAll told d (peers ++ peer ∷ []) old new (option_or first (trouble_after peer result))
send_step told d peers old mid new first peer (Ok x) h hands may came worked fails =
    sends_more told d peers old mid new first (record { peer = peer; fault = None; nevertheless = false }) h hands (worked ∙ grown_none (told.failed mid)) came
send_step told d peers old mid new first peer (Err kind) h hands may came worked fails = elim may [
  | inl e ↦ sends_more told d peers old mid new first (record { peer = peer; fault = Some kind; nevertheless = true }) h e fails came
  | inr e ↦
      sends_more told d peers old mid new first (record { peer = peer; fault = Some kind; nevertheless = false }) h (e ∙ grown_none (told.handed mid)) fails came
]

or_none : {X : Type 0} (o : Option X) → o ≡ option_or o None
or_none None = refl
or_none (Some x) = refl

-- it is sent to the peer of this index, with this result
pub send_at : {S : Type 0} (told : Telling S) (d : List ℕ) (peers : List SocketAddr) (i : ℕ) (peer : SocketAddr) (old mid new : S) (first last : Option LineTrouble)
    (result : Result (Unit {0}) ErrorKind) → i < length peers → peer ≡ get_or peers i peer → last ≡ option_or first (trouble_after peer result)
    → SendsToAll told d (take i peers) old mid first → OnOk result (Hands (told.handed mid) (told.handed new) d peer)
    → OnErr result (MayHand (told.handed mid) (told.handed new) d peer) → told.came new ≡ told.came mid
    → OnOk result (told.failed new ≡ told.failed mid) → IfErr result (λ kind. Fails (told.failed mid) (told.failed new) (Some peer) kind)
    → SendsToAll told d (take (i + 1) peers) old new last
send_at told d peers i peer old mid new first last result within found told_last h hands may came worked fails =
    rw (take_more peers i peer within, ← found, told_last) (send_step told d (take i peers) old mid new first peer result h hands may came worked fails)

-- it was sent
pub sent_at : {S : Type 0} (told : Telling S) (d : List ℕ) (peers : List SocketAddr) (i : ℕ) (peer : SocketAddr) (old mid new : S) (first last : Option LineTrouble)
    (x : Unit {0}) → i < length peers → peer ≡ get_or peers i peer → last ≡ first → SendsToAll told d (take i peers) old mid first
    → Hands (told.handed mid) (told.handed new) d peer → told.came new ≡ told.came mid → told.failed new ≡ told.failed mid
    → SendsToAll told d (take (i + 1) peers) old new last
sent_at told d peers i peer old mid new first last x within found told_last h hands came worked =
    send_at told d peers i peer old mid new first last (Ok x) within found (told_last ∙ or_none first) h hands tt came worked tt

-- one more is passed over

pub passed_more : (peers : List SocketAddr) (hearing : Hearing) (ds : List Addressed) (d : Addressed) (before : PassedOver)
    → all_passed_on peers hearing (ds ++ d ∷ []) before ≡ passed_on peers hearing d (all_passed_on peers hearing ds before)
passed_more peers hearing [] d before = refl
passed_more peers hearing (x ∷ ds) d before = passed_more peers hearing ds d (passed_on peers hearing x before)

pub each_more : {X : Type 0} (P : X → Type 0) (ds : List X) (d : X) → AllByRecursion P ds → P d → AllByRecursion P (ds ++ d ∷ [])
each_more P [] d h e = (e, tt)
each_more P (x ∷ ds) d h e = (h.0, each_more P ds d h.1 e)

same_itself : (old : Option Datagrams) → Same old old
same_itself None = tt
same_itself (Some xs) = refl

-- none of those that are passed over is heard
pub none_heard : (peers : List SocketAddr) (hearing : Hearing) (ds : List Addressed) → AllByRecursion (λ d. is_passed_over peers hearing d ≡ true) ds
    → filter (λ d. not (is_passed_over peers hearing d)) ds ≡ []
none_heard peers hearing [] h = refl
none_heard peers hearing (d ∷ ds) h = rw (h.0, none_heard peers hearing ds h.1)

-- what is heard of the socket grows by what it returns
pub heard_same : (peers : List SocketAddr) (hearing : Hearing) (old : Option (List Addressed)) (ds : List Addressed)
    → AllByRecursion (λ d. is_passed_over peers hearing d ≡ true) ds → heard_of peers hearing (grown old ds) ≡ heard_of peers hearing old
heard_same peers hearing None ds h = refl
heard_same peers hearing (Some os) ds h =
    let test : Addressed → Bool = λ d. not (is_passed_over peers hearing d) in
    let none : filter test ds ≡ [] = none_heard peers hearing ds h in
    rw (filter-append test os ds, none, append-nil (filter test os)) refl

-- the datagrams that a link returned are unchanged after some that were passed over
pub heard_none : (peers : List SocketAddr) (hearing : Hearing) (old new : Option (List Addressed)) (ds : List Addressed)
    → AllByRecursion (λ d. is_passed_over peers hearing d ≡ true) ds → new ≡ grown old ds → Same (heard_of peers hearing old) (heard_of peers hearing new)
heard_none peers hearing old new ds h e =
    subst (Same (heard_of peers hearing old)) (sym (ap (heard_of peers hearing) e ∙ heard_same peers hearing old ds h)) (same_itself (heard_of peers hearing old))

-- and grow by one that is not
pub heard_one : (peers : List SocketAddr) (hearing : Hearing) (old : Option (List Addressed)) (d : Addressed) → is_passed_over peers hearing d ≡ false
    → Grows (heard_of peers hearing old) (heard_of peers hearing (grown old (d ∷ []))) d.bytes
heard_one peers hearing None d h = tt
heard_one peers hearing (Some os) d h =
    let test : Addressed → Bool = λ d. not (is_passed_over peers hearing d) in
    let bytes : Addressed → List ℕ = λ d. d.bytes in
    let one : filter test (d ∷ []) ≡ d ∷ [] = rw h refl in
    rw (filter-append test os (d ∷ []), one, map-append bytes (filter test os) (d ∷ [])) refl

pub heard_more : (peers : List SocketAddr) (hearing : Hearing) (old mid new : Option (List Addressed)) (ds : List Addressed) (from : SocketAddr) (n : ℕ) (buffer : List ℕ)
    → AllByRecursion (λ d. is_passed_over peers hearing d ≡ true) ds → mid ≡ grown old ds → n ≤ length buffer
    → (let d : Addressed = record { address = from; bytes = take n buffer } in is_passed_over peers hearing d ≡ false)
    → (let d : Addressed = record { address = from; bytes = take n buffer } in new ≡ grown mid (d ∷ []))
    → Returned (heard_of peers hearing old) (heard_of peers hearing new) n buffer
heard_more peers hearing old mid new ds from n buffer h e within heard g = (
  take n buffer,
  within,
  grind (arith, common_steps),
  grind (arith, common_steps),
  (let d : Addressed = record { address = from; bytes = take n buffer } in
      let now : heard_of peers hearing mid ≡ heard_of peers hearing old = ap (heard_of peers hearing) e ∙ heard_same peers hearing old ds h in
      let grows : Grows (heard_of peers hearing mid) (heard_of peers hearing new) (take n buffer) =
      subst (λ (o : Option (List Addressed)). Grows (heard_of peers hearing mid) (heard_of peers hearing o) (take n buffer)) (sym g) (heard_one peers hearing mid d heard) in
      subst (λ (o : Option Datagrams). Grows o (heard_of peers hearing new) (take n buffer)) now grows),
)
