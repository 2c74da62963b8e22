-- What a log of turns brings: which request an answer takes up, which Acknowledges were sent, and the states.
use Rattle.std.proofs.Common.{◌≡◌, ℕ, List, [], ◌∷◌, refl, ap, sym, ◌∙◌, subst, arith}
use Rattle.std.specs.Prelude.{Bool, true, false, ◌==◌, ◌&&◌, ◌||◌, not, is_none, option_and_then, Option, Some, None, if◌then◌else◌}
use Rattle.std.specs.Option.{option_or}
use Rattle.std.proofs.lemmas.Bool.Decides.{nat_tests}
use Rattle.std.proofs.lemmas.Bool.{and_from, and_parts}
use Rattle.dis_records.specs.declared.entity_state.EntityState.{EntityState}
use Rattle.dis_records.specs.Entity.{is_addressed}
use Rattle.siman_pdus.specs.declared.pdu.Pdu.{Pdu}
use Rattle.siman_pdus.specs.Answers.{same_id, same_pair}
use Rattle.siman_pdus.specs.Reading.{reading}
use Rattle.siman_pdus.specs.Role.{role_of, is_request_body, request_id_of}
use Rattle.siman_pdus.specs.Same.{IsSameOrder, is_same_order}
use Rattle.siman_pdus.specs.Spelling.{pdu_text}
use Rattle.exercise_model.specs.History.{History, Send, Get, Tell}
use Rattle.exercise_model.specs.Meaning.{is_outside, meant, meaning}
use Rattle.exercise_model.specs.Exchange.{is_asked, request_brought, request_taken_up}
use Rattle.siman_application.specs.AppProfile.{AppProfile}
use Rattle.siman_application.specs.Distinct.{Placed, is_for, is_under_key, first_under, with_request, distinct}
use Rattle.siman_application.specs.Answer.{answer}
use Rattle.siman_application.specs.Play.{known, reply, reply_after, answer_under}
use Rattle.siman_application.specs.OwnLog.{OwnTurn, Tells, Orders, Passes, Takes, Loses, taken_in, sent_after, log_in, is_due}
use Rattle.siman_application.proofs.Answered.{for_parts}
use Rattle.siman_application.proofs.Played.{equal_swaps, pair_swaps}
use Rattle.siman_application.proofs.Meanings.{taken_means}
use Rattle.siman_application.proofs.Meant.{AreMeant}

-- Keys.

-- requests under one key come from the same site and application, with the same identifier
pub record SameKey (q d : Pdu) : Type 0 where
  pub site : q.origin.site ≡ d.origin.site
  pub application : q.origin.application ≡ d.origin.application
  pub id : request_id_of q.body ≡ request_id_of d.body

same_ids_are : (o p : Option ℕ) → same_id o p ≡ true → o ≡ p
same_ids_are None p e = absurd cc
same_ids_are (Some i) None e = absurd cc
same_ids_are (Some i) (Some j) e = let same : i ≡ j = grind (arith, nat_tests) in ap (λ (n : ℕ). Some n) same

equal_of : (m n : ℕ) → (m == n) ≡ true → m ≡ n
equal_of m n e = grind (arith, nat_tests)

pub same_key_of : (q d : Pdu) → is_under_key q d ≡ true → SameKey q d
same_key_of q d e =
    let p = and_parts (same_pair q.origin d.origin) (same_id (request_id_of q.body) (request_id_of d.body)) e in
    let r = and_parts (q.origin.site == d.origin.site) (q.origin.application == d.origin.application) p.0 in
    record {
      site = equal_of q.origin.site d.origin.site r.0;
      application = equal_of q.origin.application d.origin.application r.1;
      id = same_ids_are
          (request_id_of q.body) (request_id_of d.body) p.1;
    }

under_same : (q d r : Pdu) → SameKey q d → is_under_key q r ≡ is_under_key d r
under_same q d r k =
    ap (λ (n : ℕ). ((n == r.origin.site) && (q.origin.application == r.origin.application)) && same_id (request_id_of q.body) (request_id_of r.body)) k.site
    ∙ ap (λ (n : ℕ). ((d.origin.site == r.origin.site) && (n == r.origin.application)) && same_id (request_id_of q.body) (request_id_of r.body)) k.application
    ∙ ap (λ (o : Option ℕ). same_pair d.origin r.origin && same_id o (request_id_of r.body)) k.id

pub first_same : (q d : Pdu) → SameKey q d → (ds : List Pdu) → first_under q ds ≡ first_under d ds
unfolding first_under
first_same q d k [] = refl
first_same q d k (r ∷ ds) =
    ap (λ (o : Option Placed). option_or o (if is_under_key q r then Some (record { request = r; before = ds }) else None)) (first_same q d k ds)
    ∙ ap (λ (b : Bool). option_or (first_under d ds) (if b then Some (record { request = r; before = ds }) else None)) (under_same q d r k)

same_ids_swap : (o p : Option ℕ) → same_id o p ≡ same_id p o
same_ids_swap None None = refl
same_ids_swap None (Some j) = refl
same_ids_swap (Some i) None = refl
same_ids_swap (Some i) (Some j) = equal_swaps i j

pub under_swaps : (q d : Pdu) → is_under_key q d ≡ is_under_key d q
under_swaps q d =
    ap (λ (b : Bool). b && same_id (request_id_of q.body) (request_id_of d.body)) (pair_swaps q.origin d.origin)
    ∙ ap (λ (b : Bool). same_pair d.origin q.origin && b) (same_ids_swap (request_id_of q.body) (request_id_of d.body))

pub first_more : (q d : Pdu) (ds : List Pdu)
    → first_under q (d ∷ ds) ≡ option_or (first_under q ds) (if is_under_key q d then Some (record { request = d; before = ds }) else None)
unfolding first_under
first_more q d ds = refl

found_has : (q d : Pdu) (ds : List Pdu) (f : Placed) (o : Option Placed) → (o ≡ Some f → is_under_key q f.request ≡ true) → (b : Bool)
    → is_under_key q d ≡ b
    → option_or o (if b then Some (record { request = d; before = ds }) else None) ≡ Some f → is_under_key q f.request ≡ true
found_has q d ds f (Some g) rest b u e = rest e
found_has q d ds f None rest false u e = absurd cc
found_has q d ds f None rest true u e =
    let same : record { request = d; before = ds } ≡ f = cc in subst (λ (g : Placed). is_under_key q g.request ≡ true) same u

-- the first request under a key is under it
pub first_has : (q : Pdu) (ds : List Pdu) (f : Placed) → first_under q ds ≡ Some f → is_under_key q f.request ≡ true
unfolding first_under
first_has q [] f e = absurd cc
first_has q (d ∷ ds) f e = found_has q d ds f (first_under q ds) (first_has q ds f) (is_under_key q d) refl e

-- An answer to the request r: it goes where r came from, under its identifier.
pub record GoesTo (r p : Pdu) : Type 0 where
  pub target : p.target ≡ r.origin
  pub id : request_id_of p.body ≡ request_id_of r.body

-- the answer to a request among the distinct ones
abbrev pub answer_at : AppProfile → Placed → ℕ → Pdu
answer_at a f stamp = answer a (known a f.before) f.request stamp

-- Meanings.

pub meant_for : (x : ℕ) (b : List ℕ) (q : Pdu) → meaning x b ≡ Some q → (q.exercise == x) ≡ true
unfolding meaning
meant_for x b q e = by (reading b) e where
  here : (p : Pdu) (v w : Bool) → (p.exercise == x) ≡ v → (if v && w then Some p else None) ≡ Some q → (q.exercise == x) ≡ true
  here p true true t f = let same : p ≡ q = cc in subst (λ (r : Pdu). (r.exercise == x) ≡ true) same t
  here p true false t f = absurd cc
  here p false w t f = absurd cc

  by : (o : Option Pdu) → option_and_then (meant x) o ≡ Some q → (q.exercise == x) ≡ true
  by None f = absurd cc
  by (Some p) f = here p (p.exercise == x) (not (is_outside (role_of p.body))) refl f

-- what is asked of the station and meant is for it
asked_parts : (a : AppProfile) (p q : Pdu) → is_asked a.station.address p q ≡ true
    → (is_request_body q.body ≡ true) × (is_addressed q.target a.station.address ≡ true) × (same_id (request_id_of p.body) (request_id_of q.body) ≡ true) ×
    (same_pair q.origin p.target ≡ true)
asked_parts a p q e =
    let e1 = and_parts (is_request_body q.body) (is_addressed q.target a.station.address &&
    (same_id (request_id_of p.body) (request_id_of q.body) && same_pair q.origin p.target)) e in
    let e2 = and_parts (is_addressed q.target a.station.address) (same_id (request_id_of p.body) (request_id_of q.body) && same_pair q.origin p.target) e1.1 in
    let e3 = and_parts (same_id (request_id_of p.body) (request_id_of q.body)) (same_pair q.origin p.target) e2.1 in
    (e1.0, e2.0, e3.0, e3.1)

pub asked_for : (a : AppProfile) (b : List ℕ) (p q : Pdu) → meaning a.exercise b ≡ Some q → is_asked a.station.address p q ≡ true → is_for a q ≡ true
asked_for a b p q m e =
    let parts = asked_parts a p q e in
    and_from (q.exercise == a.exercise) (is_request_body q.body && is_addressed q.target a.station.address) (meant_for a.exercise b q m)
    (and_from (is_request_body q.body) (is_addressed q.target a.station.address) parts.0 parts.1)

pub asked_under : (a : AppProfile) (r p q : Pdu) → GoesTo r p → is_asked a.station.address p q ≡ true → is_under_key r q ≡ true
asked_under a r p q goes e =
    let parts = asked_parts a p q e in
    and_from (same_pair r.origin q.origin) (same_id (request_id_of r.body) (request_id_of q.body))
    (pair_swaps r.origin q.origin ∙ ap (same_pair q.origin) (sym goes.target) ∙ parts.3)
    (ap (λ (o : Option ℕ). same_id o (request_id_of q.body)) (sym goes.id) ∙ parts.2)

-- a request under the key is asked for
pub under_asked : (a : AppProfile) (r p q : Pdu) → GoesTo r p → is_for a q ≡ true → is_under_key r q ≡ true → is_asked a.station.address p q ≡ true
under_asked a r p q goes own e =
    let parts = for_parts a q own in
    let u = and_parts (same_pair r.origin q.origin) (same_id (request_id_of r.body) (request_id_of q.body)) e in
    and_from (is_request_body q.body) (is_addressed q.target a.station.address &&
    (same_id (request_id_of p.body) (request_id_of q.body) && same_pair q.origin p.target)) parts.request
    (and_from (is_addressed q.target a.station.address) (same_id (request_id_of p.body) (request_id_of q.body) && same_pair q.origin p.target) parts.addressed
    (and_from (same_id (request_id_of p.body) (request_id_of q.body)) (same_pair q.origin p.target)
    (ap (λ (o : Option ℕ). same_id o (request_id_of q.body)) goes.id ∙ u.1)
    (ap (same_pair q.origin) goes.target ∙ pair_swaps q.origin r.origin ∙ u.0)))

-- What a reply can be.

pub reply_own : (a : AppProfile) (ds : List Pdu) (q : Pdu) (stamp : ℕ) (b : Bool) → is_for a q ≡ b
    → reply_after a ds q stamp ≡ (if b then answer_under a ds q stamp (first_under q ds) else None)
reply_own a ds q stamp b e = ap (λ (v : Bool). if v then answer_under a ds q stamp (first_under q ds) else None) e

pub joins_own : (a : AppProfile) (ds : List Pdu) (q : Pdu) (b : Bool) → is_for a q ≡ b → (o : Option Placed) → first_under q ds ≡ o
    → with_request a ds q ≡ (if b && is_none o then q ∷ ds else ds)
joins_own a ds q b e o f =
    ap (λ (v : Bool). if v && is_none (first_under q ds) then q ∷ ds else ds) e ∙ ap (λ (p : Option Placed). if b && is_none p then q ∷ ds else ds) f

-- How a turn in which a PDU is taken goes: it is not for the station, or it is and is the first under its key, or its key is known.
pub data Course (a : AppProfile) (ds : List Pdu) (q : Pdu) (stamp : ℕ) : Type 0 where
  Foreign : reply_after a ds q stamp ≡ None → with_request a ds q ≡ ds → is_for a q ≡ false → Course a ds q stamp
  Fresh : is_for a q ≡ true → first_under q ds ≡ None → reply_after a ds q stamp ≡ Some (answer a (known a ds) q stamp) → with_request a ds q ≡ q ∷ ds → Course a ds q stamp
  Same : (f : Placed) → is_for a q ≡ true → first_under q ds ≡ Some f → reply_after a ds q stamp ≡ Some (answer_at a f stamp) → with_request a ds q ≡ ds → Course a ds q stamp
  Other : (f : Placed) → is_for a q ≡ true → first_under q ds ≡ Some f → reply_after a ds q stamp ≡ None → with_request a ds q ≡ ds → Course a ds q stamp

course_known : (a : AppProfile) (ds : List Pdu) (q : Pdu) (stamp : ℕ) (f : Placed) → is_for a q ≡ true → first_under q ds ≡ Some f → (b : Bool)
    → is_same_order q f.request ≡ b → Course a ds q stamp
course_known a ds q stamp f own e true s =
    Same f own e (reply_own a ds q stamp true own ∙ ap (answer_under a ds q stamp) e ∙ ap (λ (v : Bool). if v then Some (answer_at a f stamp) else None) s)
    (joins_own a ds q true own (Some f) e)
course_known a ds q stamp f own e false s =
    Other f own e (reply_own a ds q stamp true own ∙ ap (answer_under a ds q stamp) e ∙ ap (λ (v : Bool). if v then Some (answer_at a f stamp) else None) s)
    (joins_own a ds q true own (Some f) e)

course_by : (a : AppProfile) (ds : List Pdu) (q : Pdu) (stamp : ℕ) (b : Bool) → is_for a q ≡ b → (o : Option Placed) → first_under q ds ≡ o
    → Course a ds q stamp
course_by a ds q stamp false own o e = Foreign (reply_own a ds q stamp false own) (joins_own a ds q false own (first_under q ds) refl) own
course_by a ds q stamp true own None e =
    Fresh own e (reply_own a ds q stamp true own ∙ ap (answer_under a ds q stamp) e) (joins_own a ds q true own None e)
course_by a ds q stamp true own (Some f) e = course_known a ds q stamp f own e (is_same_order q f.request) refl

pub course : (a : AppProfile) (ds : List Pdu) (q : Pdu) (stamp : ℕ) → Course a ds q stamp
course a ds q stamp = course_by a ds q stamp (is_for a q) refl (first_under q ds) refl

-- The request that is taken up.

-- each datagram that was passed and means a request for the station under the key of q is the same order
abbrev pub PassedAlike : AppProfile → Pdu → List OwnTurn → Type 0
PassedAlike a q [] = Unit {0}
PassedAlike a q (Tells e y ∷ ts) = PassedAlike a q ts
PassedAlike a q (Orders b o ∷ ts) = PassedAlike a q ts
PassedAlike a q (Passes b ∷ ts) =
    ((p : Pdu) → meaning a.exercise b ≡ Some p → is_for a p ≡ true → is_under_key q p ≡ true → IsSameOrder p q) × PassedAlike a q ts
PassedAlike a q (Takes b p stamp ∷ ts) = PassedAlike a q ts
PassedAlike a q (Loses b p stamp ∷ ts) = PassedAlike a q ts

-- what is taken is the same order as what was passed before under its key
abbrev pub AreSettled : AppProfile → List OwnTurn → Type 0
AreSettled a [] = Unit {0}
AreSettled a (Tells e y ∷ ts) = AreSettled a ts
AreSettled a (Orders b o ∷ ts) = AreSettled a ts
AreSettled a (Passes b ∷ ts) = AreSettled a ts
AreSettled a (Takes b q stamp ∷ ts) = (is_for a q ≡ true → PassedAlike a q ts) × AreSettled a ts
AreSettled a (Loses b q stamp ∷ ts) = (is_for a q ≡ true → PassedAlike a q ts) × AreSettled a ts

-- what is taken up by an answer to r, where the first of the distinct requests under its key is this: the same order as that; without one, at most what was passed
abbrev pub TakesUp : AppProfile → Pdu → List OwnTurn → Option Placed → Option Pdu → Type 0
TakesUp a r ts None None = Unit {0}
TakesUp a r ts None (Some f) = (is_under_key r f ≡ true) × ((q : Pdu) → PassedAlike a q ts → is_under_key q f ≡ true → IsSameOrder f q)
TakesUp a r ts (Some g) None = ⊥
TakesUp a r ts (Some g) (Some f) = IsSameOrder f g.request

-- a get goes on with what was taken up before, or else with what it brings
pub up_get : (a : AppProfile) (p : Pdu) (s : ℕ) (b : List ℕ) (log : History)
    → request_taken_up a.exercise a.station.address p (Get s b ∷ log) ≡ option_or (request_taken_up a.exercise a.station.address p log)
    (request_brought a.exercise a.station.address p (Get s b))
unfolding request_taken_up
up_get a p s b log = refl

or_none : {X : Type 0} (o : Option X) → option_or o None ≡ o
or_none None = refl
or_none (Some x) = refl

pub up_send : (a : AppProfile) (p : Pdu) (s : ℕ) (b : List ℕ) (log : History)
    → request_taken_up a.exercise a.station.address p (Send s b ∷ log) ≡ request_taken_up a.exercise a.station.address p log
unfolding request_taken_up
up_send a p s b log = or_none (request_taken_up a.exercise a.station.address p log)

up_tell : (a : AppProfile) (p : Pdu) (s e : ℕ) (y : EntityState) (log : History)
    → request_taken_up a.exercise a.station.address p (Tell s e y ∷ log) ≡ request_taken_up a.exercise a.station.address p log
unfolding request_taken_up
up_tell a p s e y log = or_none (request_taken_up a.exercise a.station.address p log)

pub up_sent : (a : AppProfile) (p : Pdu) (s : ℕ) (o : Option Pdu) (log : History)
    → request_taken_up a.exercise a.station.address p (sent_after s o log) ≡ request_taken_up a.exercise a.station.address p log
up_sent a p s None log = refl
up_sent a p s (Some r) log = up_send a p s (pdu_text r) log

-- what a datagram brings: nothing, or a request for the station under the key
data Brought (a : AppProfile) (r p : Pdu) (b : List ℕ) (o : Option Pdu) : Type 0 where
  Nothing : o ≡ None → Brought a r p b o
  Request : (f : Pdu) → o ≡ Some f → meaning a.exercise b ≡ Some f → is_for a f ≡ true → is_under_key r f ≡ true → Brought a r p b o

brought_by : (a : AppProfile) (r p : Pdu) (s : ℕ) (b : List ℕ) → GoesTo r p → Brought a r p b (request_brought a.exercise a.station.address p (Get s b))
brought_by a r p s b goes = by (meaning a.exercise b) refl where
  asked : (f : Pdu) → meaning a.exercise b ≡ Some f → (v : Bool) → is_asked a.station.address p f ≡ v → Brought a r p b (if v then Some f else None)
  asked f m true e = Request f refl m (asked_for a b p f m e) (asked_under a r p f goes e)
  asked f m false e = Nothing refl

  by : (o : Option Pdu) → meaning a.exercise b ≡ o → Brought a r p b (option_and_then (λ q. if is_asked a.station.address p q then Some q else None) o)
  by None m = Nothing refl
  by (Some f) m = asked f m (is_asked a.station.address p f) refl

-- the same order as itself
pub same_itself : (q : Pdu) → IsSameOrder q q
same_itself q = refl

-- a passed datagram
up_passed : (a : AppProfile) (r p : Pdu) (b : List ℕ) (ts : List OwnTurn) (o : Option Placed) (u c : Option Pdu) → Brought a r p b c → TakesUp a r ts o u
    → TakesUp a r (Passes b ∷ ts) o (option_or u c)
up_passed a r p b ts None None c (Nothing e) up = subst (TakesUp a r (Passes b ∷ ts) None) (sym e) tt
up_passed a r p b ts None None c (Request f e m own under) up =
    subst (TakesUp a r (Passes b ∷ ts) None) (sym e) (under, λ q alike u. alike.0 f m own u)
up_passed a r p b ts None (Some f) c brought up = (up.0, λ q alike u. up.1 q alike.1 u)
up_passed a r p b ts (Some g) None c brought up = absurd up
up_passed a r p b ts (Some g) (Some f) c brought up = up

-- What is taken.

pub read_meant : (x : ℕ) (b : List ℕ) (q f : Pdu) → reading b ≡ Some q → meaning x b ≡ Some f → q ≡ f
unfolding meaning
read_meant x b q f e m = here ((q.exercise == x) && not (is_outside (role_of q.body))) (sym (ap (option_and_then (meant x)) e) ∙ m) where
  here : (v : Bool) → (if v then Some q else None) ≡ Some f → q ≡ f
  here true h = cc
  here false h = absurd cc

-- a datagram that is read as q brings nothing, where q is not for the station or under another key
brings_none : (a : AppProfile) (r p q : Pdu) (b : List ℕ) (c : Option Pdu) → reading b ≡ Some q → Brought a r p b c
    → (is_for a q ≡ true → is_under_key r q ≡ true → ⊥) → c ≡ None
brings_none a r p q b c e (Nothing n) other = n
brings_none a r p q b c e (Request f is m own under) other =
    let same = read_meant a.exercise b q f e m in absurd (other (ap (is_for a) same ∙ own) (ap (is_under_key r) same ∙ under))

brings_it : (a : AppProfile) (r p q : Pdu) (s : ℕ) (b : List ℕ) → GoesTo r p → reading b ≡ Some q → is_for a q ≡ true → is_under_key r q ≡ true
    → request_brought a.exercise a.station.address p (Get s b) ≡ Some q
brings_it a r p q s b goes e own under =
    ap (λ (o : Option Pdu). option_and_then (λ q. if is_asked a.station.address p q then Some q else None) o) (taken_means a b q e own)
    ∙ ap (λ (v : Bool). if v then Some q else None) (under_asked a r p q goes own under)

-- the same, after more turns that pass nothing
up_later : (a : AppProfile) (r : Pdu) (ts us : List OwnTurn) → ((q : Pdu) → PassedAlike a q us → PassedAlike a q ts) → (o : Option Placed) (u : Option Pdu)
    → TakesUp a r ts o u → TakesUp a r us o u
up_later a r ts us less None None up = tt
up_later a r ts us less None (Some f) up = (up.0, λ q alike u. up.1 q (less q alike) u)
up_later a r ts us less (Some g) None up = absurd up
up_later a r ts us less (Some g) (Some f) up = up

-- nothing new is taken up
up_kept : (a : AppProfile) (r : Pdu) (ts : List OwnTurn) (o : Option Placed) (u c : Option Pdu) → (o ≡ None → c ≡ None) → TakesUp a r ts o u
    → TakesUp a r ts o (option_or u c)
up_kept a r ts None None c none up = subst (TakesUp a r ts None) (sym (none refl)) tt
up_kept a r ts None (Some f) c none up = up
up_kept a r ts (Some g) None c none up = absurd up
up_kept a r ts (Some g) (Some f) c none up = up

up_joined : (a : AppProfile) (r q : Pdu) (ds : List Pdu) (ts : List OwnTurn) (u c : Option Pdu) → PassedAlike a q ts → c ≡ Some q → is_under_key r q ≡ true
    → TakesUp a r ts None u → TakesUp a r ts (Some (record { request = q; before = ds })) (option_or u c)
up_joined a r q ds ts None c alike is under up = subst (TakesUp a r ts (Some (record { request = q; before = ds }))) (sym is) (same_itself q)
up_joined a r q ds ts (Some f) c alike is under up = up.1 q alike (sym (under_same r q f (same_key_of r q under)) ∙ up.0)

up_fresh : (a : AppProfile) (r q : Pdu) (ds : List Pdu) (ts : List OwnTurn) (o : Option Placed) (u c : Option Pdu) → PassedAlike a q ts → TakesUp a r ts o u
    → (b : Bool) → is_under_key r q ≡ b
    → (b ≡ true → c ≡ Some q) → (b ≡ false → c ≡ None)
    → TakesUp a r ts (option_or o (if b then Some (record { request = q; before = ds }) else None)) (option_or u c)
up_fresh a r q ds ts None u c alike up true under is none = up_joined a r q ds ts u c alike (is refl) under up
up_fresh a r q ds ts None u c alike up false under is none = up_kept a r ts None u c (λ e. none refl) up
up_fresh a r q ds ts (Some g) None c alike up b under is none = absurd up
up_fresh a r q ds ts (Some g) (Some f) c alike up b under is none = up

-- a known key
known_key : (a : AppProfile) (r q : Pdu) (ds : List Pdu) (f : Placed) → first_under q ds ≡ Some f → first_under r ds ≡ None → is_under_key r q ≡ true → ⊥
known_key a r q ds f first none under = let clash : None ≡ Some f = sym none ∙ first_same r q (same_key_of r q under) ds ∙ first in absurd cc

up_taken : (a : AppProfile) (r p q : Pdu) (s stamp : ℕ) (b : List ℕ) (ds : List Pdu) (ts : List OwnTurn) (u : Option Pdu) → GoesTo r p → reading b ≡ Some q
    → (is_for a q ≡ true → PassedAlike a q ts) → Course a ds q stamp
    → TakesUp a r ts (first_under r ds) u
    → TakesUp a r ts (first_under r (with_request a ds q)) (option_or u (request_brought a.exercise a.station.address p (Get s b)))
up_taken a r p q s stamp b ds ts u goes e alike (Foreign reply same out) up =
    subst (λ (xs : List Pdu). TakesUp a r ts (first_under r xs) (option_or u (request_brought a.exercise a.station.address p (Get s b)))) (sym same)
    (up_kept a r ts (first_under r ds) u (request_brought a.exercise a.station.address p (Get s b))
    (λ none. brings_none a r p q b (request_brought a.exercise a.station.address p (Get s b)) e (brought_by a r p s b goes)
    (λ own under. let clash : true ≡ false = sym own ∙ out in absurd cc)) up)
up_taken a r p q s stamp b ds ts u goes e alike (Same f own first reply same) up =
    subst (λ (xs : List Pdu). TakesUp a r ts (first_under r xs) (option_or u (request_brought a.exercise a.station.address p (Get s b)))) (sym same)
    (up_kept a r ts (first_under r ds) u (request_brought a.exercise a.station.address p (Get s b))
    (λ none. brings_none a r p q b (request_brought a.exercise a.station.address p (Get s b)) e (brought_by a r p s b goes)
    (λ own under. known_key a r q ds f first none under)) up)
up_taken a r p q s stamp b ds ts u goes e alike (Other f own first reply same) up =
    subst (λ (xs : List Pdu). TakesUp a r ts (first_under r xs) (option_or u (request_brought a.exercise a.station.address p (Get s b)))) (sym same)
    (up_kept a r ts (first_under r ds) u (request_brought a.exercise a.station.address p (Get s b))
    (λ none. brings_none a r p q b (request_brought a.exercise a.station.address p (Get s b)) e (brought_by a r p s b goes)
    (λ own under. known_key a r q ds f first none under)) up)
up_taken a r p q s stamp b ds ts u goes e alike (Fresh own none reply same) up =
    subst (λ (xs : List Pdu). TakesUp a r ts (first_under r xs) (option_or u (request_brought a.exercise a.station.address p (Get s b)))) (sym same)
    (subst (λ (o : Option Placed). TakesUp a r ts o (option_or u (request_brought a.exercise a.station.address p (Get s b)))) (sym (first_more r q ds))
    (up_fresh a r q ds ts (first_under r ds) u (request_brought a.exercise a.station.address p (Get s b)) (alike own) up (is_under_key r q) refl
    (λ under. brings_it a r p q s b goes e own under)
    (λ under. brings_none a r p q b (request_brought a.exercise a.station.address p (Get s b)) e (brought_by a r p s b goes)
    (λ own yes. let clash : true ≡ false = sym yes ∙ under in absurd cc))))

up_start : (a : AppProfile) (r p : Pdu) (s : ℕ) → TakesUp a r [] (first_under r []) (request_taken_up a.exercise a.station.address p (log_in a s []))
unfolding first_under request_taken_up
up_start a r p s = tt

-- THE REQUEST THAT IS TAKEN UP in a log of turns
pub up_turns : (a : AppProfile) (s : ℕ) (later : Bool) (ts : List OwnTurn) → AreMeant a later ts → AreSettled a ts → (r p : Pdu) → GoesTo r p
    → TakesUp a r ts (first_under r (distinct a (taken_in ts))) (request_taken_up a.exercise a.station.address p (log_in a s ts))
up_turns a s later [] are settled r p goes = up_start a r p s
up_turns a s later (Tells e y ∷ ts) are settled r p goes =
    subst (TakesUp a r (Tells e y ∷ ts) (first_under r (distinct a (taken_in ts)))) (sym (up_tell a p s e y (log_in a s ts)))
    (up_later a r ts (Tells e y ∷ ts) (λ q alike. alike) (first_under r (distinct a (taken_in ts)))
    (request_taken_up a.exercise a.station.address p (log_in a s ts)) (up_turns a s later ts are settled r p goes))
up_turns a s later (Orders b o ∷ ts) are settled r p goes =
    subst (TakesUp a r (Orders b o ∷ ts) (first_under r (distinct a (taken_in ts)))) (sym (up_send a p s b (log_in a s ts)))
    (up_later a r ts (Orders b o ∷ ts) (λ q alike. alike) (first_under r (distinct a (taken_in ts)))
    (request_taken_up a.exercise a.station.address p (log_in a s ts)) (up_turns a s later ts are.1 settled r p goes))
up_turns a s later (Passes b ∷ ts) are settled r p goes =
    subst (TakesUp a r (Passes b ∷ ts) (first_under r (distinct a (taken_in ts)))) (sym (up_get a p s b (log_in a s ts)))
    (up_passed a r p b ts (first_under r (distinct a (taken_in ts))) (request_taken_up a.exercise a.station.address p (log_in a s ts))
    (request_brought a.exercise a.station.address p (Get s b)) (brought_by a r p s b goes)
    (up_turns a s later ts are settled r p goes))
up_turns a s later (Takes b q stamp ∷ ts) are settled r p goes =
    subst (TakesUp a r (Takes b q stamp ∷ ts) (first_under r (distinct a (q ∷ taken_in ts))))
    (sym (up_sent a p s (reply a (taken_in ts) q stamp) (Get s b ∷ log_in a s ts) ∙ up_get a p s b (log_in a s ts)))
    (up_later a r ts (Takes b q stamp ∷ ts) (λ q alike. alike) (first_under r (distinct a (q ∷ taken_in ts)))
    (option_or (request_taken_up a.exercise a.station.address p (log_in a s ts)) (request_brought a.exercise a.station.address p (Get s b)))
    (up_taken a r p q s stamp b (distinct a (taken_in ts)) ts (request_taken_up a.exercise a.station.address p (log_in a s ts)) goes are.0.read settled.0
    (course a (distinct a (taken_in ts)) q stamp)
    (up_turns a s (later || is_due a ts q stamp) ts are.2 settled.1 r p goes)))
up_turns a s later (Loses b q stamp ∷ ts) are settled r p goes =
    subst (TakesUp a r (Loses b q stamp ∷ ts) (first_under r (distinct a (q ∷ taken_in ts)))) (sym (up_get a p s b (log_in a s ts)))
    (up_later a r ts (Loses b q stamp ∷ ts) (λ q alike. alike) (first_under r (distinct a (q ∷ taken_in ts)))
    (option_or (request_taken_up a.exercise a.station.address p (log_in a s ts)) (request_brought a.exercise a.station.address p (Get s b)))
    (up_taken a r p q s stamp b (distinct a (taken_in ts)) ts (request_taken_up a.exercise a.station.address p (log_in a s ts)) goes are.0.read settled.0
    (course a (distinct a (taken_in ts)) q stamp)
    (up_turns a s true ts are.2 settled.1 r p goes)))
