-- The tables of an application stay right.
use Rattle.std.proofs.Common.{◌≡◌, ℕ, zero, suc, ◌<◌, ◌≤◌, List, [], ◌∷◌, ◌++◌, ◌^◌, length, take, refl, ap, sym, ◌∙◌, subst, arith}
use Rattle.std.specs.Prelude.{Bool, true, false, ◌&&◌, nat_le, slice_get, option_map, option_and_then, is_none, Option, Some, None, IfSome, MatchOption, if◌then◌else◌}
use Rattle.std.proofs.lemmas.List.{length-map}
use Rattle.std.specs.Map.{values_of}
use Rattle.indexmap.specs.IndexMap.{values, index_map_len}
use Rattle.siman_pdus.specs.declared.pdu.Pdu.{Pdu}
use Rattle.siman_pdus.specs.DatumLists.{DatumLists}
use Rattle.siman_pdus.specs.Ranges.{AreDatumsInRange, IsInRange}
use Rattle.siman_pdus.specs.Same.{is_same_order}
use Rattle.siman_pdus.specs.Spelling.{carried, pdu_text}
use Rattle.dis_records.specs.declared.entity_state.EntityState.TheVariants.{Absent}
use Rattle.std.proofs.lemmas.Bool.Decides.{nat_tests}
use Rattle.std.proofs.lemmas.Bool.{and_parts, leb-true}
use Rattle.dis_records.specs.declared.address.TheConstants.{LARGEST_ADDRESS_PART}
use Rattle.dis_records.specs.Address.{is_address, is_address_part}
use Rattle.exercise_model.specs.declared.station.TheConstants.{LARGEST_ENTITY}
use Rattle.exercise_model.specs.State.{entity_state, state_after}
use Rattle.exercise_model.specs.Station.{StationData, is_entity, is_opening, is_station, listed_state}
use Rattle.siman_application.specs.Records.{fixed_id, variable_id, last_under}
use Rattle.siman_application.proofs.Numbers.{absent_up_to, absent_past}
use Rattle.siman_application.specs.declared.kept.AnsweredRequest.{AnsweredRequest}
use Rattle.siman_application.specs.declared.kept.RequestKey.{RequestKey}
use Rattle.siman_application.specs.AppProfile.{AppProfile}
use Rattle.siman_application.specs.Distinct.{Placed, is_for, first_under, with_request}
use Rattle.siman_application.specs.Answer.{Knowledge, brought, result_of, answer, with_stamp}
use Rattle.siman_application.specs.Holding.{Holding, held_by}
use Rattle.siman_application.specs.Knows.{knows}
use Rattle.siman_application.specs.Listed.{Entities, states_in, after}
use Rattle.siman_application.specs.KeptRequests.{Table, IsKey, AreKeyed, IsAnswered, AreAnswered, AreFor, AreSpelled, AreRight, requests_after, requests, requests_before, IsPlace, stamped, stamped_at}
use Rattle.siman_application.specs.Play.{play, known, state_over, answer_under, reply_after}
use Rattle.siman_application.specs.Ranges.{IsProfileInRange}
use Rattle.siman_application.proofs.Answered.{IsAnswer, is_answer, for_parts, answer_stamped, stamp_of}
use Rattle.siman_application.proofs.Replies.{request_read, answer_read}
use Rattle.siman_application.proofs.Meanings.{taken_means, answer_means}
use Rattle.siman_application.proofs.Played.{states_go_on}

-- One more request goes last.

keyed_last : (es : List (RequestKey × AnsweredRequest)) (key : RequestKey) (one : AnsweredRequest) → AreKeyed es → IsKey key one.request
    → AreKeyed (es ++ (key, one) ∷ [])
keyed_last [] key one keyed own = (own, tt)
keyed_last (e ∷ es) key one keyed own = (keyed.0, keyed_last es key one keyed.1 own)

pub values_last : (es : List (RequestKey × AnsweredRequest)) (key : RequestKey) (one : AnsweredRequest)
    → values_of (es ++ (key, one) ∷ []) ≡ values_of es ++ one ∷ []
values_last [] key one = refl
values_last (e ∷ es) key one = ap (λ (ks : List AnsweredRequest). e.1 ∷ ks) (values_last es key one)

pub kept_last : (ds : List Pdu) (ks : List AnsweredRequest) (one : AnsweredRequest) → requests_after ds (ks ++ one ∷ []) ≡ one.request ∷ requests_after ds ks
kept_last ds [] one = refl
kept_last ds (k ∷ ks) one = kept_last (k.request ∷ ds) ks one

answered_last : (a : AppProfile) (ds : List Pdu) (ks : List AnsweredRequest) (one : AnsweredRequest) → AreAnswered a ds ks → IsAnswered a (requests_after ds ks) one
    → AreAnswered a ds (ks ++ one ∷ [])
answered_last a ds [] one are is = (is, tt)
answered_last a ds (k ∷ ks) one are is = (are.0, answered_last a (k.request ∷ ds) ks one are.1 is)

-- What is known after it.

states_after : (a : AppProfile) (q : Pdu) (ds : List Pdu) (stamp : ℕ) → is_for a q ≡ true → AreFor a ds → AreSpelled a (q ∷ ds) → first_under q ds ≡ None
    → (e : ℕ) → after (answer a (known a ds) q stamp) q (state_over a ds) e ≡ state_over a (q ∷ ds) e
states_after a q ds stamp own are spelled none e =
    ap (λ (p : Pdu). after p q (state_over a ds) e) (answer_stamped a (known a ds) q stamp 0 (for_parts a q own).request) ∙ sym
    (states_go_on a q ds own are spelled none e)

known_more : (a : AppProfile) (q : Pdu) (ds : List Pdu) (stamp : ℕ) (es es' : Entities) (d d' : Holding) → is_for a q ≡ true → AreFor a ds
    → AreSpelled a (q ∷ ds) → first_under q ds ≡ None
    → knows es d ≡ known a ds → states_in es' ≡ after (answer a (knows es d) q stamp) q (states_in es)
    → knows es' d' ≡ result_of (brought q.body) (knows es' d) → knows es' d' ≡ known a (q ∷ ds)
known_more a q ds stamp es es' d d' own are spelled none k states told =
    told ∙ λ i. record {
      states = (changed states) i;
      fixed = λ id. ((result_of (brought q.body) (k i)).fixed) id;
      variable = λ id. ((result_of (brought q.body) (k i)).variable) id;
    } where
      changed : states_in es' ≡ after (answer a (knows es d) q stamp) q (states_in es) → states_in es' ≡ (λ e. state_over a (q ∷ ds) e)
      changed s = s ∙ ap (λ (k : Knowledge). after (answer a k q stamp) q k.states) k ∙ λ i e. (states_after a q ds stamp own are spelled none e) i

pub spelled_more : (a : AppProfile) (q : Pdu) (ds : List Pdu) → is_for a q ≡ true → IsInRange q → IsProfileInRange a → AreSpelled a ds
    → AreSpelled a (q ∷ ds)
spelled_more a q ds own range outfit spelled = (
  λ e. (taken_means a (pdu_text q) (carried q) (request_read q range e) own, answer_means a (known a ds) q 0 own (answer_read a (known a ds) q 0 outfit range (omega arith) own e)),
  spelled,
)

pub right_more : (a : AppProfile) (table new : Table) (es es' : Entities) (d d' : Holding) (key : RequestKey) (q p : Pdu) (stamp : ℕ)
    → AreRight a table es d → is_for a q ≡ true → IsKey key q
    → first_under q (requests (values table)) ≡ None → IsInRange q → p ≡ answer a (knows es d) q stamp
    → new.entries ≡ table.entries ++ (key, record { request = q; answer = p }) ∷ []
    → states_in es' ≡ after p q (states_in es) → ((xs : Entities) → knows xs d' ≡ result_of (brought q.body) (knows xs d)) → AreRight a new es' d'
right_more a table new es es' d d' key q p stamp right own is_key none range is kept states told =
    let ds = requests (values table) in
    let one : AnsweredRequest = record { request = q; answer = p } in
    let vs : values new ≡ values table ++ one ∷ [] = ap values_of kept ∙ values_last table.entries key one in
    let rs : requests (values new) ≡ q ∷ ds = ap requests vs ∙ kept_last [] (values table) one in
    let spelled : AreSpelled a (q ∷ ds) = spelled_more a q ds own range right.ranges right.spelled in
    let answer_is : p ≡ answer a (known a ds) q stamp = is ∙ ap (λ (k : Knowledge). answer a k q stamp) right.known_is in
    let stamp_is : p.stamp ≡ stamp = ap (λ (r : Pdu). r.stamp) answer_is ∙ stamp_of a (known a ds) q stamp (for_parts a q own).request in
    record {
      ranges = right.ranges;
      keyed = subst AreKeyed (sym kept) (keyed_last table.entries key one right.keyed is_key);
      answered = subst (AreAnswered a []) (sym vs) (answered_last a [] (values table) one right.answered
          (record { own = own; answer_is = answer_is ∙ ap (answer a (known a ds) q) (sym stamp_is) }));
      own = subst (AreFor a) (sym rs) (own, right.own);
      spelled = subst (AreSpelled a) (sym rs) spelled;
      known_is = known_more a q ds stamp es es' d d' own right.own spelled none right.known_is (states ∙ ap (λ (r : Pdu). after r q (states_in es)) is)
          (told es') ∙ ap (known a) (sym rs);
    }

-- An answer is stamped again.

keyed_stamped : (place stamp : ℕ) (es : List (RequestKey × AnsweredRequest)) → AreKeyed es → AreKeyed (stamped_at place stamp es)
keyed_stamped place stamp [] keyed = tt
keyed_stamped zero stamp (e ∷ es) keyed = (keyed.0, keyed.1)
keyed_stamped (suc place) stamp (e ∷ es) keyed = (keyed.0, keyed_stamped place stamp es keyed.1)

kept_stamped : (place stamp : ℕ) (ds : List Pdu) (es : List (RequestKey × AnsweredRequest))
    → requests_after ds (values_of (stamped_at place stamp es)) ≡ requests_after ds (values_of es)
kept_stamped place stamp ds [] = refl
kept_stamped zero stamp ds (e ∷ es) = refl
kept_stamped (suc place) stamp ds (e ∷ es) = kept_stamped place stamp (e.1.request ∷ ds) es

one_stamped : (a : AppProfile) (ds : List Pdu) (stamp : ℕ) (k : AnsweredRequest) → IsAnswered a ds k
    → with_stamp stamp k.answer ≡ answer a (known a ds) k.request stamp
one_stamped a ds stamp k is =
    ap (with_stamp stamp) is.answer_is ∙ answer_stamped a (known a ds) k.request k.answer.stamp stamp (for_parts a k.request is.own).request

answered_stamped : (a : AppProfile) (place stamp : ℕ) (ds : List Pdu) (es : List (RequestKey × AnsweredRequest)) → AreAnswered a ds (values_of es)
    → AreAnswered a ds (values_of (stamped_at place stamp es))
answered_stamped a place stamp ds [] are = tt
answered_stamped a zero stamp ds (e ∷ es) are = (record { own = are.0.own; answer_is = one_stamped a ds stamp e.1 are.0 }, are.1)
answered_stamped a (suc place) stamp ds (e ∷ es) are = (are.0, answered_stamped a place stamp (e.1.request ∷ ds) es are.1)

pub requests_stamped : (place stamp : ℕ) (table new : Table) → new.entries ≡ stamped_at place stamp table.entries
    → requests (values new) ≡ requests (values table)
requests_stamped place stamp table new e =
    ap (λ (es : List (RequestKey × AnsweredRequest)). requests (values_of es)) e ∙ kept_stamped place stamp [] table.entries

pub right_stamped : (a : AppProfile) (place stamp : ℕ) (table new : Table) (es : Entities) (d : Holding) → AreRight a table es d
    → new.entries ≡ stamped_at place stamp table.entries → AreRight a new es d
right_stamped a place stamp table new es d right e =
    let same = requests_stamped place stamp table new e in
    record {
      ranges = right.ranges;
      keyed = subst AreKeyed (sym e) (keyed_stamped place stamp table.entries right.keyed);
      answered = subst (λ (xs : List (RequestKey × AnsweredRequest)). AreAnswered a [] (values_of xs)) (sym e)
          (answered_stamped a place stamp [] table.entries right.answered);
      own = subst (AreFor a) (sym same) right.own;
      spelled = subst (AreSpelled a) (sym same) right.spelled;
      known_is = right.known_is ∙ ap (known a) (sym same);
    }

get_stamped : (place stamp : ℕ) (es : List (RequestKey × AnsweredRequest)) (k : AnsweredRequest) → slice_get (values_of es) place ≡ Some k
    → slice_get (values_of (stamped_at place stamp es)) place ≡ Some (stamped stamp k)
get_stamped place stamp [] k at = absurd cc
get_stamped zero stamp (e ∷ es) k at = let same : e.1 ≡ k = cc in ap (λ (j : AnsweredRequest). Some (stamped stamp j)) same
get_stamped (suc place) stamp (e ∷ es) k at = get_stamped place stamp es k at

answered_at : (a : AppProfile) (ds : List Pdu) (ks : List AnsweredRequest) (place : ℕ) (k : AnsweredRequest) → AreAnswered a ds ks → slice_get ks place ≡ Some k
    → IsAnswered a (requests_after ds (take place ks)) k
answered_at a ds [] place k are at = absurd cc
answered_at a ds (j ∷ ks) zero k are at = let same : j ≡ k = cc in subst (IsAnswered a ds) same are.0
answered_at a ds (j ∷ ks) (suc place) k are at = answered_at a (j.request ∷ ds) ks place k are.1 at

-- the answer that is given again
pub given_again : (a : AppProfile) (place stamp : ℕ) (table new : Table) (k : AnsweredRequest) → AreAnswered a [] (values table)
    → slice_get (values table) place ≡ Some k → new.entries ≡ stamped_at place stamp table.entries
    → option_map (λ (j : AnsweredRequest). j.answer) (slice_get (values new) place) ≡ Some
    (answer a (known a (requests_before place (values table))) k.request stamp)
given_again a place stamp table new k are at e =
    ap (λ (es : List (RequestKey × AnsweredRequest)). option_map (λ (j : AnsweredRequest). j.answer) (slice_get (values_of es) place)) e
    ∙ ap (option_map (λ (j : AnsweredRequest). j.answer)) (get_stamped place stamp table.entries k at)
    ∙ ap (λ (p : Pdu). Some p) (one_stamped a (requests_before place (values table)) stamp k (answered_at a [] (values table) place k are at))

-- the answer that is given first
get_last : (ks : List AnsweredRequest) (one : AnsweredRequest) → slice_get (ks ++ one ∷ []) (length ks) ≡ Some one
get_last [] one = refl
get_last (k ∷ ks) one = get_last ks one

pub given_first : (table new : Table) (key : RequestKey) (one : AnsweredRequest) → new.entries ≡ table.entries ++ (key, one) ∷ []
    → option_map (λ (j : AnsweredRequest). j.answer) (slice_get (values new) (length (values table))) ≡ Some one.answer
given_first table new key one e =
    ap (λ (ks : List AnsweredRequest). option_map (λ (j : AnsweredRequest). j.answer) (slice_get ks (length (values table))))
    (ap values_of e ∙ values_last table.entries key one)
    ∙ ap (option_map (λ (j : AnsweredRequest). j.answer)) (get_last (values table) one)

pub requests_more : (table new : Table) (key : RequestKey) (one : AnsweredRequest) → new.entries ≡ table.entries ++ (key, one) ∷ []
    → requests (values new) ≡ one.request ∷ requests (values table)
requests_more table new key one e = ap requests (ap values_of e ∙ values_last table.entries key one) ∙ kept_last [] (values table) one

-- a table with the same entries
pub right_same : (a : AppProfile) (table new : Table) (es es' : Entities) (d : Holding) → AreRight a table es d → new.entries ≡ table.entries
    → es' ≡ es → AreRight a new es' d
right_same a table new es es' d right e f =
    let same : values new ≡ values table = ap values_of e in
    record {
      ranges = right.ranges;
      keyed = subst AreKeyed (sym e) right.keyed;
      answered = subst (AreAnswered a []) (sym same) right.answered;
      own = subst (λ (ks : List AnsweredRequest). AreFor a (requests ks)) (sym same) right.own;
      spelled = subst (λ (ks : List AnsweredRequest). AreSpelled a (requests ks)) (sym same) right.spelled;
      known_is = ap (λ (xs : Entities). knows xs d) f ∙ right.known_is ∙ ap (λ (ks : List AnsweredRequest). known a (requests ks)) (sym same);
    }

-- an answer, as it was made
pub made_answer : (a : AppProfile) (es : Entities) (d : Holding) (q p : Pdu) (stamp : ℕ) → is_for a q ≡ true → p ≡ answer a (knows es d) q stamp
    → IsAnswer a (states_in es) q p
made_answer a es d q p stamp own e = subst (IsAnswer a (states_in es) q) (sym e) (is_answer a (knows es d) q stamp own)

-- what is kept last
pub kept_one : (table reserved new : Table) (key : RequestKey) (q r p : Pdu)
    → new.entries ≡ reserved.entries ++ (key, record { request = r; answer = p }) ∷ [] → reserved.entries ≡ table.entries → r ≡ q
    → new.entries ≡ table.entries ++ (key, record { request = q; answer = p }) ∷ []
kept_one table reserved new key q r p e f g =
    e ∙ ap (λ (es : List (RequestKey × AnsweredRequest)). es ++ (key, record { request = r; answer = p }) ∷ []) f
    ∙ ap (λ (s : Pdu). table.entries ++ (key, record { request = s; answer = p }) ∷ []) g

-- A request whose key is known.

-- what a request leaves whose key is known, and the place of its answer
pub record Again (a : AppProfile) (table new : Table) (es : Entities) (d : Holding) (q : Pdu) (stamp : ℕ) (r : Option ℕ) : Type 0 where
  pub right : AreRight a new es d
  pub came : requests (values new) ≡ with_request a (requests (values table)) q
  pub reply : option_and_then (λ i. option_map (λ (k : AnsweredRequest). k.answer) (slice_get (values new) i)) r ≡ reply_after a (requests (values table)) q stamp
  pub within : IfSome r (λ i. i < index_map_len new)

joins_not : (a : AppProfile) (ds : List Pdu) (q : Pdu) (f : Placed) → first_under q ds ≡ Some f → ds ≡ with_request a ds q
joins_not a ds q f e = sym (ap (λ (o : Option Placed). if is_for a q && is_none o then q ∷ ds else ds) e ∙ never (is_for a q)) where
  never : (b : Bool) → (if b && false then q ∷ ds else ds) ≡ ds
  never true = refl
  never false = refl

reply_again : (a : AppProfile) (ds : List Pdu) (q : Pdu) (stamp : ℕ) (f : Placed) → is_for a q ≡ true → first_under q ds ≡ Some f
    → reply_after a ds q stamp ≡ (if is_same_order q f.request then Some (answer a (known a f.before) f.request stamp) else None)
reply_again a ds q stamp f own e =
    ap (λ (b : Bool). if b then answer_under a ds q stamp (first_under q ds) else None) own ∙ ap (answer_under a ds q stamp) e

length_stamped : (place stamp : ℕ) (es : List (RequestKey × AnsweredRequest)) → length (stamped_at place stamp es) ≡ length es
length_stamped place stamp [] = refl
length_stamped zero stamp (e ∷ es) = refl
length_stamped (suc place) stamp (e ∷ es) = ap suc (length_stamped place stamp es)

again_by : (a : AppProfile) (table new : Table) (es : Entities) (d : Holding) (q : Pdu) (stamp place : ℕ) (k : AnsweredRequest) → AreRight a table es d
    → is_for a q ≡ true
    → slice_get (values table) place ≡ Some k → place < length (values table)
    → first_under q (requests (values table)) ≡ Some (record { request = k.request; before = requests_before place (values table) })
    → (b : Bool) → is_same_order q k.request ≡ b
    → MatchOption (if b then Some place else None) (new.entries ≡ table.entries) (λ i. new.entries ≡ stamped_at i stamp table.entries)
    → Again a table new es d q stamp (if b then Some place else None)
again_by a table new es d q stamp place k right own at within first false same e =
    let ds = requests (values table) in
    let f : Placed = record { request = k.request; before = requests_before place (values table) } in
    record {
      right = right_same a table new es es d right e refl;
      came = ap (λ (xs : List (RequestKey × AnsweredRequest)). requests (values_of xs)) e ∙ joins_not a ds q f first;
      reply = sym (reply_again a ds q stamp f own first ∙ ap (λ (b : Bool). if b then Some (answer a (known a f.before) f.request stamp) else None) same);
      within = tt;
    }
again_by a table new es d q stamp place k right own at within first true same e =
    let ds = requests (values table) in
    let f : Placed = record { request = k.request; before = requests_before place (values table) } in
    record {
      right = right_stamped a place stamp table new es d right e;
      came = requests_stamped place stamp table new e ∙ joins_not a ds q f first;
      reply = given_again a place stamp table new k right.answered at e
          ∙ sym (reply_again a ds q stamp f own first ∙ ap (λ (b : Bool). if b then Some (answer a (known a f.before) f.request stamp) else None) same);
      within =
          let n : length (values table) ≡ length table.entries = length-map table.entries (λ e. e.1) in
          let m : length new.entries ≡ length table.entries = ap length e ∙ length_stamped place stamp table.entries in
          omega (arith, n, m, within);
    }

pub taken_again : (a : AppProfile) (table new : Table) (es : Entities) (d : Holding) (q : Pdu) (stamp place : ℕ) (r : Option ℕ) → AreRight a table es d
    → is_for a q ≡ true → IsPlace q (values table) (Some place)
    → r ≡ option_and_then (λ k. if is_same_order q k.request then Some place else None) (slice_get (values table) place)
    → MatchOption r (new.entries ≡ table.entries) (λ i. new.entries ≡ stamped_at i stamp table.entries) → Again a table new es d q stamp r
taken_again a table new es d q stamp place r right own at is e =
    let k = at.0 in
    let given : r ≡ (if is_same_order q k.request then Some place else None) = is ∙ ap
    (option_and_then (λ (k : AnsweredRequest). if is_same_order q k.request then Some place else None)) at.1 in
    subst (Again a table new es d q stamp) (sym given)
    (again_by a table new es d q stamp place k right own at.1 at.2 at.3 (is_same_order q k.request) refl
    (subst (λ (o : Option ℕ). MatchOption o (new.entries ≡ table.entries) (λ i. new.entries ≡ stamped_at i stamp table.entries)) given e))

-- A request that is the first under its key.

pub joins : (a : AppProfile) (ds : List Pdu) (q : Pdu) → is_for a q ≡ true → first_under q ds ≡ None → q ∷ ds ≡ with_request a ds q
joins a ds q own none =
    sym (ap (λ (b : Bool). if b && is_none (first_under q ds) then q ∷ ds else ds) own ∙ ap (λ (o : Option Placed). if is_none o then q ∷ ds else ds) none)

pub reply_first : (a : AppProfile) (ds : List Pdu) (q : Pdu) (stamp : ℕ) → is_for a q ≡ true → first_under q ds ≡ None
    → reply_after a ds q stamp ≡ Some (answer a (known a ds) q stamp)
reply_first a ds q stamp own none =
    ap (λ (b : Bool). if b then answer_under a ds q stamp (first_under q ds) else None) own ∙ ap (answer_under a ds q stamp) none

-- Nothing was taken yet.

pub begun_in_range : (x : ℕ) (s : StationData) (d : DatumLists) (actions : List ℕ) → x < 2 ^ 8 → is_station s ≡ true → AreDatumsInRange d
    → IsProfileInRange (record { exercise = x; station = s; datums = d; actions = actions })
begun_in_range x s d actions exercise is datums =
    let address = and_parts (is_address s.address) (is_opening s.opening) is in
    let parts = and_parts (is_address_part s.address.site) (is_address_part s.address.application) address.0 in
    record { exercise = exercise; site = fits s.address.site parts.0; application = fits s.address.application parts.1; datums = datums } where
      fits : (n : ℕ) → is_address_part n ≡ true → n < 2 ^ 16
      fits n e =
          let high : nat_le n LARGEST_ADDRESS_PART ≡ true = (and_parts (nat_le 1 n) (nat_le n LARGEST_ADDRESS_PART) e).1 in
          let low : n ≤ LARGEST_ADDRESS_PART = leb-true n LARGEST_ADDRESS_PART high in omega (arith, low)

start_by : (x : ℕ) (o : StationData) (e : ℕ) → is_opening o.opening ≡ true → (b : Bool) → is_entity e ≡ b
    → listed_state o.opening e ≡ (if b then entity_state x o [] e else Absent)
unfolding entity_state
start_by x o e opens true t = refl
start_by x o e opens false t = by (nat_le 1 e) (nat_le e LARGEST_ENTITY) refl refl t where
  by : (b c : Bool) → nat_le 1 e ≡ b → nat_le e LARGEST_ENTITY ≡ c → (b && c) ≡ false → listed_state o.opening e ≡ Absent
  by true true s t u = absurd cc
  by true false s t u = let high : LARGEST_ENTITY < e = grind (arith, nat_tests) in absent_past 0 e o.opening opens high
  by false c s t u = let low : e ≤ 0 = grind (arith, nat_tests) in absent_up_to 0 e o.opening opens low

start_state : (a : AppProfile) → is_opening a.station.opening ≡ true → (e : ℕ) → listed_state a.station.opening e ≡ state_over a [] e
unfolding play state_after
start_state a opens e = start_by a.exercise a.station e opens (is_entity e) refl

pub right_start : (a : AppProfile) (table : Table) (es : Entities) (d : Holding) → IsProfileInRange a → table.entries ≡ [] → es ≡ a.station.opening
    → is_opening es ≡ true → d ≡ held_by a.datums → AreRight a table es d
right_start a table es d ranges empty opening opens held =
    let none : values table ≡ [] = ap values_of empty in
    record {
      ranges = ranges;
      keyed = subst AreKeyed (sym empty) tt;
      answered = subst (AreAnswered a []) (sym none) tt;
      own = subst (λ (ks : List AnsweredRequest). AreFor a (requests ks)) (sym none) tt;
      spelled = subst (λ (ks : List AnsweredRequest). AreSpelled a (requests ks)) (sym none) tt;
      known_is = begun ∙ ap (λ (ks : List AnsweredRequest). known a (requests ks)) (sym none);
    } where
      begun : knows es d ≡ known a []
      begun = ap (λ (h : Holding). knows es h) held ∙ λ i. record {
        states = λ e. (ap (λ (xs : Entities). listed_state xs e) opening ∙ start_state a (ap is_opening (sym opening) ∙ opens) e) i;
        fixed = λ id. last_under fixed_id id a.datums.fixed;
        variable = λ id. last_under variable_id id a.datums.variable;
      }
