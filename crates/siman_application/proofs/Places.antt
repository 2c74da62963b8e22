-- Where the first request under a key is kept.
use Rattle.std.proofs.Common.{◌≡◌, ℕ, zero, suc, ◌+◌, ◌<◌, List, [], ◌∷◌, ◌++◌, length, take, refl, ap, sym, ◌∙◌, subst, arith}
use Rattle.std.specs.Prelude.{Bool, true, false, ◌==◌, ◌&&◌, cond, position, slice_get, Option, Some, None, if◌then◌else◌, Result, Ok, Err, IsOk, OnOk}
use Rattle.std.specs.List.{position_from}
use Rattle.std.specs.Map.{keys_of, values_of}
use Rattle.std.specs.Option.{option_or}
use Rattle.std.proofs.lemmas.Iterator.Adapters.{position_from-zero}
use Rattle.indexmap.specs.IndexMap.{insert_entry, set_value_at}
use Rattle.siman_pdus.specs.declared.pdu.Pdu.{Pdu}
use Rattle.siman_pdus.specs.Answers.{same_id}
use Rattle.siman_pdus.specs.Role.{request_id_of}
use Rattle.siman_application.specs.declared.kept.AnsweredRequest.{AnsweredRequest}
use Rattle.siman_application.specs.declared.kept.RequestKey.{RequestKey}
use Rattle.siman_application.specs.Distinct.{Placed, is_under_key, first_under}
use Rattle.siman_application.specs.KeptRequests.{IsKey, AreKeyed, IsPlace, requests_after, requests, requests_before, stamped, stamped_at}

-- The first request under a key, looked for from the oldest on.

search_from : Pdu → List Pdu → List AnsweredRequest → Option Placed
search_from q ds [] = None
search_from q ds (k ∷ ks) = if is_under_key q k.request then Some (record { request = k.request; before = ds }) else search_from q (k.request ∷ ds) ks

or_if : {X : Type 0} (o rest : Option X) (x : X) (b : Bool)
    → option_or (option_or o (if b then Some x else None)) rest ≡ option_or o (if b then Some x else rest)
or_if None rest x true = refl
or_if None rest x false = refl
or_if (Some y) rest x b = refl

more : (q : Pdu) (ds : List Pdu) (k : AnsweredRequest) (ks : List AnsweredRequest)
    → option_or (first_under q (k.request ∷ ds)) (search_from q (k.request ∷ ds) ks) ≡ option_or (first_under q ds) (search_from q ds (k ∷ ks))
unfolding first_under search_from
more q ds k ks = or_if (first_under q ds) (search_from q (k.request ∷ ds) ks) (record { request = k.request; before = ds }) (is_under_key q k.request)

first_kept : (q : Pdu) (ds : List Pdu) (ks : List AnsweredRequest) → first_under q (requests_after ds ks) ≡ option_or (first_under q ds) (search_from q ds ks)
unfolding search_from
first_kept q ds [] = or_none (first_under q ds) where
  or_none : (o : Option Placed) → o ≡ option_or o None
  or_none None = refl
  or_none (Some x) = refl
first_kept q ds (k ∷ ks) = first_kept q (k.request ∷ ds) ks ∙ more q ds k ks

-- The same key.

equal_keys : (s t u w : Bool) → u ≡ w → (s && (t && u)) ≡ ((s && t) && w)
equal_keys true true u w e = e
equal_keys true false u w e = refl
equal_keys false t u w e = refl

same_ids : (o p : Option ℕ) (i j : ℕ) → o ≡ Some i → p ≡ Some j → (i == j) ≡ same_id o p
same_ids o p i j e f = rw (e, f) refl

abbrev tests_key : RequestKey → RequestKey → Bool
tests_key key k = (key.site == k.site) && ((key.application == k.application) && (key.request == k.request))

tests_under : (key k : RequestKey) (q d : Pdu) → IsKey key q → IsKey k d → tests_key key k ≡ is_under_key q d
tests_under key k q d i j =
    rw (i.site, i.application, j.site, j.application)
    (equal_keys (q.origin.site == d.origin.site) (q.origin.application == d.origin.application) (key.request == k.request)
    (same_id (request_id_of q.body) (request_id_of d.body))
    (same_ids (request_id_of q.body) (request_id_of d.body) key.request k.request i.request j.request))

-- The place.

-- what is found from a place on
abbrev FoundFrom : Pdu → List Pdu → List AnsweredRequest → ℕ → Option ℕ → Type 0
FoundFrom q ds ks i None = search_from q ds ks ≡ None
FoundFrom q ds ks i (Some p) =
    (j : ℕ) × (p ≡ i + j) × (k : AnsweredRequest) × (slice_get ks j ≡ Some k) × (j < length ks) ×
    (search_from q ds ks ≡ Some (record { request = k.request; before = requests_after ds (take j ks) }))

search_here : (q : Pdu) (ds : List Pdu) (k : AnsweredRequest) (ks : List AnsweredRequest) → is_under_key q k.request ≡ true
    → search_from q ds (k ∷ ks) ≡ Some (record { request = k.request; before = ds })
unfolding search_from
search_here q ds k ks e = ap (λ (b : Bool). if b then Some (record { request = k.request; before = ds }) else search_from q (k.request ∷ ds) ks) e

search_past : (q : Pdu) (ds : List Pdu) (k : AnsweredRequest) (ks : List AnsweredRequest) → is_under_key q k.request ≡ false
    → search_from q ds (k ∷ ks) ≡ search_from q (k.request ∷ ds) ks
unfolding search_from
search_past q ds k ks e = ap (λ (b : Bool). if b then Some (record { request = k.request; before = ds }) else search_from q (k.request ∷ ds) ks) e

search_none : (q : Pdu) (ds : List Pdu) → search_from q ds [] ≡ None
unfolding search_from
search_none q ds = refl

found_next : (q : Pdu) (ds : List Pdu) (k : AnsweredRequest) (ks : List AnsweredRequest) (i : ℕ) (o : Option ℕ) → is_under_key q k.request ≡ false
    → FoundFrom q (k.request ∷ ds) ks (i + 1) o → FoundFrom q ds (k ∷ ks) i o
found_next q ds k ks i None e f = search_past q ds k ks e ∙ f
found_next q ds k ks i (Some p) e f =
    let at : p ≡ i + 1 + f.0 = f.1 in
    let within : f.0 < length ks = f.4 in
    (suc f.0, omega arith, f.2, f.3, omega arith, search_past q ds k ks e ∙ f.5)

found_by : (q : Pdu) (ds : List Pdu) (k : AnsweredRequest) (ks : List AnsweredRequest) (i : ℕ) (o : Option ℕ) → FoundFrom q (k.request ∷ ds) ks (i + 1) o
    → (b : Bool) → is_under_key q k.request ≡ b → FoundFrom q ds (k ∷ ks) i (cond b (Some i) o)
found_by q ds k ks i o rest true e = (0, omega arith, k, refl, omega arith, search_here q ds k ks e)
found_by q ds k ks i o rest false e = found_next q ds k ks i o e rest

found_from : (q : Pdu) (key : RequestKey) (test : RequestKey → Bool) → ((k : RequestKey) → test k ≡ tests_key key k) → IsKey key q
    → (ds : List Pdu) (es : List (RequestKey × AnsweredRequest)) (i : ℕ) → AreKeyed es → FoundFrom q ds (values_of es) i (position_from test i (keys_of es))
found_from q key test tests own ds [] i keyed = search_none q ds
found_from q key test tests own ds (e ∷ es) i keyed =
    let is : test e.0 ≡ is_under_key q e.1.request = tests e.0 ∙ tests_under key e.0 q e.1.request own keyed.0 in
    subst (λ (b : Bool). FoundFrom q ds (values_of (e ∷ es)) i (cond b (Some i) (position_from test (i + 1) (keys_of es)))) (sym is)
    (found_by q ds e.1 (values_of es) i (position_from test (i + 1) (keys_of es)) (found_from q key test tests own (e.1.request ∷ ds) es (i + 1) keyed.1)
    (is_under_key q e.1.request) refl)

none_first : (q : Pdu) → first_under q [] ≡ None
unfolding first_under
none_first q = refl

first_is : (q : Pdu) (ks : List AnsweredRequest) → first_under q (requests ks) ≡ search_from q [] ks
first_is q ks = first_kept q [] ks ∙ ap (λ (o : Option Placed). option_or o (search_from q [] ks)) (none_first q)

is_place : (q : Pdu) (ks : List AnsweredRequest) (o : Option ℕ) → FoundFrom q [] ks 0 o → IsPlace q ks o
is_place q ks None f = first_is q ks ∙ f
is_place q ks (Some p) f =
    let same : p ≡ f.0 = omega (arith, f.1) in
    subst (λ (n : ℕ). (k : AnsweredRequest) × (slice_get ks n ≡ Some k) × (n < length ks) ×
    (first_under q (requests ks) ≡ Some (record { request = k.request; before = requests_before n ks }))) (sym same)
    (f.2, f.3, f.4, first_is q ks ∙ f.5)

pub place_is : (q : Pdu) (key : RequestKey) (test : RequestKey → Bool) → ((k : RequestKey) → test k ≡ tests_key key k) → IsKey key q
    → (es : List (RequestKey × AnsweredRequest)) → AreKeyed es → IsPlace q (values_of es) (position test (keys_of es))
place_is q key test tests own es keyed =
    subst (λ (o : Option ℕ). IsPlace q (values_of es) o) (sym (position_from-zero test (keys_of es)))
    (is_place q (values_of es) (position_from test 0 (keys_of es)) (found_from q key test tests own [] es 0 keyed))

-- A new request goes last.

search_head : (q : Pdu) (ds : List Pdu) (k : AnsweredRequest) (ks : List AnsweredRequest) → search_from q ds (k ∷ ks) ≡ None
    → (is_under_key q k.request ≡ false) × (search_from q (k.request ∷ ds) ks ≡ None)
unfolding search_from
search_head q ds k ks e = by (is_under_key q k.request) e where
  by : (b : Bool) → (if b then Some (record { request = k.request; before = ds }) else search_from q (k.request ∷ ds) ks) ≡ None → (b ≡ false) × (search_from q (k.request ∷ ds) ks ≡ None)
  by true e = absurd cc
  by false e = (refl, e)

inserted_from : (q : Pdu) (key : RequestKey) (same : RequestKey → RequestKey → Bool) → ((j k : RequestKey) → same j k ≡ tests_key j k) → IsKey key q
    → (one : AnsweredRequest)
    → (ds : List Pdu) (es : List (RequestKey × AnsweredRequest)) → AreKeyed es → search_from q ds (values_of es) ≡ None
    → insert_entry same es key one ≡ es ++ (key, one) ∷ []
inserted_from q key same tests own one ds [] keyed none = refl
inserted_from q key same tests own one ds (e ∷ es) keyed none =
    let head = search_head q ds e.1 (values_of es) none in
    ap (λ (b : Bool). if b then (e.0, one) ∷ es else e ∷ insert_entry same es key one) (tests key e.0 ∙ tests_under key e.0 q e.1.request own keyed.0 ∙ head.0)
    ∙ ap (λ (rest : List (RequestKey × AnsweredRequest)). e ∷ rest) (inserted_from q key same tests own one (e.1.request ∷ ds) es keyed.1 head.1)

pub inserted_last : (q : Pdu) (key : RequestKey) (same : RequestKey → RequestKey → Bool) → ((j k : RequestKey) → same j k ≡ tests_key j k)
    → IsKey key q → (one : AnsweredRequest)
    → (es : List (RequestKey × AnsweredRequest)) → AreKeyed es → first_under q (requests (values_of es)) ≡ None
    → insert_entry same es key one ≡ es ++ (key, one) ∷ []
inserted_last q key same tests own one es keyed none = inserted_from q key same tests own one [] es keyed (sym (first_is q (values_of es)) ∙ none)

pub on_ok : {X E P : Type 0} (r : Result X E) → IsOk r → OnOk r P → P
on_ok (Ok x) is p = p
on_ok (Err e) is p = absurd cc

-- A kept answer with another timestamp.

pub values_stamped : (place stamp : ℕ) (es : List (RequestKey × AnsweredRequest)) (k : AnsweredRequest) → slice_get (values_of es) place ≡ Some k
    → set_value_at es place (stamped stamp k) ≡ stamped_at place stamp es
values_stamped place stamp [] k at = absurd cc
values_stamped zero stamp (e ∷ es) k at = let same : e.1 ≡ k = cc in ap (λ (j : AnsweredRequest). (e.0, stamped stamp j) ∷ es) (sym same)
values_stamped (suc place) stamp (e ∷ es) k at = ap (λ (rest : List (RequestKey × AnsweredRequest)). e ∷ rest) (values_stamped place stamp es k at)
