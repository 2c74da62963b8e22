-- The stored requests: a table by key, in order of arrival.
use Rattle.std.specs.Prelude.{◌≡◌, ◌<◌, ℕ, zero, suc, List, [], ◌∷◌, length, take, slice_get, true, Option, Some, None}
use Rattle.std.specs.declared.hash.FoldHasher.{FoldHasher}
use Rattle.std.specs.declared.hash.BuildHasherDefault.{BuildHasherDefault}
use Rattle.indexmap.specs.IndexMap.{IndexMap, values}
use Rattle.siman_pdus.specs.declared.pdu.Pdu.{Pdu}
use Rattle.siman_pdus.specs.Role.{request_id_of}
use Rattle.siman_pdus.specs.Spelling.{body_kind, carried, pdu_text}
use Rattle.exercise_model.specs.Meaning.{meaning}
use Rattle.siman_application.specs.declared.kept.AnsweredRequest.{AnsweredRequest}
use Rattle.siman_application.specs.declared.kept.RequestKey.{RequestKey}
use Rattle.siman_application.specs.AppProfile.{AppProfile}
use Rattle.siman_application.specs.Answer.{with_stamp, answer}
use Rattle.siman_application.specs.Distinct.{is_for, first_under}
use Rattle.siman_application.specs.Holding.{Holding}
use Rattle.siman_application.specs.Knows.{knows}
use Rattle.siman_application.specs.Listed.{Entities}
use Rattle.siman_application.specs.Play.{is_for_entities, known}
use Rattle.siman_application.specs.Ranges.{IsProfileInRange}

abbrev pub Table : Type 0
Table = IndexMap RequestKey AnsweredRequest (BuildHasherDefault FoldHasher)

-- the distinct requests after others and then these, which are in order of arrival; the last first
abbrev pub requests_after : List Pdu → List AnsweredRequest → List Pdu
requests_after ds [] = ds
requests_after ds (k ∷ ks) = requests_after (k.request ∷ ds) ks

-- the stored requests, the last first
abbrev pub requests : List AnsweredRequest → List Pdu
requests ks = requests_after [] ks

-- the key is that of the request
pub record IsKey (k : RequestKey) (q : Pdu) : Type 0 where
  pub site : k.site ≡ q.origin.site
  pub application : k.application ≡ q.origin.application
  pub request : request_id_of q.body ≡ Some k.request

-- each request is stored under its key
abbrev pub AreKeyed : List (RequestKey × AnsweredRequest) → Type 0
AreKeyed [] = Unit {0}
AreKeyed (e ∷ es) = IsKey e.0 e.1.request × AreKeyed es

-- a stored request is for the station, and its answer is the answer to it after these, with some timestamp
pub record IsAnswered (a : AppProfile) (ds : List Pdu) (k : AnsweredRequest) : Type 0 where
  pub own : is_for a k.request ≡ true
  pub answer_is : k.answer ≡ answer a (known a ds) k.request k.answer.stamp

-- each request that was stored after some others is answered
abbrev pub AreAnswered : AppProfile → List Pdu → List AnsweredRequest → Type 0
AreAnswered a ds [] = Unit {0}
AreAnswered a ds (k ∷ ks) = IsAnswered a ds k × AreAnswered a (k.request ∷ ds) ks

-- the text of each request for entities means the request as a datagram carries it, and that of its answer the answer
abbrev pub AreSpelled : AppProfile → List Pdu → Type 0
AreSpelled a [] = Unit {0}
AreSpelled a (d ∷ ds) =
    (is_for_entities (body_kind d.body) ≡ true
    → (meaning a.exercise (pdu_text d) ≡ Some (carried d)) × (meaning a.exercise (pdu_text (answer a (known a ds) d 0)) ≡ Some (answer a (known a ds) d 0)))
    × AreSpelled a ds

-- each request is for the station
abbrev pub AreFor : AppProfile → List Pdu → Type 0
AreFor a [] = Unit {0}
AreFor a (d ∷ ds) = (is_for a d ≡ true) × AreFor a ds

-- the tables of an application are right: each request is under its key with its answer, and entities and datums
-- are as the requests leave them; the numbers of its configuration are in their ranges
pub record AreRight (a : AppProfile) (table : Table) (entities : Entities) (held : Holding) : Type 0 where
  pub ranges : IsProfileInRange a
  pub keyed : AreKeyed table.entries
  pub answered : AreAnswered a [] (values table)
  pub own : AreFor a (requests (values table))
  pub spelled : AreSpelled a (requests (values table))
  pub known_is : knows entities held ≡ known a (requests (values table))

-- the requests that are stored before a place, the last first
abbrev pub requests_before : ℕ → List AnsweredRequest → List Pdu
requests_before place ks = requests (take place ks)

-- the place of the first request under the key of q, if any
abbrev pub IsPlace : Pdu → List AnsweredRequest → Option ℕ → Type 0
IsPlace q ks None = first_under q (requests ks) ≡ None
IsPlace q ks (Some place) =
    (k : AnsweredRequest) × (slice_get ks place ≡ Some k) × (place < length ks) × (first_under q (requests ks) ≡ Some (record { request = k.request; before = requests_before place ks }))

-- a stored request whose answer has another timestamp
abbrev pub stamped : ℕ → AnsweredRequest → AnsweredRequest
stamped stamp k = record { request = k.request; answer = with_stamp stamp k.answer }

-- the entries with the answer at a place stamped again
abbrev pub stamped_at : ℕ → ℕ → List (RequestKey × AnsweredRequest) → List (RequestKey × AnsweredRequest)
stamped_at place stamp [] = []
stamped_at zero stamp (e ∷ es) = (e.0, stamped stamp e.1) ∷ es
stamped_at (suc place) stamp (e ∷ es) = e ∷ stamped_at place stamp es
