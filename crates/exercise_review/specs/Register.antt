-- The keys by which entries are indexed: by their station, and by the order that they make, bring or take up (profile).
use Rattle.std.specs.Prelude.{◌≡◌, ◌<◌, ◌≤◌, ◌==◌, ℕ, length, Bool, true, false, nat_eq, Option, Some, None, option_map, option_and_then, slice_get, slice_index_or, IfSome, if◌then◌else◌}
use Rattle.std.specs.Option.{option_map_or}
use Rattle.std.specs.List.{IsDistinct}
use Rattle.std.specs.declared.hash.BuildHasherDefault.{BuildHasherDefault}
use Rattle.std.specs.declared.hash.FoldHasher.{FoldHasher}
use Rattle.indexmap.specs.IndexSet.{IndexSet}
use Rattle.siman_pdus.specs.declared.pdu.Pdu.{Pdu}
use Rattle.siman_pdus.specs.Role.{is_request_body, request_id_of}
use Rattle.exercise_model.specs.declared.form.Form.{Form}
use Rattle.exercise_model.specs.Entry.{Entry, Sent, Received, Told}
use Rattle.exercise_model.specs.Recording.{PlainRecording}
use Rattle.exercise_model.specs.Account.{pair_of}
use Rattle.exercise_model.specs.Meaning.{meaning}
use Rattle.exercise_model.specs.Setting.{is_open}
use Rattle.exercise_findings.specs.Number.{entry_of}
use Rattle.exercise_review.specs.declared.entry_chains.Keyed.{Keyed}
use Rattle.exercise_review.specs.declared.entry_chains.Keyed.TheVariants.{Nothing, At, Key}
use Rattle.exercise_review.specs.declared.entry_chains.EntryChains.{EntryChains}
use Rattle.exercise_review.specs.Counted.{last_below}
use Rattle.exercise_review.specs.Digest.{digest, digest_of, identifier_at}
use Rattle.exercise_review.specs.Entries.{pdu_received}
use Rattle.exercise_review.specs.Order.{OrderData}

-- ---- keys

-- the digest of p, if p is a request
abbrev pub request_digest : Pdu → Option ℕ
request_digest p = if is_request_body p.body then Some (digest p) else None

-- the key of p at station s, if p is a request
unfoldable pub order_key : ℕ → Pdu → Option ℕ
order_key s p = if is_request_body p.body then Some (digest_of s p) else None

-- the key of the identifier of p at station s, if p has one
abbrev pub id_key : ℕ → Pdu → Option ℕ
id_key s p = option_map (identifier_at s) (request_id_of p.body)

-- the key of a PDU that station s sends at entry i: for a request its key, for an answer the key of the request it
-- takes up
unfoldable pub sent_key : PlainRecording → (s i : ℕ) → Pdu → Option ℕ
sent_key r s i p = if is_request_body p.body then order_key s p else option_and_then (order_key s) (option_and_then (pdu_received r s) (pair_of r i))

-- the key of a PDU that station s receives: for a request its key; for another PDU, in an open recording, the key of
-- its request identifier
unfoldable pub receipt_key : Form → ℕ → Pdu → Option ℕ
receipt_key f s p = if is_request_body p.body then order_key s p else (if is_open f then id_key s p else None)

abbrev pub entry_key : PlainRecording → ℕ → Entry → Option ℕ
entry_key r i (Sent s stamp b) = option_and_then (sent_key r s i) (meaning r.setting.exercise b)
entry_key r i (Received s stamp b) = option_and_then (receipt_key r.setting.form s) (meaning r.setting.exercise b)
entry_key r i (Told s e y) = None

-- THE KEY OF ENTRY i, if it belongs to an order
unfoldable pub key_at : PlainRecording → ℕ → Option ℕ
key_at r i = option_and_then (entry_key r i) (slice_get r.entries i)

-- a number that no station has
abbrev pub nowhere : ℕ
nowhere = 65535

-- the second key: for a sent request that of its identifier, for a received request that of its order at no station
abbrev pub second_key : ℕ → Entry → Option ℕ
second_key x (Sent s stamp b) = option_and_then (λ p. if is_request_body p.body then id_key s p else None) (meaning x b)
second_key x (Received s stamp b) = option_and_then (order_key nowhere) (meaning x b)
second_key x (Told s e y) = None

-- THE SECOND KEY OF ENTRY i, in an open recording
unfoldable pub second_at : PlainRecording → ℕ → Option ℕ
second_at r i = if is_open r.setting.form then option_and_then (second_key r.setting.exercise) (slice_get r.entries i) else None

-- ---- entries under a key

-- entry i has key k
unfoldable pub holds : (ℕ → Option ℕ) → ℕ → ℕ → Bool
holds keys k i = option_map_or (λ l. nat_eq l k) (keys i) false

abbrev pub has_key : PlainRecording → ℕ → ℕ → Bool
has_key r = holds (key_at r)

abbrev pub has_second : PlainRecording → ℕ → ℕ → Bool
has_second r = holds (second_at r)

-- all entries that pass a test have key k
abbrev pub IsUnder : PlainRecording → (ℕ → Bool) → ℕ → Type 0
IsUnder r test k = (i : ℕ) → test i ≡ true → has_key r k i ≡ true

-- the distinct keys, in the order of their first entries; all are digests
abbrev pub Keys : Type 0
Keys = IndexSet ℕ (BuildHasherDefault FoldHasher)

-- the key at a place; none for the number `no_entry`
abbrev pub key_numbered : Keys → ℕ → Option ℕ
key_numbered keys number = option_and_then (slice_get keys.keys) (entry_of number)

-- the key that a value of type `Keyed` gives
abbrev pub given_key : Keys → Keyed → Option ℕ
given_key keys Nothing = None
given_key keys (At place) = slice_get keys.keys place
given_key keys (Key k) = Some k

-- the number for no entry
abbrev pub no_entry : ℕ
no_entry = 0xFFFFFFFF

-- the number is the place of the key, or `no_entry` if there is no key
pub record IsPlaced (keys : Keys) (key : Option ℕ) (number : ℕ) : Type 0 where
  pub is : key_numbered keys number ≡ key
  pub none : key ≡ None → number ≡ no_entry

-- the number is the previous entry with the key of entry j
abbrev pub IsBefore : (ℕ → Option ℕ) → ℕ → ℕ → Type 0
IsBefore keys j number = (k : ℕ) → holds keys k j ≡ true → entry_of number ≡ last_below (holds keys k) j

-- THE INDEX IS RIGHT for the entries below n: it has, for each key, the last entry with it; for each entry, the place
-- of its key and the previous entry with it
pub record AreRegistered (keys : ℕ → Option ℕ) (n : ℕ) (w : EntryChains) : Type 0 where
  pub unique : IsDistinct nat_eq w.keys.keys
  pub count : length w.last.items ≡ length w.keys.keys
  pub last : (p k : ℕ) → slice_get w.keys.keys p ≡ Some k → entry_of (slice_index_or w.last.items p no_entry) ≡ last_below (holds keys k) n
  pub places : (i : ℕ) → i < n → IsPlaced w.keys (keys i) (slice_index_or w.places.items i no_entry)
  pub rest : (i : ℕ) → n ≤ i → slice_index_or w.places.items i no_entry ≡ no_entry
  pub before : (i : ℕ) → i < n → IsBefore keys i (slice_index_or w.before.items i no_entry)

-- entry n was added under the key at place p
pub record IsKept (n p : ℕ) (old new : EntryChains) : Type 0 where
  pub keys : new.keys ≡ old.keys
  pub count : length new.last.items ≡ length old.last.items
  pub last : (q : ℕ) → slice_index_or new.last.items q no_entry ≡ (if q == p then n else slice_index_or old.last.items q no_entry)
  pub places : (i : ℕ) → slice_index_or new.places.items i no_entry ≡ (if i == n then p else slice_index_or old.places.items i no_entry)
  pub before : (i : ℕ) → slice_index_or new.before.items i no_entry ≡ (if i == n then slice_index_or old.last.items p no_entry else slice_index_or old.before.items i no_entry)

-- the index of all entries by their second keys, if it exists
abbrev pub AreSeconds : PlainRecording → Option EntryChains → Type 0
AreSeconds r second = IfSome second (AreRegistered (second_at r) (length r.entries))

-- the key of the entries at which the maker of an order may receive answers to it
unfoldable pub maker_key : OrderData → Option ℕ
maker_key o = id_key (option_map_or (λ s. s) o.maker 0) o.request
