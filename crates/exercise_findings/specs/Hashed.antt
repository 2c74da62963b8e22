-- Hashes, and the input of the hasher for keys and identifiers: whole words of 64 bits, since the hasher takes a word at a time, or single bytes; role and response of a key are left out, so that at most three keys share their input (profile).
use Rattle.std.specs.Prelude.{ℕ, List, [], ◌∷◌, ◌+◌, ◌*◌, ◌^◌, ◌%◌, ◌++◌}
use Rattle.std.specs.Hash.{HashWrites, u64}
use Rattle.std.specs.Hash.DefaultHasher as sip
use Rattle.std.specs.List.{fold}
use Rattle.exercise_findings.specs.declared.key.Key.{Key}
use Rattle.exercise_findings.specs.declared.requests.Identifier.{Identifier}

-- one 64-bit word of a number of 32 bits and two of 16
abbrev pub word : (high middle low : ℕ) → ℕ
word high middle low = high * 0x100000000 + middle * 0x10000 + low

abbrev pub key_fed : Key → HashWrites
key_fed k = u64 (word k.request k.site k.application) ++ u64 (word k.flag k.entity k.station)

abbrev pub identifier_fed : Identifier → HashWrites
identifier_fed k = u64 (word k.request k.station 0)

-- the hash of some input: the lower 32 bits of the hasher's result
abbrev pub hash_fed : HashWrites → ℕ
hash_fed writes = sip.finish (fold sip.write sip.initial writes) % 2 ^ 32

-- the hash base of a key, equal for keys that differ only in role and response
abbrev pub key_base : Key → ℕ
key_base k = hash_fed (key_fed k)

-- the hash of a key: its base with the response in the highest two of 32 bits, since the lowest bits select the home slot
abbrev pub key_hash : Key → ℕ
key_hash k = key_base k % 0x40000000 + 0x40000000 * (k.response % 4)

-- the hash of an identifier
abbrev pub identifier_hash : Identifier → ℕ
identifier_hash k = hash_fed (identifier_fed k)

-- the hash of a datagram
abbrev pub datagram_hash : List ℕ → ℕ
datagram_hash bytes = hash_fed (bytes ∷ [])
