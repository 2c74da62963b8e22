-- Index of receipts: the first and the last receipt of each datagram at each station (profile).
use Rattle.std.specs.Prelude.{◌≡◌, ℕ, List, ◌∷◌, Bool, true, false, ◌&&◌, ◌==◌, bytes_eq, Option, option_map}
use Rattle.std.specs.Option.{option_map_or}
use Rattle.std.specs.Hash.{HashWrites, u16}
use Rattle.std.specs.Cmp.Lexicographic.{bytes_decides}
use Rattle.std.proofs.Common.{ap, ◌∙◌}
use Rattle.std.proofs.lemmas.Bool.{and_parts, eqb-true}
use Rattle.std.specs.declared.hash.BuildHasherDefault.{BuildHasherDefault}
use Rattle.std.specs.declared.hash.DefaultHasher.{DefaultHasher}
use Rattle.indexmap.specs.IndexMap.{IndexMap, get}
use Rattle.siman_pdus.specs.declared.pdu.Pdu.{Pdu}
use Rattle.siman_pdus.specs.Role.{is_request_body}
use Rattle.exercise_model.specs.Meaning.{meaning}
use Rattle.exercise_model.specs.Recording.{PlainRecording}
use Rattle.exercise_model.specs.Place.{first_below}
use Rattle.exercise_review.specs.declared.receipt.Receipt.{Receipt}
use Rattle.exercise_review.specs.declared.receipt.Receipts.{Receipts}
use Rattle.exercise_review.specs.Counted.{last_below}
use Rattle.exercise_review.specs.Entries.{bytes_received}

-- station s receives these bytes at entry i
unfoldable pub gets_in : PlainRecording → ℕ → List ℕ → ℕ → Bool
gets_in r s b i = option_map_or (bytes_eq b) (bytes_received r s i) false

-- equal stations and equal bytes
abbrev pub same_receipt : Receipt → Receipt → Bool
same_receipt x y = (x.station == y.station) && bytes_eq x.bytes.now y.bytes.now

-- the input of a hasher for a receipt
abbrev pub receipt_fed : Receipt → HashWrites
receipt_fed x = x.bytes.now ∷ u16 x.station

-- equal receipts give equal input
pub receipts_alike : (x y : Receipt) → same_receipt x y ≡ true → receipt_fed x ≡ receipt_fed y
receipts_alike x y same =
    let parts = and_parts (x.station == y.station) _ same in
    ap (λ (b : List ℕ). b ∷ u16 x.station) ((bytes_decides x.bytes.now y.bytes.now).0 parts.1)
    ∙ ap (λ (s : ℕ). y.bytes.now ∷ u16 s) (eqb-true x.station y.station parts.0)

-- the first entry of the receipts stored so far, or this one
abbrev pub first_kept : ℕ → Option Receipts → ℕ
first_kept entry kept = option_map_or (λ (x : Receipts). x.first) kept entry

-- the table of receipts
abbrev pub Heard : Type 0
Heard = IndexMap Receipt Receipts (BuildHasherDefault DefaultHasher)

-- these bytes mean a request
abbrev pub asks_in : PlainRecording → List ℕ → Bool
asks_in r b = option_map_or (λ (p : Pdu). is_request_body p.body) (meaning r.setting.exercise b) false

-- THE INDEX IS RIGHT: it has the first and the last of the entries below n at which a station receives these bytes;
-- bytes that mean a request may be missing
pub record IsReceiptIndex (r : PlainRecording) (n : ℕ) (heard : Heard) : Type 0 where
  pub first : (k : Receipt) → asks_in r k.bytes.now ≡ false → option_map (λ (x : Receipts). x.first) (get same_receipt heard k) ≡ first_below (gets_in r k.station k.bytes.now) n
  pub last : (k : Receipt) → asks_in r k.bytes.now ≡ false → option_map (λ (x : Receipts). x.last) (get same_receipt heard k) ≡ last_below (gets_in r k.station k.bytes.now) n
