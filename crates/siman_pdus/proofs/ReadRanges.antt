-- What is read of bytes is in its ranges.
use Rattle.std.proofs.Common.{◌≡◌, ℕ, zero, suc, ◌+◌, ◌-◌, ◌*◌, ◌^◌, ◌<◌, ◌≤◌, List, [], ◌∷◌, length, map, get_or, take, drop, Some, None, Result, Ok, Err, sym, subst, ◌∙◌, arith, inl, inr}
use Rattle.std.specs.Prelude.{Bool, true, false, if◌then◌else◌, All, IfOk}
use Rattle.std.specs.Int.{w8, w16, w32}
use Rattle.std.proofs.Math.Nat.{div-mul-le_self}
use Rattle.std.proofs.lemmas.Bool.{cases_lt, le-leb, lt-leb}
use Rattle.std.proofs.lemmas.List.{get_or-drop, get_or-take, get_or_past, length-take, length-drop}
use Rattle.std.proofs.lemmas.List.Elements.{All-nil, All-cons, All-head, All-tail, All-from_get_or}
use Rattle.dis_records.specs.declared.kind.Kind.{Kind}
use Rattle.dis_records.specs.declared.kind.Kind.TheVariants as kinds
use Rattle.dis_records.specs.ClockTime.{clock_time_at}
use Rattle.dis_records.specs.Datum.{Datum, canonical, padded}
use Rattle.dis_records.specs.Entity.{entity_at}
use Rattle.dis_records.specs.Header.{has_status, header_at, header_refusal}
use Rattle.dis_records.specs.Layout.{spelled_number, bytes_for, first_bits, cleared, total}
use Rattle.dis_records.specs.Records.{fixed_at, variable_at, variable_sizes, ids_at}
use Rattle.dis_records.specs.Views.{variable_start, shown_datums, shown_ids}
use Rattle.dis_records.proofs.Offered.{length-cleared, cleared-cleared, header_reads}
use Rattle.siman_pdus.specs.declared.fault.PduFault.{PduFault}
use Rattle.siman_pdus.specs.declared.fault.ViewFault.{ViewFault}
use Rattle.siman_pdus.specs.declared.pdu.Pdu.{Pdu}
use Rattle.siman_pdus.specs.declared.views.PduView.{PduView}
use Rattle.siman_pdus.specs.Ranges.{IsEntityIdInRange, IsTimeInRange, IsFixedInRange, IsVariableInRange, AreDatumsInRange, AreIdsInRange, IsBodyInRange, IsInRange}
use Rattle.siman_pdus.specs.Reading.{datums_at, id_lists_at, shown_body, body_at, pdu_of, view_from, pdu_from, view_refusal, refusal_of, reading}
use Rattle.siman_pdus.specs.Shape.{IsWhole, body_refusal, datum_sizes}
use Rattle.siman_pdus.proofs.Bodies.{datums_fit}
use Rattle.siman_pdus.proofs.Carried.{IsByte}
use Rattle.siman_pdus.proofs.Ends.{refused_whole}
use Rattle.siman_pdus.proofs.Spellings.{not_refused, not_refused_parts, passed}

-- Each is a byte, what is past the end among them.
abbrev pub AreBytes : List ℕ → Type 0
AreBytes b = (i : ℕ) → get_or b i 0 < 256

AreBytes-drop : (n : ℕ) (b : List ℕ) → AreBytes b → AreBytes (drop n b)
AreBytes-drop n b h i = rw get_or-drop (h (n + i))

AreBytes-take : (n : ℕ) (b : List ℕ) → AreBytes b → AreBytes (take n b)
AreBytes-take n b h i =
    elim (cases_lt i n) [
      | inl lt ↦ rw (get_or-take n b i 0 lt) (h i)
      | inr le ↦ rw (get_or_past (take n b) i 0 (omega (arith, length-take n b))) (omega arith)
    ]

-- ---- numbers

below8 : (at : ℕ) (b : List ℕ) → AreBytes b → spelled_number w8 at b < 2 ^ 8
unfolding spelled_number
below8 at b h = let x = AreBytes-take 1 (drop at b) (AreBytes-drop at b h) in omega (arith, x 0)

carried_below : (there : Bool) (n : ℕ) → n < 2 ^ 8 → (if there then n else 0) < 2 ^ 8
carried_below true n h = h
carried_below false n h = omega arith

below16 : (at : ℕ) (b : List ℕ) → AreBytes b → spelled_number w16 at b < 2 ^ 16
unfolding spelled_number
below16 at b h = let x = AreBytes-take 2 (drop at b) (AreBytes-drop at b h) in omega (arith, x 0, x 1)

below32 : (at : ℕ) (b : List ℕ) → AreBytes b → spelled_number w32 at b < 2 ^ 32
unfolding spelled_number
below32 at b h = let x = AreBytes-take 4 (drop at b) (AreBytes-drop at b h) in omega (arith, x 0, x 1, x 2, x 3)

-- ---- records

module _ (b : List ℕ) (bytes : AreBytes b) where
  entity_in_range : (at : ℕ) → IsEntityIdInRange (entity_at at b)
  entity_in_range at = (below16 at b bytes, below16 (at + 2) b bytes, below16 (at + 4) b bytes)

  time_in_range : (at : ℕ) → IsTimeInRange (clock_time_at at b)
  time_in_range at = (below32 at b bytes, below32 (at + 4) b bytes)

  fixed_in_range : (n at : ℕ) → All IsFixedInRange (fixed_at n at b)
  unfolding fixed_at
  fixed_in_range zero at = All-nil IsFixedInRange
  fixed_in_range (suc n) at = All-cons IsFixedInRange _ (fixed_at n (at + 8) b) (below32 at b bytes, below32 (at + 4) b bytes) (fixed_in_range n (at + 8))

  ids_in_range : (n at : ℕ) → All (λ id. id < 2 ^ 32) (ids_at n at b)
  unfolding ids_at
  ids_in_range zero at = All-nil (λ id. id < 2 ^ 32)
  ids_in_range (suc n) at = All-cons (λ id. id < 2 ^ 32) (spelled_number w32 at b) (ids_at n (at + 4) b) (below32 at b bytes) (ids_in_range n (at + 4))

first_bits_least : (bits byte : ℕ) → first_bits bits byte ≤ byte
first_bits_least bits byte =
    elim (cases_lt bits 8) [
      | inl lt ↦ rw (lt-leb 8 bits lt) (div-mul-le_self byte (2 ^ (8 - bits)))
      | inr le ↦ rw (le-leb 8 bits le) (omega arith)
    ]

cleared_bytes : (bits : ℕ) (xs : List ℕ) → All IsByte xs → All IsByte (cleared bits xs)
cleared_bytes bits [] h = All-nil IsByte
cleared_bytes bits (byte ∷ xs) h =
    let small : byte < 2 ^ 8 = All-head IsByte byte xs h in
    All-cons IsByte (first_bits bits byte) (cleared (bits - 8) xs) (omega (arith, first_bits_least bits byte, small))
    (cleared_bytes (bits - 8) xs (All-tail IsByte byte xs h))

-- a datum with its unused bits zero
canonical_in_range : (d : Datum) → d.id < 2 ^ 32 → d.bits < 2 ^ 32 → All IsByte d.bytes → length d.bytes ≡ bytes_for d.bits
    → IsVariableInRange (canonical d)
canonical_in_range d id bits bytes len = record {
  id = id;
  bits = bits;
  bytes = cleared_bytes d.bits d.bytes bytes;
  value = record { size = length-cleared d.bits d.bytes ∙ len; unused = cleared-cleared d.bits d.bytes };
}

module _ (b : List ℕ) (bytes : AreBytes b) where
  variable_in_range : (n at : ℕ) → at + total (variable_sizes n at b) ≤ length b → All IsVariableInRange (map canonical (variable_at n at b))
  unfolding variable_at variable_sizes
  variable_in_range zero at le = All-nil IsVariableInRange
  variable_in_range (suc n) at le =
      let bits = spelled_number w32 (at + 4) b in
      let value = take (bytes_for bits) (drop (at + 8) b) in
      let len : length value ≡ bytes_for bits = omega (arith, length-take (bytes_for bits) (drop (at + 8) b), length-drop (at + 8) b) in
      let small = AreBytes-take (bytes_for bits) (drop (at + 8) b) (AreBytes-drop (at + 8) b bytes) in
      All-cons IsVariableInRange _ (map canonical (variable_at n (at + padded bits) b))
      (canonical_in_range (record { id = spelled_number w32 at b; bits = bits; bytes = value }) (below32 at b bytes) (below32 (at + 4) b bytes)
      (All-from_get_or IsByte value 0 (λ i lt. small i)) len)
      (variable_in_range n (at + padded bits) (omega arith))

-- ---- bodies

module _ (b : List ℕ) (bytes : AreBytes b) where
  datums_in_range : (counts : ℕ) → counts + 8 + total (datum_sizes counts b) ≤ length b → AreDatumsInRange (datums_at counts b)
  unfolding shown_datums
  datums_in_range counts le = (
    fixed_in_range b bytes (spelled_number w32 counts b) (counts + 8),
    variable_in_range b bytes (spelled_number w32 (counts + 4) b) (variable_start counts b) (datums_fit counts b le).variable_fit,
  )

  id_lists_in_range : (counts : ℕ) → AreIdsInRange (id_lists_at counts b)
  unfolding shown_ids
  id_lists_in_range counts = (
    ids_in_range b bytes (spelled_number w32 counts b) (counts + 8),
    ids_in_range b bytes (spelled_number w32 (counts + 4) b)
        (counts + 8 + 4 * spelled_number w32 counts b),
  )

  body_in_range : (kind : Kind) → IsWhole kind b → IsBodyInRange (body_at kind b)
  unfolding shown_body
  body_in_range kinds.CreateEntity e = below32 24 b bytes
  body_in_range kinds.RemoveEntity e = below32 24 b bytes
  body_in_range kinds.StartResume e = (time_in_range b bytes 24, time_in_range b bytes 32, below32 40 b bytes)
  body_in_range kinds.StopFreeze e = (time_in_range b bytes 24, below8 32 b bytes, below8 33 b bytes, below32 36 b bytes)
  body_in_range kinds.Acknowledge e = (below16 24 b bytes, below16 26 b bytes, below32 28 b bytes)
  body_in_range kinds.ActionRequest e = (below32 24 b bytes, below32 28 b bytes, datums_in_range 32 (omega arith))
  body_in_range kinds.ActionResponse e = (below32 24 b bytes, below32 28 b bytes, datums_in_range 32 (omega arith))
  body_in_range kinds.DataQuery e = (below32 24 b bytes, below32 28 b bytes, id_lists_in_range 32)
  body_in_range kinds.SetData e = (below32 24 b bytes, datums_in_range 32 (omega arith))
  body_in_range kinds.DataPdu e = (below32 24 b bytes, datums_in_range 32 (omega arith))
  body_in_range kinds.EventReport e = (below32 24 b bytes, datums_in_range 32 (omega arith))
  body_in_range kinds.Comment e = datums_in_range 24 (omega arith)

  pdu_in_range : view_refusal b ≡ None → IsInRange (pdu_from (header_at b) b)
  pdu_in_range passes =
      let kind = (header_at b).kind in
      let parts = not_refused_parts (header_refusal b) (body_refusal kind b) passes in
      record {
        exercise = below8 1 b bytes;
        stamp = below32 4 b bytes;
        status = carried_below (has_status (header_at b).version) (spelled_number w8 10 b) (below8 10 b bytes);
        origin = entity_in_range b bytes 12;
        target = entity_in_range b bytes 18;
        body = body_in_range kind (refused_whole kind b (header_reads b parts.0).room parts.1);
      }

pub read_in_range : (b : List ℕ) (p : Pdu) → AreBytes b → reading b ≡ Some p → IsInRange p
read_in_range b p bytes e =
    let found = passed (refusal_of b) (pdu_from (header_at b) b) p e in
    subst IsInRange found.1 (pdu_in_range b bytes (not_refused (view_refusal b) found.0))

-- what decode answers
pub decoded_in_range : (r : Result Pdu PduFault) (b : List ℕ) → AreBytes b → IfOk r (λ p. (refusal_of b ≡ None) × (p ≡ pdu_from (header_at b) b))
    → IfOk r IsInRange
decoded_in_range (Ok p) b bytes e = subst IsInRange (sym e.1) (pdu_in_range b bytes (not_refused (view_refusal b) e.0))
decoded_in_range (Err fault) b bytes e = tt

-- what view answers
pub shown_in_range : (r : Result PduView ViewFault) (b : List ℕ) → AreBytes b
    → IfOk r (λ v. (view_refusal b ≡ None) × (v ≡ view_from (header_at b) b)) → IfOk r (λ v. IsInRange (pdu_of v))
shown_in_range (Ok v) b bytes e = subst (λ (w : PduView). IsInRange (pdu_of w)) (sym e.1) (pdu_in_range b bytes e.0)
shown_in_range (Err fault) b bytes e = tt
