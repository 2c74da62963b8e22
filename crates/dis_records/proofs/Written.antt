-- Fields that fit stand in their own text.
use Rattle.std.proofs.Common.{◌≡◌, ℕ, ◌+◌, ◌^◌, ◌<◌, ◌≤◌, List, [], ◌∷◌, ◌++◌, length, take, drop, refl, sym, ap, subst, ◌∙◌, append_assoc, arith}
use Rattle.std.specs.Prelude.{true, false}
use Rattle.std.specs.Int.{Width, w8, w16, w32, byte_len, from_be_bytes, to_be_bytes}
use Rattle.std.proofs.lemmas.Nat.{from_be_bytes-to_be_bytes_2, from_be_bytes-to_be_bytes_4}
use Rattle.std.proofs.lemmas.List.{append-nil, take_at, drop_at, take-append-le, drop-append-le, length-append, length-drop, length-replicate}
use Rattle.dis_records.specs.Layout.{Field, Byte, ByteIf, Number, Padding, Value, FieldFits, Fit, field_size, field_text, IsPlacedAt, ArePlacedAt, size, text, Spell, spelled_number, value_at, bytes_for, cleared}

length-field_text : (f : Field) → FieldFits f → length (field_text f) ≡ field_size f
length-field_text (Byte n) fits = refl
length-field_text (ByteIf there n) fits = refl
length-field_text (Number w n) fits = fits.0
length-field_text (Padding n) fits = length-replicate n 0
length-field_text (Value bits bytes) fits = fits.0

-- what stands behind a front
behind : (front piece back : List ℕ) (n : ℕ) → length piece ≡ n → take n (drop (length front) (front ++ (piece ++ back))) ≡ piece
behind front piece back n len = rw (drop_at front (piece ++ back) (length front) refl) (take_at piece back n len)

field_stands : (f : Field) (front back : List ℕ) → FieldFits f → IsPlacedAt f (length front) (front ++ (field_text f ++ back))
unfolding spelled_number value_at
field_stands (Byte n) front back fits = sym (ap (λ (bs : List ℕ). from_be_bytes w8 bs) (behind front (n ∷ []) back 1 refl))
field_stands (ByteIf true n) front back fits = sym (ap (λ (bs : List ℕ). from_be_bytes w8 bs) (behind front (n ∷ []) back 1 refl))
field_stands (ByteIf false n) front back fits = tt
field_stands (Number w n) front back fits =
    sym (ap (λ (bs : List ℕ). from_be_bytes w bs) (behind front (to_be_bytes w n) back (byte_len w) fits.0) ∙ fits.1)
field_stands (Padding n) front back fits = tt
field_stands (Value bits bytes) front back fits =
    sym (ap (λ (bs : List ℕ). cleared bits bs) (behind front bytes back (bytes_for bits) fits.0) ∙ fits.1)

pub text_stands : (fs : List Field) (front back : List ℕ) → Fit fs → ArePlacedAt fs (length front) (front ++ (text fs ++ back))
text_stands [] front back fits = tt
text_stands (f ∷ fs) front back fits =
    let here : front ++ (field_text f ++ (text fs ++ back)) ≡ front ++ ((field_text f ++ text fs) ++ back) = simp append_assoc in
    let there : (front ++ field_text f) ++ (text fs ++ back) ≡ front ++ ((field_text f ++ text fs) ++ back) = simp append_assoc in
    let place : length (front ++ field_text f) ≡ length front + field_size f = omega (arith, length-append front (field_text f), length-field_text f fits.0) in
    let others = text_stands fs (front ++ field_text f) back fits.1 in (
      subst (λ (b : List ℕ). IsPlacedAt f (length front) b) here (field_stands f front (text fs ++ back) fits.0),
      subst (λ (k : ℕ). ArePlacedAt fs k (front ++ ((field_text f ++ text fs) ++ back))) place
          (subst (λ (b : List ℕ). ArePlacedAt fs (length (front ++ field_text f)) b) there others),
    )

pub length-text : (fs : List Field) → Fit fs → length (text fs) ≡ size fs
length-text [] fits = refl
length-text (f ∷ fs) fits = omega (arith, length-append (field_text f) (text fs), length-field_text f fits.0, length-text fs fits.1)

-- the text of fields that fit spells them
pub text_spells : (fs : List Field) → Fit fs → Spell fs (text fs)
text_spells fs fits =
    record {
      stand = let e : text fs ++ [] ≡ text fs = append-nil (text fs) in subst (λ (b : List ℕ). ArePlacedAt fs 0 b) e
          (text_stands fs [] [] fits);
      whole = length-text fs fits;
    }

pub fits16 : (n : ℕ) → n < 2 ^ 16 → FieldFits (Number w16 n)
fits16 n lt = (refl, from_be_bytes-to_be_bytes_2 n lt)

pub fits32 : (n : ℕ) → n < 2 ^ 32 → FieldFits (Number w32 n)
fits32 n lt = (refl, from_be_bytes-to_be_bytes_4 n lt)

pub Fit-append : (fs gs : List Field) → Fit fs → Fit gs → Fit (fs ++ gs)
Fit-append [] gs p q = q
Fit-append (f ∷ fs) gs p q = (p.0, Fit-append fs gs p.1 q)

-- ---- what stands in a front of bytes

pub number_at-append : (w : Width) (at : ℕ) (front back : List ℕ) → at + byte_len w ≤ length front
    → spelled_number w at (front ++ back) ≡ spelled_number w at front
unfolding spelled_number
number_at-append w at front back le =
    ap (λ (bs : List ℕ). from_be_bytes w bs) (ap (λ (bs : List ℕ). take (byte_len w) bs) (drop-append-le at front back (omega arith)) ∙ take-append-le
    (byte_len w) (drop at front) back (omega (arith, length-drop at front)))
