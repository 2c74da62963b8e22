-- Digests are of the values that are shown, and the same order has the same one.
use Rattle.std.proofs.Common.{◌≡◌, ◌<◌, ℕ, ◌+◌, ◌-◌, ◌%◌, ◌^◌, List, [], ◌∷◌, ◌++◌, Some, None, length, take, get_or, set, true, refl, sym, ap, ◌∙◌, arith}
use Rattle.std.specs.Prelude.{fold, slice_get, unwrap_or}
use Rattle.std.specs.Hash.DefaultHasher.{write, write_byte, finish}
use Rattle.std.specs.declared.hash.DefaultHasher.{DefaultHasher}
use Rattle.std.proofs.Math.Seq.{take-length}
use Rattle.std.proofs.lemmas.Bool.{eq-eqb}
use Rattle.std.proofs.lemmas.List.{take-set, set-get_or, take_more}
use Rattle.std.proofs.lemmas.List.Sums.{fold-append}
use Rattle.std.proofs.lemmas.Option.{slice_get-get_or, slice_get_within, get_or_from_slice_get}
use Rattle.dis_records.specs.Layout.{bytes_for, cleared, last_cleared}
use Rattle.dis_records.proofs.Offered.{cleared_is, length-cleared}
use Rattle.siman_pdus.specs.declared.pdu.Pdu.{Pdu}
use Rattle.siman_pdus.specs.Role.{request_id_of}
use Rattle.siman_pdus.specs.Same.{is_same_order}
use Rattle.siman_pdus.proofs.Offered.{order_decides}
use Rattle.exercise_review.specs.Digest.{body_fed, head_fed, digest, digest_of}

-- a value that has no unused bits is fed as it is
pub whole_stands : (bits : ℕ) (bytes : List ℕ) → length bytes ≡ bytes_for bits → bits % 8 ≡ 0 → cleared bits bytes ≡ bytes
whole_stands bits bytes len whole =
    cleared_is bits bytes len
    ∙ ap (set bytes (length bytes - 1)) (last_whole (get_or bytes (length bytes - 1) 0))
    ∙ set-get_or bytes (length bytes - 1) 0
  where
    last_whole : (byte : ℕ) → last_cleared bits byte ≡ byte
    last_whole byte = rw (eq-eqb (bits % 8) 0 whole) refl

-- the last byte of another goes in behind those before it
pub last_follows : (h : DefaultHasher) (bits : ℕ) (bytes : List ℕ) (last : ℕ) → length bytes ≡ bytes_for bits
    → slice_get (cleared bits bytes) (length bytes - 1) ≡ Some last
    → write (write h (take (length bytes - 1) bytes)) (last ∷ []) ≡ write h (cleared bits bytes)
unfolding write
last_follows h bits bytes last len is =
    let all = cleared bits bytes in
    let n = length bytes - 1 in
    let there : n < length all = slice_get_within all n last is in
    let front : take n all ≡ take n bytes = rw (cleared_is bits bytes len) (take-set bytes n _) in
    let end : n + 1 ≡ length all = omega (arith, there, length-cleared bits bytes) in
    let whole : take n all ++ (last ∷ []) ≡ all =
    ap (λ x. take n all ++ (x ∷ [])) (sym (get_or_from_slice_get all n last 0 is))
    ∙ sym (take_more all n 0 there) ∙ ap (λ m. take m all) end ∙ take-length all in
    sym (fold-append write_byte h (take n bytes) (last ∷ []))
    ∙ ap (λ xs. fold write_byte h (xs ++ (last ∷ []))) (sym front)
    ∙ ap (fold write_byte h) whole

-- where there is no last byte, there are none
pub none_follows : (h : DefaultHasher) (bits : ℕ) (bytes : List ℕ) → slice_get (cleared bits bytes) (length bytes - 1) ≡ None
    → write h (take (length bytes - 1) bytes) ≡ write h (cleared bits bytes)
none_follows h bits [] none = refl
none_follows h bits (byte ∷ bytes) none =
    let all = cleared bits (byte ∷ bytes) in
    let n = length (byte ∷ bytes) - 1 in
    let within : n < length all = omega (arith, length-cleared bits (byte ∷ bytes)) in
    absurd (let no : Some (get_or all n 0) ≡ None = sym (slice_get-get_or all n 0 within) ∙ none in cc)

-- a digest is a number of 64 bits
pub digest_whole : (p : Pdu) → digest p % 2 ^ 64 ≡ digest p
unfolding digest
digest_whole p = mod_twice (finish (body_fed (head_fed p.origin p.target (unwrap_or (request_id_of p.body) 0)) p.body))
  where
    mod_twice : (n : ℕ) → n % 2 ^ 64 % 2 ^ 64 ≡ n % 2 ^ 64
    mod_twice n = omega arith

-- the same order has the same digest
pub same_digest : (s : ℕ) (p q : Pdu) → is_same_order p q ≡ true → digest_of s p ≡ digest_of s q
unfolding digest_of digest
same_digest s p q same = ap (digest_of s) ((order_decides p q).0 same)
