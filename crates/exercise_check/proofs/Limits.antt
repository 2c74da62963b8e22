-- A certificate is read alike of bytes that are cut behind the first one past its limit.
use Rattle.std.proofs.Common.{◌≡◌, ℕ, zero, suc, ◌+◌, ◌-◌, ◌*◌, ◌<◌, ◌≤◌, Bool, true, false, List, [], ◌∷◌, length, take, drop, Option, Some, None, Result, Ok, Err, eqb, refl, sym, ap, subst, ◌∙◌, inl, inr, arith, length-take-le, take_all, take-take}
use Rattle.std.specs.Int.{Width, byte_len, from_be_bytes, w32}
use Rattle.std.proofs.lemmas.Bool.{cases_lt, lt-ltb, le-ltb, ne_eqb}
use Rattle.std.proofs.lemmas.List.{drop-take}
use Rattle.std.specs.Prelude.{nat_le, codes, bytes_eq, IfSome}
use Rattle.byte_files.specs.Fetching.{fetched}
use Rattle.byte_files.specs.Fields as fields
use Rattle.byte_files.specs.Fields.{Input, ◌>>=◌, tested}
use Rattle.byte_files.specs.Repeats.{times_at}
use Rattle.exercise_check.specs.declared.certificate.Step.{Step}
use Rattle.exercise_check.specs.declared.certificate_fault.CertificateFormatFault.{CertificateFormatFault}
use Rattle.exercise_check.specs.declared.certificate_fault.CertificateFormatFault.TheVariants as faults
use Rattle.exercise_check.specs.Certificate.{field_at, number_at, magic_at, count_at, step_at, steps_at, ended, whole_at, certificate_at}

abbrev Read : Type 0 → Type 0
Read X = Result X CertificateFormatFault

-- what is still to be read, cut behind the first byte past the limit
abbrev cut : Input → Input
cut i = record { limit = i.limit; at = i.at; bytes = take (suc i.limit - i.at) i.bytes }

-- What was read of an input is what is read of the cut one: the same value, with what is left cut, or the same fault.
abbrev AreAlike : {X : Type 0} → (whole of_cut : Read (X × Input)) → Type 0
AreAlike (Ok x) (Ok y) = (y ≡ (x.0, cut x.1)) × (x.1.at ≤ x.1.limit)
AreAlike (Ok x) (Err e) = ⊥
AreAlike (Err d) (Ok y) = ⊥
AreAlike (Err d) (Err e) = e ≡ d

-- a part that is read alike of what is cut, and a whole
abbrev IsPart : {X : Type 0} → (Input → Read (X × Input)) → Type 0
IsPart f = (i : Input) → i.at ≤ i.limit → AreAlike (f i) (f (cut i))

abbrev IsWhole : {Y : Type 0} → (Input → Read Y) → Type 0
IsWhole f = (i : Input) → i.at ≤ i.limit → f (cut i) ≡ f i

-- ---- one after the other

bind_part : {X Y : Type 0} (g : X → Input → Read (Y × Input)) → ((x : X) → IsPart (g x)) → (r q : Read (X × Input)) → AreAlike r q
    → AreAlike (r >>= λ p. g p.0 p.1) (q >>= λ p. g p.0 p.1)
bind_part g part (Ok x) (Ok y) a = rw a.0 (part x.0 x.1 a.1)
bind_part g part (Ok x) (Err e) a = absurd a
bind_part g part (Err d) (Ok y) a = absurd a
bind_part g part (Err d) (Err e) a = a

part_then : {X Y : Type 0} (f : Input → Read (X × Input)) (g : X → Input → Read (Y × Input)) → IsPart f → ((x : X) → IsPart (g x))
    → IsPart (λ i. f i >>= λ p. g p.0 p.1)
part_then f g first then i h = bind_part g then (f i) (f (cut i)) (first i h)

bind_whole : {X Y : Type 0} (g : X → Input → Read Y) → ((x : X) → IsWhole (g x)) → (r q : Read (X × Input)) → AreAlike r q
    → (q >>= λ p. g p.0 p.1) ≡ (r >>= λ p. g p.0 p.1)
bind_whole g whole (Ok x) (Ok y) a = rw a.0 (whole x.0 x.1 a.1)
bind_whole g whole (Ok x) (Err e) a = absurd a
bind_whole g whole (Err d) (Ok y) a = absurd a
bind_whole g whole (Err d) (Err e) a = ap (λ z. Err z) a

whole_then : {X Y : Type 0} (f : Input → Read (X × Input)) (g : X → Input → Read Y) → IsPart f → ((x : X) → IsWhole (g x))
    → IsWhole (λ i. f i >>= λ p. g p.0 p.1)
whole_then f g first then i h = bind_whole g then (f i) (f (cut i)) (first i h)

-- a value that is computed, or tested
done_part : {X : Type 0} (x : X) → IsPart (λ i. Ok (x, i))
done_part x i h = (refl, h)

tested_part : {X : Type 0} (test : Bool) (fault : CertificateFormatFault) (x : X) (i : Input) → i.at ≤ i.limit
    → AreAlike (tested test fault (x, i)) (tested test fault (x, cut i))
tested_part true fault x i h = (refl, h)
tested_part false fault x i h = refl

-- ---- the fields

long_cut : (n m : ℕ) (bytes : List ℕ) → n < m → n ≤ length bytes → n ≤ length (take m bytes)
long_cut n m bytes more long = elim (cases_lt (length bytes) m) [
  | inl h ↦ subst (λ (xs : List ℕ). n ≤ length xs) (sym (take_all m bytes (omega (arith, h)))) long
  | inr h ↦ let size = length-take-le m bytes h in omega (arith, size, more)
]

field_part : (n : ℕ) → IsPart (field_at n)
unfolding fields.field_at
field_part n i h =
    let m = suc i.limit - i.at in
    elim (cases_lt i.limit (i.at + n)) [
      | inl over ↦ rw (lt-ltb i.limit (i.at + n) over) refl
      | inr fits ↦
          let more : n < m = omega (arith, fits, h) in
          rw (le-ltb i.limit (i.at + n) fits) (elim (cases_lt (length i.bytes) n) [
            | inl short ↦
                let same : take m i.bytes ≡ i.bytes = take_all m i.bytes (omega (arith, short, more)) in
                rw (same, lt-ltb _ _ short) refl
            | inr long ↦
                let left = suc i.limit - (i.at + n) in
                let size : n + left ≡ m = omega (arith, fits, h) in
                let rest : drop n (take m i.bytes) ≡ take left (drop n i.bytes) = ap (λ (k : ℕ). drop n (take k i.bytes)) (sym size) ∙ drop-take n left i.bytes in
                let front : take n (take m i.bytes) ≡ take n i.bytes = take-take n m i.bytes (omega (arith, more)) in
                rw (le-ltb _ _ long, le-ltb _ _ (long_cut n m i.bytes more long), front, rest) (refl, fits)
          ])
    ]

number_part : (w : Width) → IsPart (number_at w)
unfolding fields.number_at
number_part w = part_then (field_at (byte_len w)) (λ f j. Ok (from_be_bytes w f, j)) (field_part (byte_len w)) (λ f. done_part (from_be_bytes w f))

count_part : (limit : ℕ) → IsPart (count_at limit)
unfolding count_at fields.number_where
count_part limit i h = bind_tested (number_at w32 i) (number_at w32 (cut i)) (number_part w32 i h)
  where
    bind_tested : (r q : Read (ℕ × Input)) → AreAlike r q
        → AreAlike (r >>= λ n. tested (nat_le n.0 limit) (faults.OverLimit i.at) n) (q >>= λ n. tested (nat_le n.0 limit) (faults.OverLimit i.at) n)
    bind_tested (Ok x) (Ok y) a = rw a.0 (tested_part (nat_le x.0 limit) (faults.OverLimit i.at) x.0 x.1 a.1)
    bind_tested (Ok x) (Err e) a = absurd a
    bind_tested (Err d) (Ok y) a = absurd a
    bind_tested (Err d) (Err e) a = a

step_part : IsPart step_at
unfolding step_at
step_part =
    let made : ℕ → ℕ → Step = λ place link. record { place = place; link = link } in
    part_then (number_at w32) (λ place j. number_at w32 j >>= λ link. Ok (made place link.0, link.1)) (number_part w32)
    (λ place. part_then (number_at w32) (λ link j. Ok (made place link, j)) (number_part w32) (λ link. done_part (made place link)))

steps_part : (left : ℕ) → IsPart (steps_at left)
unfolding times_at
steps_part zero = done_part []
steps_part (suc left) =
    part_then step_at (λ x j. steps_at left j >>= λ xs. Ok (x ∷ xs.0, xs.1)) step_part
    (λ x. part_then (steps_at left) (λ xs j. Ok (x ∷ xs, j)) (steps_part left) (λ xs. done_part (x ∷ xs)))

-- whether bytes are left is seen of any of them
end_whole : (steps : List Step) → IsWhole (ended steps)
end_whole steps i h = ap (λ b. tested b (faults.Trailing i.at) steps) (left_alike (suc i.limit - i.at) i.bytes (omega (arith, h)))
  where
    left_alike : (n : ℕ) (left : List ℕ) → 0 < n → eqb (length (take n left)) 0 ≡ eqb (length left) 0
    left_alike zero left h = absurd (omega (arith, h))
    left_alike (suc n) [] h = refl
    left_alike (suc n) (b ∷ left) h = ne_eqb (length (b ∷ take n left)) 0 (λ e. absurd (omega (arith, e))) ∙ sym (ne_eqb (length (b ∷ left)) 0 (λ e. absurd (omega (arith, e))))

behind_head : (limit : ℕ) → IsWhole (λ i. count_at limit i >>= λ n. (steps_at n.0 n.1 >>= λ ss. ended ss.0 ss.1))
behind_head limit =
    whole_then (count_at limit) (λ n j. steps_at n j >>= λ ss. ended ss.0 ss.1) (count_part limit) (λ n. whole_then (steps_at n) ended (steps_part n) end_whole)

whole_whole : (limit : ℕ) → IsWhole (whole_at limit)
unfolding whole_at magic_at
whole_whole limit i h = bind_magic (field_at 8 i) (field_at 8 (cut i)) (field_part 8 i h)
  where
    behind : Input → Read (List Step)
    behind m = count_at limit m >>= λ n. (steps_at n.0 n.1 >>= λ ss. ended ss.0 ss.1)

    on : (b : Bool) (j : Input) → j.at ≤ j.limit → (tested b (faults.Magic i.at) (cut j) >>= behind) ≡ (tested b (faults.Magic i.at) j >>= behind)
    on true j h = behind_head limit j h
    on false j h = refl

    bind_magic : (r q : Read (List ℕ × Input)) → AreAlike r q
        → ((q >>= λ m. tested (bytes_eq m.0 (codes "DSCT0001")) (faults.Magic i.at) m.1) >>= behind)
        ≡ ((r >>= λ m. tested (bytes_eq m.0 (codes "DSCT0001")) (faults.Magic i.at) m.1) >>= behind)
    bind_magic (Ok x) (Ok y) a = rw a.0 (on (bytes_eq x.0 (codes "DSCT0001")) x.1 a.1)
    bind_magic (Ok x) (Err e) a = absurd a
    bind_magic (Err d) (Ok y) a = absurd a
    bind_magic (Err d) (Err e) a = ap (λ z. Err z) a

-- A certificate is read alike of bytes that are cut behind the first one past its limit.
pub read_cut : (limit : ℕ) (bytes : List ℕ) → certificate_at limit (take (12 + 8 * limit + 1) bytes) ≡ certificate_at limit bytes
unfolding certificate_at
read_cut limit bytes =
    let most = 12 + 8 * limit in
    let size : most + 1 ≡ suc most - 0 = omega arith in
    ap (λ (k : ℕ). whole_at limit (record { limit = most; at = 0; bytes = take k bytes })) size
    ∙ whole_whole limit (record { limit = most; at = 0; bytes = bytes }) (omega arith)

-- What is said of what was fetched is said of what the reader has.
pub of_fetched : (P : Read (List Step) → Type 0) (limit : ℕ) (known : Option (List ℕ)) (text : List ℕ)
    → ((bytes : List ℕ) → certificate_at limit (take (12 + 8 * limit + 1) bytes) ≡ certificate_at limit bytes)
    → IfSome known (λ all. text ≡ fetched (12 + 8 * limit) all) → P (certificate_at limit text)
    → (bytes : List ℕ) × IfSome known (λ all. bytes ≡ all) × P (certificate_at limit bytes)
of_fetched P limit None text law is said = (text, tt, said)
of_fetched P limit (Some all) text law is said = (all, refl, subst P (ap (certificate_at limit) is ∙ law all) said)

-- That is said whatever the reader has.
pub of_any : (P : Read (List Step) → Type 0) (limit : ℕ) (known : Option (List ℕ)) → ((read : Read (List Step)) → P read)
    → (bytes : List ℕ) × IfSome known (λ all. bytes ≡ all) × P (certificate_at limit bytes)
of_any P limit None always = ([], tt, always (certificate_at limit []))
of_any P limit (Some all) always = (all, refl, always (certificate_at limit all))
