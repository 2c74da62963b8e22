-- Names of interfaces tell the stations apart.
use Rattle.std.proofs.Common.{◌≡◌, ℕ, ◌<◌, ◌^◌, true, List, [], ◌∷◌, ◌++◌, drop, refl, ap, ◌∙◌, arith}
use Rattle.std.specs.Prelude.{decimal, bytes_eq, slice_index}
use Rattle.std.specs.Str.Parse.{AllDigits}
use Rattle.std.proofs.lemmas.Fmt.{decimal_injective, decimal_is_IsNumeral}
use Rattle.std.proofs.lemmas.Slice.Eq.{bytes_eq-Decides}
use Rattle.std.proofs.lemmas.Str.Parse.{digit_from_value}
use Rattle.dis_records.specs.declared.address.SiteApplication.{SiteApplication}
use Rattle.exercise_recording.specs.Captures.Blocks.{name_text}
use Rattle.exercise_recording.specs.Captures.ReadBack.{FitsAddress}

-- digits end where a colon stands
pub cut : (xs ys u v : List ℕ) → AllDigits 10 xs → AllDigits 10 ys → xs ++ (58 ∷ u) ≡ ys ++ (58 ∷ v) → (xs ≡ ys) × (u ≡ v)
cut [] [] u v a b same = (refl, ap (drop 1) same)
cut [] (y ∷ ys) u v a b same = let first : 58 ≡ y = ap (λ (zs : List ℕ). slice_index zs 0) same in absurd (omega (arith, first, digit_from_value y b.0))
cut (x ∷ xs) [] u v a b same = let first : x ≡ 58 = ap (λ (zs : List ℕ). slice_index zs 0) same in absurd (omega (arith, first, digit_from_value x a.0))
cut (x ∷ xs) (y ∷ ys) u v a b same =
    let first : x ≡ y = ap (λ (zs : List ℕ). slice_index zs 0) same in
    let more = cut xs ys u v a.1 b.1 (ap (drop 1) same) in
    (ap (λ z. z ∷ xs) first ∙ ap (λ zs. y ∷ zs) more.0, more.1)

-- one name, one address
pub one-address : (a c : SiteApplication) → FitsAddress a → FitsAddress c → name_text a ≡ name_text c → a ≡ c
one-address a c here there same =
    let digits : (n : ℕ) → n < 2 ^ 16 → AllDigits 10 (decimal n) = λ n small. (decimal_is_IsNumeral n (omega (arith, small))).0.1 in
    let parts = cut (decimal a.site) (decimal c.site) (decimal a.application) (decimal c.application) (digits a.site here.site) (digits c.site there.site) same in
    let site = decimal_injective a.site c.site (omega (arith, here.site)) (omega (arith, there.site)) parts.0 in
    let application = decimal_injective a.application c.application (omega (arith, here.application)) (omega (arith, there.application)) parts.1 in
    ap (λ (n : ℕ). record { site = n; application = a.application }) site ∙ ap (λ (n : ℕ). record { site = c.site; application = n }) application

pub same-name : (n : List ℕ) → bytes_eq n n ≡ true
same-name n = (bytes_eq-Decides n n).1 refl
