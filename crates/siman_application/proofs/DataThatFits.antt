-- The longest beginning of records that a Data holds is the one that is filled record by record.
use Rattle.std.proofs.Common.{◌≡◌, ℕ, zero, suc, ◌+◌, ◌-◌, ◌*◌, ◌<◌, ◌≤◌, List, [], ◌∷◌, ◌++◌, length, take, refl, ap, sym, ◌∙◌, arith}
use Rattle.std.specs.Prelude.{Bool, true, false, nat_le, if◌then◌else◌}
use Rattle.std.proofs.lemmas.Bool.Decides.{nat_tests}
use Rattle.std.proofs.lemmas.List.{take_all}
use Rattle.std.proofs.lemmas.Bool.{le-leb, lt-leb}
use Rattle.dis_records.specs.declared.header.TheConstants.{LARGEST_DATAGRAM}
use Rattle.dis_records.specs.declared.datum.FixedDatum.{FixedDatum}
use Rattle.dis_records.specs.Datum.{Datum, padded, fixed_layouts, variable_layouts}
use Rattle.dis_records.specs.Layout.{Field, size, bytes_for}
use Rattle.siman_pdus.specs.declared.pdu.Pdu.{Pdu}
use Rattle.siman_pdus.specs.DatumLists.{DatumLists}
use Rattle.siman_pdus.specs.Spelling.{pdu_size}
use Rattle.siman_application.specs.AppProfile.{AppProfile}
use Rattle.siman_application.specs.Answer.{largest, first_records, record_count, data_pdu, data_answer}
use Rattle.siman_application.specs.Records.{fitting, cut_records}

-- The largest number that passes.

largest_next : (test : ℕ → Bool) (k n : ℕ) → k ≤ suc n → (0 < k → test k ≡ true) → (k < suc n → test (suc n) ≡ false) → (k ≤ n → largest test n ≡ k)
    → (b : Bool) → nat_le k n ≡ b → (if test (suc n) then suc n else largest test n) ≡ k
largest_next test k n le passes fails rest true t =
    let low : k ≤ n = grind (arith, nat_tests) in ap (λ (b : Bool). if b then suc n else largest test n) (fails (omega arith)) ∙ rest low
largest_next test k n le passes fails rest false t =
    let high : n < k = grind (arith, nat_tests) in
    let same : k ≡ suc n = omega arith in
    ap (λ (b : Bool). if b then suc n else largest test n) (ap test (sym same) ∙ passes (omega arith)) ∙ sym same

pub largest_is : (test : ℕ → Bool) (k n : ℕ) → k ≤ n → (0 < k → test k ≡ true) → ((j : ℕ) → k < j → j ≤ n → test j ≡ false) → largest test n ≡ k
unfolding largest
largest_is test k zero le passes fails = omega arith
largest_is test k (suc n) le passes fails =
    largest_next test k n le passes (λ lt. fails (suc n) lt (omega arith)) (λ low. largest_is test k n low passes (λ j lt high. fails j lt (omega arith)))
    (nat_le k n) refl

-- Sizes.

abbrev pub records_size : List Datum → ℕ
records_size [] = 0
records_size (d ∷ ds) = padded d.bits + records_size ds

size_fixed_then : (ds : List FixedDatum) (fs : List Field) → size (fixed_layouts ds ++ fs) ≡ 8 * length ds + size fs
size_fixed_then [] fs = omega arith
size_fixed_then (d ∷ ds) fs = omega (arith, size_fixed_then ds fs)

size_variable : (ds : List Datum) → size (variable_layouts ds) ≡ records_size ds
size_variable [] = refl
size_variable (d ∷ ds) = let room : 8 + bytes_for d.bits ≤ padded d.bits = omega arith in omega (arith, size_variable ds, room)

pub data_size : (a : AppProfile) (q : Pdu) (stamp request : ℕ) (d : DatumLists)
    → pdu_size (data_pdu a q stamp request d) ≡ 40 + 8 * length d.fixed + records_size d.variable
data_size a q stamp request d = omega (arith, size_fixed_then d.fixed (variable_layouts d.variable), size_variable d.variable)

-- Filling.

fitting_prefix_by : (room : ℕ) (d : Datum) (ds : List Datum)
    → take (length (fitting (room - padded d.bits) ds)) ds ≡ fitting (room - padded d.bits) ds → (b : Bool)
    → take (length (if b then d ∷ fitting (room - padded d.bits) ds else [])) (d ∷ ds) ≡ (if b then d ∷ fitting (room - padded d.bits) ds else [])
fitting_prefix_by room d ds rest true = ap (λ (es : List Datum). d ∷ es) rest
fitting_prefix_by room d ds rest false = refl

fitting_prefix : (room : ℕ) (ds : List Datum) → take (length (fitting room ds)) ds ≡ fitting room ds
fitting_prefix room [] = refl
fitting_prefix room (d ∷ ds) = fitting_prefix_by room d ds (fitting_prefix (room - padded d.bits) ds) (nat_le (padded d.bits) room)

fitting_fits_by : (room : ℕ) (d : Datum) (ds : List Datum) → records_size (fitting (room - padded d.bits) ds) ≤ room - padded d.bits → (b : Bool)
    → nat_le (padded d.bits) room ≡ b
    → records_size (if b then d ∷ fitting (room - padded d.bits) ds else []) ≤ room
fitting_fits_by room d ds rest true t = let h : padded d.bits ≤ room = grind (arith, nat_tests) in omega (arith, rest, h)
fitting_fits_by room d ds rest false t = omega arith

fitting_fits : (room : ℕ) (ds : List Datum) → records_size (fitting room ds) ≤ room
fitting_fits room [] = omega arith
fitting_fits room (d ∷ ds) = fitting_fits_by room d ds (fitting_fits (room - padded d.bits) ds) (nat_le (padded d.bits) room) refl

fitting_most_by : (room : ℕ) (d : Datum) (ds : List Datum) (i : ℕ)
    → (length (fitting (room - padded d.bits) ds) < i → room - padded d.bits < records_size (take i ds)) → (b : Bool)
    → nat_le (padded d.bits) room ≡ b
    → length (if b then d ∷ fitting (room - padded d.bits) ds else []) < suc i → room < padded d.bits + records_size (take i ds)
fitting_most_by room d ds i rest true t h = let fits : padded d.bits ≤ room = grind (arith, nat_tests) in omega (arith, rest (omega arith), fits)
fitting_most_by room d ds i rest false t h = let past : room < padded d.bits = grind (arith, nat_tests) in omega (arith, past)

fitting_most : (room : ℕ) (ds : List Datum) (i : ℕ) → i ≤ length ds → length (fitting room ds) < i → room < records_size (take i ds)
fitting_most room [] i within h = absurd (omega arith)
fitting_most room (d ∷ ds) zero within h = absurd (omega arith)
fitting_most room (d ∷ ds) (suc i) within h =
    fitting_most_by room d ds i (fitting_most (room - padded d.bits) ds i (omega arith)) (nat_le (padded d.bits) room) refl h

fitting_none : (ds : List Datum) → fitting 0 ds ≡ []
fitting_none [] = refl
fitting_none (d ∷ ds) = ap (λ (b : Bool). if b then d ∷ fitting (0 - padded d.bits) ds else []) (lt-leb (padded d.bits) 0 (omega arith))

pub length-take : {X : Type 0} (n : ℕ) (xs : List X) → n ≤ length xs → length (take n xs) ≡ n
length-take zero xs h = refl
length-take (suc n) [] h = absurd (omega arith)
length-take (suc n) (x ∷ xs) h = ap suc (length-take n xs (omega arith))

length-fitting : (room : ℕ) (ds : List Datum) → length (fitting room ds) ≤ length ds
length-fitting room [] = omega arith
length-fitting room (d ∷ ds) = by (nat_le (padded d.bits) room) (length-fitting (room - padded d.bits) ds) where
  by : (b : Bool) → length (fitting (room - padded d.bits) ds) ≤ length ds → length (if b then d ∷ fitting (room - padded d.bits) ds else []) ≤ suc (length ds)
  by true h = omega (arith, h)
  by false h = omega arith

-- The cut.

-- the records that are filled in are the first so many, they fit, and one more does not
record Filled (d : DatumLists) (k : ℕ) : Type 0 where
  within : k ≤ record_count d
  same : first_records k d ≡ cut_records d
  fits : 8 * length (first_records k d).fixed + records_size (first_records k d).variable ≤ 8152
  most : (j : ℕ) → k < j → j ≤ record_count d → 8152 < 8 * length (first_records j d).fixed + records_size (first_records j d).variable

pub same_records : (f g : List FixedDatum) (v w : List Datum) → f ≡ g → v ≡ w
    → ◌≡◌ {A = DatumLists} (record { fixed = f; variable = v }) (record { fixed = g; variable = w })
same_records f g v w p q = λ i. record { fixed = p i; variable = q i }

filled_some : (d : DatumLists) → length d.fixed ≤ 1019 → Filled d (length d.fixed + length (fitting (8152 - 8 * length d.fixed) d.variable))
filled_some d few =
    let n = length d.fixed in
    let room = 8152 - 8 * n in
    let k = n + length (fitting room d.variable) in
    let rest : k - n ≡ length (fitting room d.variable) = omega arith in
    let all : take k d.fixed ≡ d.fixed = take_all k d.fixed (omega arith) in
    let whole : take 1019 d.fixed ≡ d.fixed = take_all 1019 d.fixed few in
    let front : take (k - n) d.variable ≡ fitting room d.variable = ap (λ (m : ℕ). take m d.variable) rest ∙ fitting_prefix room d.variable in
    record {
      within = omega (arith, length-fitting room d.variable);
      same = same_records (take k d.fixed) (take 1019 d.fixed) (take (k - n) d.variable) (fitting (8152 - 8 * length (take 1019 d.fixed)) d.variable)
          (all ∙ sym whole) (front ∙ ap (λ (fs : List FixedDatum). fitting (8152 - 8 * length fs) d.variable) (sym whole));
      fits = omega (arith, ap length all, ap records_size front, fitting_fits room d.variable);
      most = λ j lt high.
          let all_j : take j d.fixed ≡ d.fixed = take_all j d.fixed (omega arith) in
          omega (arith, ap length all_j, fitting_most room d.variable (j - n) (omega arith) (omega arith));
    }

filled_full : (d : DatumLists) → 1019 < length d.fixed → Filled d 1019
filled_full d many =
    let cut : length (take 1019 d.fixed) ≡ 1019 = length-take 1019 d.fixed (omega arith) in
    let none : 1019 - length d.fixed ≡ 0 = omega arith in
    let no_room : 8152 - 8 * length (take 1019 d.fixed) ≡ 0 = omega (arith, cut) in
    let left : fitting (8152 - 8 * length (take 1019 d.fixed)) d.variable ≡ [] = ap (λ (m : ℕ). fitting m d.variable) no_room ∙ fitting_none d.variable in
    let front : take (1019 - length d.fixed) d.variable ≡ [] = ap (λ (m : ℕ). take m d.variable) none in
    record {
      within = omega arith;
      same = same_records (take 1019 d.fixed) (take 1019 d.fixed) (take (1019 - length d.fixed) d.variable)
          (fitting (8152 - 8 * length (take 1019 d.fixed)) d.variable) refl (front ∙ sym left);
      fits = omega (arith, cut, ap records_size front);
      most = λ j lt high. past j lt (nat_le j (length d.fixed)) refl;
    } where
      past : (j : ℕ) → 1019 < j → (b : Bool) → nat_le j (length d.fixed) ≡ b → 8152 < 8 * length (take j d.fixed) + records_size
          (take (j - length d.fixed) d.variable)
      past j lt true t = let low : j ≤ length d.fixed = grind (arith, nat_tests) in omega (arith, length-take j d.fixed low)
      past j lt false t = let high : length d.fixed < j = grind (arith, nat_tests) in omega (arith, ap length (take_all j d.fixed (omega arith)))

cut_by : (a : AppProfile) (q : Pdu) (stamp request : ℕ) (d : DatumLists) (k : ℕ) → Filled d k
    → data_answer a q stamp request d ≡ data_pdu a q stamp request (cut_records d)
cut_by a q stamp request d k f =
    ap (λ (n : ℕ). data_pdu a q stamp request (first_records n d))
    (largest_is (λ n. nat_le (pdu_size (data_pdu a q stamp request (first_records n d))) LARGEST_DATAGRAM) k (record_count d) f.within
    (λ some. le-leb (pdu_size (data_pdu a q stamp request (first_records k d))) LARGEST_DATAGRAM
    (omega (arith, data_size a q stamp request (first_records k d), f.fits)))
    (λ j lt high. lt-leb (pdu_size (data_pdu a q stamp request (first_records j d))) LARGEST_DATAGRAM
    (omega (arith, data_size a q stamp request (first_records j d), f.most j lt high))))
    ∙ ap (data_pdu a q stamp request) f.same

pub cut_is : (a : AppProfile) (q : Pdu) (stamp request : ℕ) (d : DatumLists)
    → data_answer a q stamp request d ≡ data_pdu a q stamp request (cut_records d)
cut_is a q stamp request d = by (nat_le (length d.fixed) 1019) refl where
  by : (b : Bool) → nat_le (length d.fixed) 1019 ≡ b → data_answer a q stamp request d ≡ data_pdu a q stamp request (cut_records d)
  by true t = let few : length d.fixed ≤ 1019 = grind (arith, nat_tests) in cut_by a q stamp request d (length d.fixed + length (fitting (8152 - 8 * length d.fixed) d.variable)) (filled_some d few)
  by false t = let many : 1019 < length d.fixed = grind (arith, nat_tests) in cut_by a q stamp request d 1019 (filled_full d many)

-- a Data with the records that were cut is the answer
pub as_fits : (a : AppProfile) (q : Pdu) (stamp request : ℕ) (cut d : DatumLists) → cut ≡ cut_records d → data_pdu a q stamp request cut ≡ data_answer a q stamp request d
as_fits a q stamp request cut d is = ap (data_pdu a q stamp request) is ∙ sym (cut_is a q stamp request d)

pub first_few : {X : Type 0} (n : ℕ) (xs : List X) → length (take n xs) ≤ n
first_few zero xs = omega arith
first_few (suc n) [] = omega arith
first_few (suc n) (x ∷ xs) = omega (arith, first_few n xs)

-- what is cut fits
pub cut_fits : (d : DatumLists) → 8 * length (cut_records d).fixed + records_size (cut_records d).variable ≤ 8152
cut_fits d = omega (arith, first_few 1019 d.fixed, fitting_fits (8152 - 8 * length (take 1019 d.fixed)) d.variable)
