-- Bytes begin with at most one header: the one that is read at its offsets, exactly where none of it is refused.
use Rattle.std.proofs.Common.{◌≡◌, ◌≢◌, ◌≤◌, ℕ, Bool, true, false, eqb, ltb, inl, inr, List, length, Option, Some, None, Result, Ok, Err, refl, sym, ap, ◌∙◌, arith, rules, eqb-true, eq-eqb}
use Rattle.std.specs.Prelude.{◌∷◌, [], ◌⊎◌, ◌↔◌, IsTrue, nat_le, if◌then◌else◌, ◌==◌, ◌||◌, not, IfOk, IfErr}
use Rattle.std.specs.Int.{w8, w16, w32}
use Rattle.std.proofs.lemmas.Bool.{le-ltb, cases_lt, lt-ltb}
use Rattle.dis_records.specs.declared.header.TheConstants.{LARGEST_DATAGRAM, VERSIONS}
use Rattle.dis_records.specs.declared.kind.Kind.{Kind}
use Rattle.dis_records.specs.declared.kind.Kind.TheVariants as kinds
use Rattle.dis_records.specs.declared.header.Header.{Header}
use Rattle.dis_records.specs.declared.header.HeaderFault.{HeaderFault}
use Rattle.dis_records.specs.declared.header.Version.{Version}
use Rattle.dis_records.specs.declared.header.VersionRow.{VersionRow}
use Rattle.dis_records.specs.declared.header.Version.TheVariants as versions
use Rattle.dis_records.specs.Kind.{kind_code, kind_from, is_kind_code}
use Rattle.dis_records.specs.Layout.{ByteIf, IsPlacedAt, spelled_number}
use Rattle.dis_records.specs.Header.{IsHeader, row_where, has_number, version_code, is_version, version_from, has_status, carried_status, header_at, header_refusal}

pub kind_from-kind_code : (kind : Kind) → kind_from (kind_code kind) ≡ kind
unfolding kind_from
kind_from-kind_code kinds.CreateEntity = refl
kind_from-kind_code kinds.RemoveEntity = refl
kind_from-kind_code kinds.StartResume = refl
kind_from-kind_code kinds.StopFreeze = refl
kind_from-kind_code kinds.Acknowledge = refl
kind_from-kind_code kinds.ActionRequest = refl
kind_from-kind_code kinds.ActionResponse = refl
kind_from-kind_code kinds.DataQuery = refl
kind_from-kind_code kinds.SetData = refl
kind_from-kind_code kinds.DataPdu = refl
kind_from-kind_code kinds.EventReport = refl
kind_from-kind_code kinds.Comment = refl

is_kind_code-kind_code : (kind : Kind) → is_kind_code (kind_code kind) ≡ true
is_kind_code-kind_code kinds.CreateEntity = refl
is_kind_code-kind_code kinds.RemoveEntity = refl
is_kind_code-kind_code kinds.StartResume = refl
is_kind_code-kind_code kinds.StopFreeze = refl
is_kind_code-kind_code kinds.Acknowledge = refl
is_kind_code-kind_code kinds.ActionRequest = refl
is_kind_code-kind_code kinds.ActionResponse = refl
is_kind_code-kind_code kinds.DataQuery = refl
is_kind_code-kind_code kinds.SetData = refl
is_kind_code-kind_code kinds.DataPdu = refl
is_kind_code-kind_code kinds.EventReport = refl
is_kind_code-kind_code kinds.Comment = refl

-- ---- the table of versions

version_from-version_code : (version : Version) → version_from (version_code version) ≡ version
unfolding version_from
version_from-version_code versions.V6 = refl
version_from-version_code versions.V7 = refl

is_version-version_code : (version : Version) → is_version (version_code version) ≡ true
is_version-version_code versions.V6 = refl
is_version-version_code versions.V7 = refl

-- each row has the number of its version
abbrev AreNumbered : List VersionRow → Type 0
AreNumbered [] = Unit {0}
AreNumbered (row ∷ rows) = (version_code row.version ≡ row.number) × AreNumbered rows

numbered : AreNumbered VERSIONS
numbered = (refl, (refl, tt))

row_numbered : (rows : List VersionRow) (n : ℕ) → AreNumbered rows → has_number rows n ≡ true
    → version_code (row_where (λ row. row.number == n) rows).version ≡ n
row_numbered [] n are e = absurd cc
row_numbered (row ∷ rows) n are e = by (row.number == n) refl e (row_numbered rows n are.1) where
  by : (test : Bool) → (row.number == n) ≡ test → (test || has_number rows n) ≡ true
      → (has_number rows n ≡ true → version_code (row_where (λ row. row.number == n) rows).version ≡ n)
      → version_code (if test then row else row_where (λ row. row.number == n) rows).version ≡ n
  by true same e rest = are.0 ∙ eqb-true row.number n same
  by false same e rest = rest e

pub version_code-version_from : (n : ℕ) → is_version n ≡ true → version_code (version_from n) ≡ n
unfolding version_from
version_code-version_from n e = row_numbered VERSIONS n numbered e

-- the numbers that are read
pub version_read : (n : ℕ) → IsTrue (is_version n) ↔ ((n ≡ 6) ⊎ (n ≡ 7))
version_read n = (known (6 == n) refl (7 == n) refl, λ one. elim one [ inl six ↦ rw six refl | inr seven ↦ rw seven refl ]) where
  known : (six : Bool) → (6 == n) ≡ six → (seven : Bool) → (7 == n) ≡ seven → IsTrue (six || (seven || false)) → (n ≡ 6) ⊎ (n ≡ 7)
  known true a seven b is = inl (sym (eqb-true 6 n a))
  known false a true b is = inr (sym (eqb-true 7 n b))
  known false a false b is = absurd cc

pub status_known : (version : Version) → has_status version ≡ nat_le 7 (version_code version)
status_known versions.V6 = refl
status_known versions.V7 = refl

-- ---- a byte that is there by the version

pub status_stands : (there : Bool) (at : ℕ) (b : List ℕ) → IsPlacedAt (ByteIf there (if there then spelled_number w8 at b else 0)) at b
status_stands true at b = refl
status_stands false at b = tt

pub status_again : (there : Bool) (n : ℕ) → (if there then n else 0) ≡ (if there then (if there then n else 0) else 0)
status_again true n = refl
status_again false n = refl

status_read : (there : Bool) (n at : ℕ) (b : List ℕ) → IsPlacedAt (ByteIf there n) at b → n ≡ (if there then n else 0)
    → n ≡ (if there then spelled_number w8 at b else 0)
status_read true n at b stands is = stands
status_read false n at b stands is = is

-- ---- what is there is read

same_fields : (g : Header) (version : Version) (exercise : ℕ) (kind : Kind) (stamp own status : ℕ) → g.version ≡ version → g.exercise ≡ exercise
    → g.kind ≡ kind → g.stamp ≡ stamp → g.length ≡ own → g.status ≡ status
    → g ≡ record { version = version; exercise = exercise; kind = kind; stamp = stamp; length = own; status = status }
same_fields g version exercise kind stamp own status a b c d e f = rw (← a, ← b, ← c, ← d, ← e, ← f) refl

-- a header that is there is not refused
pub header_stands : (h : Header) (b : List ℕ) → IsHeader h b → header_refusal b ≡ None
header_stands h b p =
    let x = p.stands in
    let version : is_version (spelled_number w8 0 b) ≡ true = ap is_version (sym x.0) ∙ is_version-version_code h.version in
    let family : spelled_number w8 3 b ≡ 5 = sym x.1.1.1.0 in
    let kind : is_kind_code (spelled_number w8 2 b) ≡ true = ap is_kind_code (sym x.1.1.0) ∙ is_kind_code-kind_code h.kind in
    let long : ltb (length b) 12 ≡ false = le-ltb (length b) 12 p.room in
    let limit : ltb LARGEST_DATAGRAM (length b) ≡ false = le-ltb LARGEST_DATAGRAM (length b) p.limit in
    let own : spelled_number w16 8 b ≡ length b = sym x.1.1.1.1.1.0 ∙ p.length_is in
    let same : eqb (length b) (length b) ≡ true = search rules in
    rw (long, version, family, kind, limit, own, same) refl

-- the header that is there is the one that is read at its offsets
pub header_is : (h : Header) (b : List ℕ) → IsHeader h b → h ≡ header_at b
header_is h b p =
    let x = p.stands in
    let version : h.version ≡ version_from (spelled_number w8 0 b) = sym (version_from-version_code h.version) ∙ ap version_from x.0 in
    same_fields h (version_from (spelled_number w8 0 b)) (spelled_number w8 1 b) (kind_from (spelled_number w8 2 b)) (spelled_number w32 4 b) (spelled_number w16 8 b)
    (carried_status (version_from (spelled_number w8 0 b)) (spelled_number w8 10 b))
    version
    x.1.0
    (sym (kind_from-kind_code h.kind) ∙ ap kind_from x.1.1.0)
    x.1.1.1.1.0
    x.1.1.1.1.1.0
    (status_read (has_status h.version) h.status 10 b x.1.1.1.1.1.1.0 p.status_is
    ∙ ap (λ (v : Version). carried_status v (spelled_number w8 10 b)) version)

-- ---- what is not refused is there

unless : {F : Type 0} (test : Bool) (fault : F) (rest : Option F) → (if test then Some fault else rest) ≡ None → (test ≡ false) × (rest ≡ None)
unless true fault rest e = absurd cc
unless false fault rest e = (refl, e)

otherwise : (test : Bool) → not test ≡ false → test ≡ true
otherwise true e = refl
otherwise false e = absurd cc

not_below : (m n : ℕ) → ltb m n ≡ false → n ≤ m
not_below m n e = elim (cases_lt m n) [ inl lt ↦ absurd (let t : ltb m n ≡ true = lt-ltb m n lt in let clash = sym t ∙ e in cc) | inr le ↦ le ]

one_of : (n k : ℕ) (x y : Kind) → kind_code x ≡ k → (n ≢ k → kind_code y ≡ n) → kind_code (if n == k then x else y) ≡ n
one_of n k x y here others =
    elim (eqb n k) as (λ t. eqb n k ≡ t → kind_code (if t then x else y) ≡ n) [
      | true ↦ λ e. here ∙ sym (eqb-true n k e)
      | false ↦ λ e. others (λ same. let t : eqb n k ≡ true = eq-eqb n k same in let clash = sym t ∙ e in cc)
    ] refl

pub kind_code-kind_from : (n : ℕ) → is_kind_code n ≡ true → kind_code (kind_from n) ≡ n
unfolding kind_from
kind_code-kind_from n e =
    let bounds : (11 ≤ n) × (n ≤ 22) = grind (arith, e) in
    one_of n 11 _ _ refl (λ a. one_of n 12 _ _ refl (λ b. one_of n 13 _ _ refl (λ c. one_of n 14 _ _ refl (λ d. one_of n 15 _ _ refl (λ f. one_of n 16 _ _ refl
    (λ g. one_of n 17 _ _ refl
    (λ h. one_of n 18 _ _ refl (λ i. one_of n 19 _ _ refl (λ j. one_of n 20 _ _ refl (λ k. one_of n 21 _ _ refl (λ l. omega arith)))))))))))

pub header_reads : (b : List ℕ) → header_refusal b ≡ None → IsHeader (header_at b) b
header_reads b e =
    let short = unless (ltb (length b) 12) _ _ e in
    let version = unless (not (is_version (spelled_number w8 0 b))) _ _ short.1 in
    let family = unless (not (eqb (spelled_number w8 3 b) 5)) _ _ version.1 in
    let kind = unless (not (is_kind_code (spelled_number w8 2 b))) _ _ family.1 in
    let long = unless (ltb LARGEST_DATAGRAM (length b)) _ _ kind.1 in
    let own = unless (not (eqb (spelled_number w16 8 b) (length b))) _ _ long.1 in
    record {
      stands = (
        version_code-version_from (spelled_number w8 0 b) (otherwise (is_version (spelled_number w8 0 b)) version.0),
        (
          refl,
          (
            kind_code-kind_from (spelled_number w8 2 b) (otherwise (is_kind_code (spelled_number w8 2 b)) kind.0),
            (
              sym (eqb-true _ _ (otherwise _ family.0)),
              (refl, (refl, (status_stands (has_status (version_from (spelled_number w8 0 b))) 10 b, (tt, tt)))),
            ),
          ),
        ),
      );
      length_is = eqb-true _ _ (otherwise _ own.0);
      status_is = status_again (has_status (version_from (spelled_number w8 0 b))) (spelled_number w8 10 b);
      room = not_below _ _ short.0;
      limit = not_below _ _ long.0;
    }

-- what is not refused has the bytes of a header, a version and a kind that are read
pub header_known : (b : List ℕ) → header_refusal b ≡ None
    → (12 ≤ length b) × ((is_version (spelled_number w8 0 b) ≡ true) × (is_kind_code (spelled_number w8 2 b) ≡ true))
header_known b e =
    let is = header_reads b e in
    let x = is.stands in (
      is.room,
      (
        ap is_version (sym x.0) ∙ is_version-version_code (header_at b).version,
        ap is_kind_code (sym x.1.1.0) ∙ is_kind_code-kind_code (header_at b).kind,
      ),
    )

-- a header put together from what stands at its offsets
pub header_built : (b : List ℕ) (version : Version) (exercise : ℕ) (kind : Kind) (stamp own status : ℕ) → version_code version ≡ spelled_number w8 0 b
    → exercise ≡ spelled_number w8 1 b → kind_code kind ≡ spelled_number w8 2 b → stamp ≡ spelled_number w32 4 b → own ≡ spelled_number w16 8 b
    → status ≡ carried_status version (spelled_number w8 10 b)
    → record { version = version; exercise = exercise; kind = kind; stamp = stamp; length = own; status = status } ≡ header_at b
header_built b version exercise kind stamp own status of exercise_is code stamp_is own_is status_is =
    let named : version ≡ version_from (spelled_number w8 0 b) = sym (version_from-version_code version) ∙ ap version_from of in
    same_fields (record { version = version; exercise = exercise; kind = kind; stamp = stamp; length = own; status = status })
    (version_from (spelled_number w8 0 b)) (spelled_number w8 1 b) (kind_from (spelled_number w8 2 b)) (spelled_number w32 4 b) (spelled_number w16 8 b)
    (carried_status (version_from (spelled_number w8 0 b)) (spelled_number w8 10 b))
    named exercise_is
    (sym (kind_from-kind_code kind) ∙ ap kind_from code)
    stamp_is own_is
    (status_is ∙ ap (λ (v : Version). carried_status v (spelled_number w8 10 b)) named)

-- ---- what read_header answers

pub read_at : (r : Result Header HeaderFault) (b : List ℕ) → IfOk r (λ h. IsHeader h b) → IfOk r (λ h. (header_refusal b ≡ None) × (h ≡ header_at b))
read_at (Ok h) b is = (header_stands h b is, header_is h b is)
read_at (Err fault) b is = tt

pub read_only : (r : Result Header HeaderFault) (b : List ℕ) → IfOk r (λ h. IsHeader h b) → IfErr r (λ fault. header_refusal b ≡ Some fault)
    → (h : Header) → IsHeader h b → r ≡ Ok h
read_only (Ok g) b is refused h stands = ap (λ (x : Header). Ok x) (header_is g b is ∙ sym (header_is h b stands))
read_only (Err fault) b is refused h stands = let clash = sym (header_stands h b stands) ∙ refused in absurd cc
