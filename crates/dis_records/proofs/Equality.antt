-- Tests of equality that are exact: equal is identical.
use Rattle.std.proofs.Common.{◌≡◌, Bool, refl, sym, ap}
use Rattle.std.specs.Prelude.{◌==◌, ◌&&◌}
use Rattle.std.specs.Bool.{Decides}
use Rattle.std.specs.Cmp.{IsEquivalence}
use Rattle.std.specs.Cmp.Lexicographic.{pointwise, bytes_decides}
use Rattle.std.proofs.lemmas.Bool.Decides.{Decides-and, Decides-eqb, Decides-like, same_from_decides}
use Rattle.dis_records.specs.Datum.{Datum, same_datum}

-- an exact test is an equivalence
pub exact_equivalence : {K : Type 0} (test : K → K → Bool) → ((x y : K) → Decides (test x y) (x ≡ y)) → IsEquivalence test
exact_equivalence test exact = record {
  refl = λ x. (exact x x).1 refl;
  symm = λ x y. same_from_decides (test x y) (test y x) (exact x y) (Decides-like (test y x) (λ e. sym e) (λ e. sym e) (exact y x));
  congr = λ x y z e. ap (λ w. test w z) ((exact x y).0 e);
}

same_fields : (d e : Datum) → d.id ≡ e.id → d.bits ≡ e.bits → d.bytes ≡ e.bytes → d ≡ e
same_fields d e p q r = rw (p, q, r) refl

pub datum_decides : (d e : Datum) → Decides (same_datum d e) (d ≡ e)
datum_decides d e =
    let parts = Decides-and (d.id == e.id) ((d.bits == e.bits) && pointwise ◌==◌ d.bytes e.bytes) (Decides-eqb d.id e.id)
    (Decides-and (d.bits == e.bits) (pointwise ◌==◌ d.bytes e.bytes) (Decides-eqb d.bits e.bits) (bytes_decides d.bytes e.bytes)) in
    Decides-like (same_datum d e) (λ p. same_fields d e p.0 p.1.0 p.1.1)
    (λ s. (ap (λ (x : Datum). x.id) s, (ap (λ (x : Datum). x.bits) s, ap (λ (x : Datum). x.bytes) s))) parts
