-- Equality of datums and identifiers is exact.
use Rattle.std.proofs.Common.{◌≡◌, refl, ap}
use Rattle.std.specs.Prelude.{◌==◌}
use Rattle.std.specs.Bool.{Decides}
use Rattle.std.specs.Cmp.{IsEquivalence, IsPartialEquivalence, partial_equiv_from_equiv}
use Rattle.std.specs.Cmp.Lexicographic.{pointwise, pointwise_decides, bytes_decides}
use Rattle.std.proofs.lemmas.Bool.Decides.{Decides-and, Decides-eqb, Decides-like}
use Rattle.dis_records.specs.declared.datum.FixedDatum.{FixedDatum}
use Rattle.dis_records.specs.Datum.{same_datum}
use Rattle.dis_records.proofs.Offered.{exact_equivalence, datum_decides}
use Rattle.siman_pdus.specs.DatumLists.{DatumLists, IdLists, same_fixed, same_datums, same_ids}

same_fixed_fields : (d e : FixedDatum) → d.id ≡ e.id → d.value ≡ e.value → d ≡ e
same_fixed_fields d e p q = rw (p, q) refl

fixed_decides : (d e : FixedDatum) → Decides (same_fixed d e) (d ≡ e)
fixed_decides d e =
    Decides-like (same_fixed d e) (λ p. same_fixed_fields d e p.0 p.1) (λ s. (ap (λ (x : FixedDatum). x.id) s, ap (λ (x : FixedDatum). x.value) s))
    (Decides-and (d.id == e.id) (d.value == e.value) (Decides-eqb d.id e.id) (Decides-eqb d.value e.value))

same_datum_lists : (d e : DatumLists) → d.fixed ≡ e.fixed → d.variable ≡ e.variable → d ≡ e
same_datum_lists d e p q = rw (p, q) refl

pub datums_decide : (d e : DatumLists) → Decides (same_datums d e) (d ≡ e)
datums_decide d e =
    Decides-like (same_datums d e) (λ p. same_datum_lists d e p.0 p.1) (λ s. (ap (λ (x : DatumLists). x.fixed) s, ap (λ (x : DatumLists). x.variable) s))
    (Decides-and (pointwise same_fixed d.fixed e.fixed) (pointwise same_datum d.variable e.variable)
    (pointwise_decides fixed_decides d.fixed e.fixed) (pointwise_decides datum_decides d.variable e.variable))

same_id_lists : (d e : IdLists) → d.fixed ≡ e.fixed → d.variable ≡ e.variable → d ≡ e
same_id_lists d e p q = rw (p, q) refl

pub ids_decide : (d e : IdLists) → Decides (same_ids d e) (d ≡ e)
ids_decide d e =
    Decides-like (same_ids d e) (λ p. same_id_lists d e p.0 p.1) (λ s. (ap (λ (x : IdLists). x.fixed) s, ap (λ (x : IdLists). x.variable) s))
    (Decides-and (pointwise ◌==◌ d.fixed e.fixed) (pointwise ◌==◌ d.variable e.variable) (bytes_decides d.fixed e.fixed) (bytes_decides d.variable e.variable))

pub datums_equivalence : IsEquivalence same_datums
datums_equivalence = exact_equivalence same_datums datums_decide

pub ids_equivalence : IsEquivalence same_ids
ids_equivalence = exact_equivalence same_ids ids_decide

pub datums_partial : IsPartialEquivalence same_datums
datums_partial = partial_equiv_from_equiv datums_equivalence

pub ids_partial : IsPartialEquivalence same_ids
ids_partial = partial_equiv_from_equiv ids_equivalence
