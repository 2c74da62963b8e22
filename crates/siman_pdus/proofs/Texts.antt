-- The text and the size of layouts one after the other.
use Rattle.std.proofs.Common.{◌≡◌, ℕ, ◌+◌, ◌*◌, ◌^◌, ◌<◌, ◌≤◌, List, [], ◌∷◌, ◌++◌, length, sym, ap, ◌∙◌, append_assoc, arith}
use Rattle.std.specs.Prelude.{Vec}
use Rattle.std.specs.declared.alloc.Global.{Global}
use Rattle.siman_pdus.specs.Writing.{Puts}
use Rattle.dis_records.specs.declared.datum.FixedDatum.{FixedDatum}
use Rattle.dis_records.specs.Layout.{Field, Number, FieldFits, Fit, size, text}
use Rattle.std.specs.Int.{w16, w32}
use Rattle.dis_records.proofs.Offered as dis
use Rattle.dis_records.specs.Datum.{Datum, fixed_layouts, variable_layouts, id_layouts}
use Rattle.dis_records.proofs.Offered.{size-append, text-append, size-fixed_layouts, size-id_layouts}

pub text_join : (fs gs : List Field) → text (fs ++ gs) ≡ text fs ++ text gs
text_join fs gs = text-append fs gs

pub size_join : (fs gs : List Field) → size (fs ++ gs) ≡ size fs + size gs
size_join fs gs = size-append fs gs

pub size_fixed : (ds : List FixedDatum) → size (fixed_layouts ds) ≡ 8 * length ds
size_fixed ds = size-fixed_layouts ds

pub size_ids : (ids : List ℕ) → size (id_layouts ids) ≡ 4 * length ids
size_ids ids = size-id_layouts ids

pub variable_least : (ds : List Datum) → 8 * length ds ≤ size (variable_layouts ds)
variable_least [] = omega arith
variable_least (d ∷ ds) = omega (arith, variable_least ds)

pub regroup : (a b c d e : List ℕ) → (((a ++ b) ++ c) ++ d) ++ e ≡ a ++ (b ++ (c ++ (d ++ e)))
regroup a b c d e = simp append_assoc

pub fits16 : (n : ℕ) → n < 2 ^ 16 → FieldFits (Number w16 n)
fits16 n lt = dis.fits16 n lt

pub fits32 : (n : ℕ) → n < 2 ^ 32 → FieldFits (Number w32 n)
fits32 n lt = dis.fits32 n lt

pub fit_join : (fs gs : List Field) → Fit fs → Fit gs → Fit (fs ++ gs)
fit_join fs gs p q = dis.Fit-append fs gs p q

-- ---- fields put after fields

pub puts_then : (fs gs : List Field) (u v w : Vec ℕ Global) → Puts fs u v → Puts gs v w → Puts (fs ++ gs) u w
puts_then fs gs u v w p q = record {
  items = q.items ∙ ap (λ (xs : List ℕ). xs ++ text gs) p.items ∙ append_assoc u.items (text fs) (text gs) ∙ ap (λ (xs : List ℕ). u.items ++ xs) (sym (text-append fs gs));
  len = omega (arith, p.len, q.len, size-append fs gs);
  capacity = omega (arith, p.capacity, q.capacity);
  fits = dis.Fit-append fs gs p.fits q.fits;
}
