use Rattle.std.proofs.Common.{◌≡◌, ℕ, ◌-◌, List, length, sym, ap, ◌∙◌}
use Rattle.std.specs.Prelude.{Option, IfOk, Ok, Result, slice_get}
use Rattle.dis_records.specs.declared.datum.DatumFault.{DatumFault}
use Rattle.dis_records.specs.Datum.{Datum}
use Rattle.dis_records.specs.Layout.{bytes_for, cleared}
use Rattle.dis_records.proofs.Offered.{length-cleared, cleared-cleared}
use Rattle.siman_pdus.specs.Reading.{with_last}
use Rattle.siman_pdus.proofs.Values.{last_makes_cleared}
use Rattle.siman_pdus.proofs.views.read_variable.Goals as goal

-- the bytes after their last was set are cleared
set_bytes : (bits : ℕ) (bytes copied new : List ℕ) (last : Option ℕ) → length bytes ≡ bytes_for bits → copied ≡ bytes
    → last ≡ slice_get (cleared bits bytes) (length bytes - 1) → new ≡ with_last last copied → new ≡ cleared bits bytes
set_bytes bits bytes copied new last len same is set = rw (set, same, is) (last_makes_cleared bits bytes len)

pub unwrap-requires : goal.unwrap-requires
unwrap-requires c =
    let v = c.args.view in
    let bytes = set_bytes v.bits v.bytes.now c.in_ok-bytes.bytes.items c.set_last.new.bytes.items c.last.result v.whole c.in_ok-bytes.ensures.items c.last.ensures c.set_last.ensures in
    c.new.ensures.succeeds (record {
      size = ap length bytes ∙ length-cleared v.bits v.bytes.now ∙ v.whole;
      unused = ap (cleared v.bits) bytes ∙ cleared-cleared v.bits v.bytes.now ∙ sym bytes;
    })

same_value : (result : Result Datum DatumFault) (found : Datum) (id bits : ℕ) (new bytes : List ℕ) → result ≡ Ok found
    → IfOk result (λ datum. datum ≡ record { id = id; bits = bits; bytes = new }) → new ≡ bytes
    → found ≡ record { id = id; bits = bits; bytes = bytes }
same_value result found id bits new bytes ok value same = let is = rw ok at value in rw (← same) is

pub returns : goal.returns
returns c =
    let v = c.args.view in
    let bytes = set_bytes v.bits v.bytes.now c.in_ok-bytes.bytes.items c.set_last.new.bytes.items c.last.result v.whole c.in_ok-bytes.ensures.items c.last.ensures c.set_last.ensures in
    same_value c.new.result c.unwrap.result v.id v.bits c.set_last.new.bytes.items (cleared v.bits v.bytes.now) c.unwrap.ensures c.new.ensures.value bytes
