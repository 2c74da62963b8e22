use Rattle.std.proofs.Common.{◌≡◌, ℕ, List, subst, arith}
use Rattle.dis_records.specs.declared.kind.Kind.{Kind}
use Rattle.dis_records.specs.declared.kind.Kind.TheVariants as kinds
use Rattle.siman_pdus.specs.Shape.{IsWhole}
use Rattle.siman_pdus.proofs.Bodies.{datums_fit, ids_fit}
use Rattle.siman_pdus.proofs.decoding.body_view.Goals as goal

whole_of : (b : List ℕ) (kind other : Kind) → kind ≡ other → IsWhole kind b → IsWhole other b
whole_of b kind other e whole = subst (λ (k : Kind). IsWhole k b) e whole

pub over-requires : goal.over-requires
over-requires c =
    let whole = whole_of c.args.bytes.now c.args.kind kinds.ActionRequest c.in-ActionRequest.is c.requires in datums_fit 32 c.args.bytes.now
    (omega (arith, whole))

pub over-requires-in-ActionResponse : goal.over-requires-in-ActionResponse
over-requires-in-ActionResponse c =
    let whole = whole_of c.args.bytes.now c.args.kind kinds.ActionResponse c.in-ActionResponse.is c.requires in datums_fit 32 c.args.bytes.now
    (omega (arith, whole))

pub over-requires-in-SetData : goal.over-requires-in-SetData
over-requires-in-SetData c =
    let whole = whole_of c.args.bytes.now c.args.kind kinds.SetData c.in-SetData.is c.requires in datums_fit 32 c.args.bytes.now (omega (arith, whole))

pub over-requires-in-DataPdu : goal.over-requires-in-DataPdu
over-requires-in-DataPdu c =
    let whole = whole_of c.args.bytes.now c.args.kind kinds.DataPdu c.in-DataPdu.is c.requires in datums_fit 32 c.args.bytes.now (omega (arith, whole))

pub over-requires-in-EventReport : goal.over-requires-in-EventReport
over-requires-in-EventReport c =
    let whole = whole_of c.args.bytes.now c.args.kind kinds.EventReport c.in-EventReport.is c.requires in datums_fit 32 c.args.bytes.now (omega (arith, whole))

pub over-requires-in-Comment : goal.over-requires-in-Comment
over-requires-in-Comment c =
    let whole = whole_of c.args.bytes.now c.args.kind kinds.Comment c.in-Comment.is c.requires in datums_fit 24 c.args.bytes.now (omega (arith, whole))

pub over-requires-in-DataQuery : goal.over-requires-in-DataQuery
over-requires-in-DataQuery c =
    let whole = whole_of c.args.bytes.now c.args.kind kinds.DataQuery c.in-DataQuery.is c.requires in ids_fit 32 c.args.bytes.now (omega (arith, whole))
