use Rattle.std.proofs.Common.{sym, subst}
use Rattle.dis_records.specs.declared.header.Header.{Header}
use Rattle.siman_pdus.specs.Shape.{IsWhole}
use Rattle.siman_pdus.proofs.Spellings.{known_to_read}
use Rattle.siman_pdus.proofs.decoding.view_again.Goals as goal

pub body_view-requires : goal.body_view-requires
body_view-requires c =
    subst (λ (h : Header). IsWhole h.kind c.args.bytes.now) (sym c.header_again-header.ensures) (known_to_read c.args.bytes.now c.requires).1.0
