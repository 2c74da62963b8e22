use Rattle.std.proofs.Common.{◌≡◌, ℕ, ◌++◌}
use Rattle.std.specs.Prelude.{Vec}
use Rattle.std.specs.declared.alloc.Global.{Global}
use Rattle.dis_records.specs.declared.kind.Kind.{Kind}
use Rattle.dis_records.specs.Header.{header_layout}
use Rattle.dis_records.specs.Entity.{entity_layout}
use Rattle.siman_pdus.specs.declared.pdu.Pdu.{Pdu}
use Rattle.siman_pdus.specs.Spelling.{body_kind, header_of, body_layout, pdu_size}
use Rattle.siman_pdus.specs.Writing.{Puts}
use Rattle.siman_pdus.proofs.Texts.{puts_then}
use Rattle.siman_pdus.proofs.encoding.put_pdu.Goals as goal

-- the header with the kind of the body and the size of the text
own_header : (p : Pdu) (kind : Kind) (length : ℕ) (old new : Vec ℕ Global) → kind ≡ body_kind p.body → length ≡ pdu_size p
    → Puts (header_layout (record { version = p.version; exercise = p.exercise; kind = kind; stamp = p.stamp; length = length; status = p.status })) old new
    → Puts (header_layout (header_of p (pdu_size p))) old new
own_header p kind length old new same own puts = rw (← same, ← own) puts

pub returns : goal.returns
returns c =
    let p = c.args.pdu.now in
    let header = own_header p c.kind_of.result c.args.length c.args.out.now c.put_header.new.out c.kind_of.ensures c.requires.own c.put_header.ensures in
    puts_then (header_layout (header_of p (pdu_size p))) (entity_layout p.origin ++ entity_layout p.target ++ body_layout p.body) _ _ _ header
    (puts_then (entity_layout p.origin) (entity_layout p.target ++ body_layout p.body) _ _ _ c.put_entity.ensures
    (puts_then (entity_layout p.target) (body_layout p.body) _ _ _ c.put_entity-2.ensures c.put_body.ensures))
