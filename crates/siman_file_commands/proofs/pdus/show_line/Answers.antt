-- A line that is bad, or that was not told whole.
use Rattle.std.proofs.Common.{◌<◌, Err, length, rules, subst}
use Rattle.siman_outside.specs.declared.fault.Fault.TheVariants.{NotBytePairs}
use Rattle.siman_file_commands.specs.Answer.{said_of_hex, IsSaid}
use Rattle.siman_file_commands.proofs.Tellings.{line-bad, line-stopped}
use Rattle.siman_file_commands.proofs.pdus.show_line.Goals as goal

pub returns-in-NotBytePairs : goal.returns-in-NotBytePairs
returns-in-NotBytePairs g c =
    let some : 0 < length c.args.line.now = search rules in
    let out = g.W.Write.contents c.args.out.now in
    let said : IsSaid (said_of_hex c.args.line.now) (Err NotBytePairs) out (g.W.Write.contents c.tell.new.out) =
    subst (λ fault. IsSaid (said_of_hex c.args.line.now) (Err fault) out (g.W.Write.contents c.tell.new.out)) c.in-NotBytePairs.is c.in-Err.ensures in
    line-bad c.args.number c.args.line.now c.put_bad_line.result _ _ _ _ some said.0 said.1 c.put_bad_line.ensures

pub returns-in_default : goal.returns-in_default
returns-in_default g c =
    let some : 0 < length c.args.line.now = search rules in
    line-stopped c.args.number c.args.line.now c.in-Err.fault _ _ _ some c.in-Err.ensures c.in_default.not-NotBytePairs
