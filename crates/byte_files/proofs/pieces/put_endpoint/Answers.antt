-- The first octet, and then the rest.
use Rattle.std.proofs.Common.{◌++◌, [], codes}
use Rattle.byte_files.proofs.Offered.{at_error, writes_part, writes_then}
use Rattle.byte_files.specs.Pieces.{behind}
use Rattle.byte_files.proofs.pieces.put_endpoint.Goals as goal

pub returns-in_err-put_behind : goal.returns-in_err-put_behind
returns-in_err-put_behind g c =
    let a = c.args in
    at_error c.from_residual.result _ _ _ c.from_residual.ensures.0
    (writes_part _ _ (behind [] a.first) (behind (codes ".") a.second ++ (behind (codes ".") a.third ++ (behind (codes ".") a.last ++ behind (codes ":") a.port)))
    (rw c.from.ensures at c.in_err-put_behind.ensures))

pub returns : goal.returns
returns g c =
    let a = c.args in
    writes_then c.put_second.result _ _ _ (behind [] a.first) (behind (codes ".") a.second ++ (behind (codes ".") a.third ++ (behind (codes ".") a.last ++ behind (codes ":") a.port)))
    (rw c.from.ensures at c.in_ok-put_behind.ensures) c.put_second.ensures
