use Rattle.std.proofs.Common.{◌≡◌, length}
use Rattle.packet_captures.specs.Ethernet.{untagged}
use Rattle.packet_captures.proofs.ethernet.untagged.Given as goal

-- what stands behind the tags passed over so far is what stands behind all
abbrev pub invariant-tags : goal.invariant-tags
invariant-tags l = untagged l.kind l.rest ≡ untagged l.fn.kind l.fn.bytes

abbrev pub decreases-tags : goal.decreases-tags
decreases-tags l = length l.rest
