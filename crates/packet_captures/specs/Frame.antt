-- Frames of a capture.
use Rattle.std.specs.Prelude.{ℕ, Bool, true, false, nat_lt, List, length}
use Rattle.packet_captures.specs.declared.link.Link.{Link}
use Rattle.packet_captures.specs.declared.link.Link.TheVariants.{Ethernet, LoopbackLittle, LoopbackBig, Raw, Raw4, Raw6, Cooked, Cooked2}
use Rattle.packet_captures.specs.Carried.{Contents}
use Rattle.packet_captures.specs.Internet4.{internet_4}
use Rattle.packet_captures.specs.Internet6.{internet_6}
use Rattle.packet_captures.specs.Ethernet.{ethernet}
use Rattle.packet_captures.specs.Cooked.{cooked, cooked_2}
use Rattle.packet_captures.specs.Loopback.{loopback, raw}

-- what a frame of a link carries of which b is there, and which was cut or not
abbrev pub behind_link : Bool → Link → List ℕ → Contents
behind_link cut Ethernet b = ethernet cut b
behind_link cut LoopbackLittle b = loopback true cut b
behind_link cut LoopbackBig b = loopback false cut b
behind_link cut Raw b = raw cut b
behind_link cut Raw4 b = internet_4 false cut b
behind_link cut Raw6 b = internet_6 false cut b
behind_link cut Cooked b = cooked cut b
behind_link cut Cooked2 b = cooked_2 cut b

-- What a frame carries that had `original` bytes. The capture cut it if it kept fewer.
unfoldable pub contents : Link → ℕ → List ℕ → Contents
contents link original b = behind_link (nat_lt (length b) original) link b
