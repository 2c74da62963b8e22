-- The state of a capture between two records or blocks.
use Rattle.std.specs.Prelude.{ℕ, ◌+◌, ◌^◌, ◌-◌, min, List, [], ◌∷◌, ◌++◌, sum_by, slice_get, slice_set, Option, Some, None}
use Rattle.std.specs.Option.{option_map_or}
use Rattle.packet_captures.specs.declared.byte_order.ByteOrder.{ByteOrder}
use Rattle.packet_captures.specs.declared.form.Form.{Form}
use Rattle.packet_captures.specs.declared.form.Form.TheVariants.{Start, Pcap, Section}
use Rattle.packet_captures.specs.declared.interface.Interface.{Interface}
use Rattle.packet_captures.specs.declared.pcap.PcapHead.{PcapHead}

-- the form of what follows; of a section of pcapng its interfaces, and the stamp of its last packet; and how many
-- packets the sections before it lost
pub record State : Type 0 where
  pub form : Form
  pub interfaces : List Interface
  pub stamp : ℕ
  pub lost : ℕ

-- nothing was read yet
abbrev pub start : State
start = record { form = Start; interfaces = []; stamp = 0; lost = 0 }

-- THE NUMBER OF PACKETS LOST so far: the last number of each interface of a section, added up, or the largest of 64 bits
abbrev pub lost_of : State → ℕ
lost_of s = min (s.lost + sum_by (λ i. i.lost) s.interfaces) (2 ^ 64 - 1)

-- a section begins, which has no interfaces yet
abbrev pub section_state : ByteOrder → State → State
section_state order s = record { form = Section order; interfaces = []; stamp = 0; lost = lost_of s }

-- a file of pcap begins
abbrev pub pcap_state : PcapHead → State → State
pcap_state head s = record s { form = Pcap head }

-- an interface is described
abbrev pub with_interface : Interface → State → State
with_interface i s = record s { interfaces = s.interfaces ++ i ∷ [] }

-- a packet has this stamp
abbrev pub with_stamp : ℕ → State → State
with_stamp stamp s = record s { stamp = stamp }

-- the interface of this index, if it is described, lost this many packets
abbrev pub lost_at : (index lost : ℕ) → List Interface → List Interface
lost_at index lost interfaces = option_map_or (λ i. slice_set interfaces index (record i { lost = lost })) (slice_get interfaces index) interfaces

abbrev pub with_lost : (index : ℕ) → (lost : Option ℕ) → State → State
with_lost index None s = s
with_lost index (Some lost) s = record s { interfaces = lost_at index lost s.interfaces }
