-- The texts of the faults of a packet capture (profile).
use Rattle.std.specs.Prelude.{ℕ, List, ◌++◌, codes, decimal}
use Rattle.packet_captures.specs.declared.capture_fault.FormatFault.{FormatFault}
use Rattle.packet_captures.specs.declared.capture_fault.FormatFault.TheVariants as faults
use Rattle.packet_captures.specs.declared.capture_fault.CaptureFault.{CaptureFault}
use Rattle.packet_captures.specs.declared.capture_fault.CaptureFault.TheVariants.{Format, Read, Memory}

abbrev pub name_of : FormatFault → List ℕ
name_of (faults.Magic at) = codes "magic"
name_of (faults.Version at) = codes "version"
name_of (faults.Block at) = codes "block"
name_of (faults.Interface at) = codes "interface"
name_of (faults.Time at) = codes "time"
name_of (faults.Truncated at head) = codes "truncated"

abbrev pub place_of : FormatFault → ℕ
place_of (faults.Magic at) = at
place_of (faults.Version at) = at
place_of (faults.Block at) = at
place_of (faults.Interface at) = at
place_of (faults.Time at) = at
place_of (faults.Truncated at head) = at

-- text of a fault of the format
abbrev pub format_fault_text : FormatFault → List ℕ
format_fault_text f = name_of f ++ codes " at " ++ decimal (place_of f)

-- text of a fault of reading
abbrev pub capture_fault_text : CaptureFault → List ℕ
capture_fault_text (Format f) = format_fault_text f
capture_fault_text Read = codes "read"
capture_fault_text Memory = codes "memory"
