-- Which faults are those of a capture's bytes.
use Rattle.std.specs.Prelude.{Option, Some, None}
use Rattle.byte_files.specs.declared.fetching.FetchFault.{FetchFault}
use Rattle.byte_files.specs.declared.fetching.FetchFault.TheVariants as fetching
use Rattle.packet_captures.specs.declared.capture_fault.CaptureFault.{CaptureFault}
use Rattle.packet_captures.specs.declared.capture_fault.CaptureFault.TheVariants.{Format, Read, Memory}
use Rattle.packet_captures.specs.declared.capture_fault.FormatFault.{FormatFault}

-- the fault of the bytes, if it is one
abbrev pub format_of : CaptureFault → Option FormatFault
format_of (Format fault) = Some fault
format_of Read = None
format_of Memory = None

-- the fault where bytes were not fetched
abbrev pub fault_of : FetchFault → CaptureFault
fault_of fetching.Read = Read
fault_of fetching.Memory = Memory
