-- What `audit` says of a file.
use Rattle.std.proofs.Common.{ℕ, List, Option, Result, Ok, inl, inr}
use Rattle.exercise_recording.specs.Reading.{recording_at}
use Rattle.siman_outside.specs.declared.commands.Reading.{Reading}
use Rattle.siman_outside.specs.declared.commands.Reading.TheVariants as readings
use Rattle.siman_outside.specs.declared.fault.Fault.{Fault}
use Rattle.siman_outside.specs.declared.limits.TheConstants.{LARGEST_RECORDING}
use Rattle.siman_outside.specs.Making.{Answered, PutsOfFile}
use Rattle.siman_outside.specs.Outside.{Given, Stream}
use Rattle.siman_outside.specs.Recorded.{SaysOfBytes}
use Rattle.siman_file_commands.specs.Audit.{Finding, Searches, SearchesFile, PutsSequence, GivesAudit}

-- the recording was searched, or could not be read
pub searched : (reading : Reading) (known : Option (List ℕ)) (found : Result Finding Fault) (out : Stream) → SaysOfBytes reading (λ r found out. Searches (Ok r) found) known found out
    → SearchesFile reading known found
searched reading known found out (bytes, has, inl (fault, why, is, keeps)) = (bytes, has, rw is why)
searched reading known found out (bytes, has, inr (r, is, found_so)) = (bytes, has, rw is found_so)

-- what was found is written, or nothing is
pub gives_audit : (known : Option (List ℕ)) (answered : Answered) (file out : Stream) → PutsOfFile (SearchesFile readings.Whole) PutsSequence known answered file out
    → Given known (λ bytes. GivesAudit (recording_at LARGEST_RECORDING bytes) answered file out)
gives_audit known answered file out (inl (fault, none, is, kept, keeps)) = (none.0, none.1, inl (fault, none.2, is, kept, keeps))
gives_audit known answered file out (inr (finding, found, puts)) = (found.0, found.1, inr (finding, found.2, puts))
