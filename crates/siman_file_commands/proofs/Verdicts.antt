-- What `check` says of two files that it judged, or of which it could not read one.
use Rattle.std.proofs.Common.{◌≡◌, ℕ, List, Option, true, false, ◌==◌, Result, Ok, Err, inl, inr, refl}
use Rattle.std.specs.Io.KnownBytes.{Keeps}
use Rattle.exercise_recording.specs.Reading.{recording_at}
use Rattle.exercise_check.specs.Certificate.{certificate_at}
use Rattle.siman_outside.specs.declared.commands.Reading.TheVariants as readings
use Rattle.siman_outside.specs.declared.fault.Fault.{Fault}
use Rattle.siman_outside.specs.declared.files_fault.FilesFault.{FilesFault}
use Rattle.siman_outside.specs.declared.files_fault.FilesFault.TheVariants.{Recording, Certificate, Write, Memory}
use Rattle.siman_outside.specs.declared.limits.TheConstants.{LARGEST_CERTIFICATE, LARGEST_RECORDING}
use Rattle.siman_outside.specs.Ending.{of_files}
use Rattle.siman_outside.specs.Outside.{Given, Stream}
use Rattle.siman_outside.specs.Recorded.{Recorded, Certified, IsUnsearched, IsUncertified, SaysOfBoth}
use Rattle.siman_outside.proofs.Offered.{of_any}
use Rattle.exercise_model.specs.Recording.{PlainRecording}
use Rattle.siman_file_commands.specs.Check.{Judges, ChecksCertificate, GivesCheck, files_fault}

-- a recording that could not be read
unread : (recorded : Recorded) (certified : Certified) (fault : Fault) (old new : Option (List ℕ)) → IsUnsearched recorded fault → Keeps old new
    → GivesCheck recorded certified (Err fault) old new
unread recorded certified fault old new (inl (bad, none, is)) keeps = (Err (files_fault fault), rw is (none, keeps), rw is refl)
unread recorded certified fault old new (inr (inl is)) keeps = (Err (files_fault fault), rw is keeps, rw is refl)
unread recorded certified fault old new (inr (inr is)) keeps = (Err (files_fault fault), rw is keeps, rw is refl)

-- a certificate that could not be read, after the recording was
uncertified : (recorded : Recorded) (certified : Certified) (r : PlainRecording) (fault : Fault) (old new : Option (List ℕ)) → recorded ≡ Ok r → IsUncertified certified fault
    → Keeps old new → GivesCheck recorded certified (Err fault) old new
uncertified recorded certified r fault old new read (inl (bad, none, is)) keeps = (Err (files_fault fault), rw is ((r, read), none, keeps), rw is refl)
uncertified recorded certified r fault old new read (inr (inl is)) keeps = (Err (files_fault fault), rw is ((r, read), keeps), rw is refl)
uncertified recorded certified r fault old new read (inr (inr is)) keeps = (Err (files_fault fault), rw is keeps, rw is refl)

-- WHAT IS SAID OF TWO FILES
pub judged_files : (recording certificate : Option (List ℕ)) (answered : Result ℕ Fault) (out : Stream) → SaysOfBoth readings.Whole ChecksCertificate recording certificate answered out
    → Given recording (λ bytes. Given certificate (λ text. GivesCheck (recording_at LARGEST_RECORDING bytes) (certificate_at LARGEST_CERTIFICATE text) answered out.old out.new))
judged_files recording certificate answered out (bytes, has, inl (fault, why, is, keeps)) =
    (bytes, has, of_any _ certificate (λ text. rw is (unread _ (certificate_at LARGEST_CERTIFICATE text) fault out.old out.new why keeps)))
judged_files recording certificate answered out (bytes, has, inr (r, read, (text, has_text, inl (fault, why, is, keeps)))) =
    (bytes, has, (text, has_text, rw is (uncertified _ _ r fault out.old out.new read why keeps)))
judged_files recording certificate answered out (bytes, has, inr (r, read, (text, has_text, inr (steps, certified, judged)))) =
    (bytes, has, (text, has_text, rw (read, certified) judged))

-- the judgement for a status, and for a fault
pub judged_ok : (recorded : Recorded) (certified : Certified) (status : ℕ) (old new : Option (List ℕ)) → GivesCheck recorded certified (Ok status) old new
    → Judges recorded certified (Ok (status == 0)) old new
judged_ok recorded certified status old new (Ok true, judged, is) = let zero : status ≡ 0 = cc in rw zero judged
judged_ok recorded certified status old new (Ok false, judged, is) = let one : status ≡ 1 = cc in rw one judged
judged_ok recorded certified status old new (Err fault, judged, is) = absurd cc

files_back : (fault : FilesFault) → files_fault (of_files fault) ≡ fault
files_back (Recording fault) = refl
files_back (Certificate fault) = refl
files_back Write = refl
files_back Memory = refl

pub judged_err : (recorded : Recorded) (certified : Certified) (fault : Fault) (old new : Option (List ℕ)) → GivesCheck recorded certified (Err fault) old new
    → Judges recorded certified (Err (files_fault fault)) old new
judged_err recorded certified fault old new (Ok true, judged, is) = absurd cc
judged_err recorded certified fault old new (Ok false, judged, is) = absurd cc
judged_err recorded certified fault old new (Err why, judged, is) = let same : fault ≡ of_files why = cc in rw (same, files_back why) judged
