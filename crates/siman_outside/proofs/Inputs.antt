-- What was fetched of a reader, that what is made of it depends on no more, and what is said where there was a fault.
use Rattle.std.proofs.Common.{◌≡◌, ℕ, ◌<◌, List, [], Option, Some, None, nat_lt, IfSome, if◌then◌else◌, arith, refl, sym, subst, Result, Ok, Err}
use Rattle.std.proofs.lemmas.Bool.Decides.{nat_tests}
use Rattle.siman_outside.specs.Outside.{Has}
use Rattle.siman_outside.specs.Recorded.{Recorded}
use Rattle.byte_files.specs.Fields.{Fails}
use Rattle.exercise_recording.specs.declared.format_fault.RecordingFault.{RecordingFault}
use Rattle.exercise_recording.specs.Reading.{recording_at, format_of}
use Rattle.std.specs.Result.{IsErrAnd}

pub over : {X : Type 0} (m n : ℕ) (x y : X) → m < n → (if nat_lt m n then x else y) ≡ x
over m n x y h = grind (arith, nat_tests)

-- what is said of some bytes that a reader has
abbrev pub Said : (P : List ℕ → Type 0) → (known : Option (List ℕ)) → Type 0
Said P known = (bytes : List ℕ) × Has known bytes × P bytes

-- What is said of what was fetched is said of what the reader has.
pub of_recording : (limit : ℕ) (P : Recorded → Type 0) (known : Option (List ℕ)) (text : List ℕ)
    → IfSome known (λ bytes. recording_at limit text ≡ recording_at limit bytes) → P (recording_at limit text) → Said (λ bytes. P (recording_at limit bytes)) known
of_recording limit P None text same said = (text, tt, said)
of_recording limit P (Some bytes) text same said = (bytes, refl, subst P same said)

-- That is said whatever the reader has.
pub of_any : (P : List ℕ → Type 0) (known : Option (List ℕ)) → ((bytes : List ℕ) → P bytes) → Said P known
of_any P None said = ([], tt, said [])
of_any P (Some bytes) said = (bytes, refl, said bytes)

-- What follows of what is said.
pub so : (P Q : List ℕ → Type 0) (known : Option (List ℕ)) → ((bytes : List ℕ) → P bytes → Q bytes) → Said P known → Said Q known
so P Q known follows said = (said.0, said.1, follows said.0 said.2)

-- Where nothing was fetched, no fault of the format is told.
pub unfetched_recording : (fault : RecordingFault) (recorded : Recorded) → format_of fault ≡ None → Fails (format_of fault) recorded
unfetched_recording fault recorded none = rw none tt

pub at_fault : {X E : Type 0} (P : Result X E → Type 0) (fault : E) (result : Result X E) → IsErrAnd result (λ e. e ≡ fault) → P (Err fault) → P result
at_fault P fault (Ok x) passed holds = absurd passed
at_fault P fault (Err e) passed holds = subst (λ e. P (Err e)) (sym passed) holds
