-- The texts of a certificate's faults, and of its first bad step (profile).
use Rattle.std.specs.Prelude.{ℕ, List, ◌++◌, codes, decimal}
use Rattle.exercise_model.specs.declared.cause.Cause.{Cause}
use Rattle.exercise_model.specs.Numbers.{cause_number, cause_text}
use Rattle.exercise_check.specs.declared.checker.CheckFault.{CheckFault}
use Rattle.exercise_check.specs.declared.checker.CheckFault.TheVariants.{Bad, Memory as OutOfMemory}
use Rattle.exercise_check.specs.declared.certificate_fault.CertificateFormatFault.{CertificateFormatFault}
use Rattle.exercise_check.specs.declared.certificate_fault.CertificateFormatFault.TheVariants.{Magic, Truncated, Trailing, OverLimit}
use Rattle.exercise_check.specs.declared.certificate_fault.CertificateFault.{CertificateFault}
use Rattle.exercise_check.specs.declared.certificate_fault.CertificateFault.TheVariants.{Format, Read, Memory}

-- name of a fault of the format
abbrev pub name_of : CertificateFormatFault → List ℕ
name_of (Magic n) = codes "magic"
name_of (Truncated n) = codes "truncated"
name_of (Trailing n) = codes "trailing"
name_of (OverLimit n) = codes "over-limit"

-- offset of a fault in bytes
abbrev pub place_of : CertificateFormatFault → ℕ
place_of (Magic n) = n
place_of (Truncated n) = n
place_of (Trailing n) = n
place_of (OverLimit n) = n

-- text of a fault of the format: NAME at OFFSET
abbrev pub format_fault_text : CertificateFormatFault → List ℕ
format_fault_text f = name_of f ++ codes " at " ++ decimal (place_of f)

-- text of a fault of reading a certificate
abbrev pub certificate_fault_text : CertificateFault → List ℕ
certificate_fault_text (Format f) = format_fault_text f
certificate_fault_text Read = codes "read"
certificate_fault_text Memory = codes "memory"

-- text of the first bad step of a certificate and its cause: no step=N cause=N NAME
abbrev pub no_text : ℕ → Cause → List ℕ
no_text step cause = codes "no step=" ++ decimal step ++ codes " cause=" ++ decimal (cause_number cause) ++ codes " " ++ cause_text cause

-- text of a fault of checking a certificate
abbrev pub check_fault_text : CheckFault → List ℕ
check_fault_text (Bad step cause) = no_text step cause
check_fault_text OutOfMemory = codes "memory"
