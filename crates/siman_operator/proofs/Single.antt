-- The entries that are written whole are known by what is written.
use Rattle.std.proofs.Common.{◌≡◌, ℕ, ◌≤◌, List, [], ◌++◌, length, ap, sym, ◌∙◌, subst, arith, append-nil}
use Rattle.std.specs.Prelude.{Bool, false, Option, Some, None, Result, Ok}
use Rattle.std.specs.Io.KnownBytes.{Appends}
use Rattle.std.specs.List.{flat_map}
use Rattle.std.proofs.lemmas.List.{append_cancel_left}
use Rattle.exercise_model.specs.Entry.{Entry}
use Rattle.exercise_model.specs.Recording.{PlainRecording, IsRecording}
use Rattle.exercise_recording.specs.Reading.{recording_at}
use Rattle.exercise_recording.specs.Text.{head_text, entry_text, end_text, recording_text}
use Rattle.exercise_recording.specs.Writer.{WriterState}
use Rattle.siman_lines.specs.KeptAtLine.{IsTail, IsWritten}

-- the text of each recording is read as it
abbrev pub IsReadAgain : Type 0
IsReadAgain = (limit : ℕ) (r : PlainRecording) → IsRecording r → length (recording_text r) ≤ limit → recording_at limit (recording_text r) ≡ Ok r

known : (before : List ℕ) (o : Option (List ℕ)) (t : List ℕ) → Appends (Some before) o t → o ≡ Some (before ++ t)
known before None t out = absurd out
known before (Some c) t out = ap Some out

inside : (x y : List ℕ) → Some x ≡ Some y → x ≡ y
inside x y e = cc

no_tail : (before : List ℕ) (w : WriterState) (es : List Entry) → w.spent ≡ false → (is : IsWritten (Some before) w es)
    → head_text w.setting ++ flat_map entry_text es ++ is.torn ≡ head_text w.setting ++ flat_map entry_text es
no_tail before w es fresh is =
    let none : is.torn ≡ [] = subst (λ (b : Bool). IsTail b w.setting es is.torn) fresh is.tail in
    ap (λ (t : List ℕ). head_text w.setting ++ flat_map entry_text es ++ t) none ∙ append-nil (head_text w.setting ++ flat_map entry_text es)

same_text : (before : List ℕ) (w : WriterState) (es fs : List Entry) → w.spent ≡ false → IsWritten (Some before) w es → IsWritten (Some before) w fs
    → recording_text (record { setting = w.setting; entries = es }) ≡ recording_text (record { setting = w.setting; entries = fs })
same_text before w es fs fresh one two =
    let both = sym (known before w.contents _ one.contents) ∙ known before w.contents _ two.contents in
    let parts = append_cancel_left before _ _ (inside _ _ both) in
    let texts = sym (no_tail before w es fresh one) ∙ (parts ∙ no_tail before w fs fresh two) in
    ap (λ (t : List ℕ). t ++ end_text (length es)) texts
    ∙ ap (λ (n : ℕ). head_text w.setting ++ flat_map entry_text fs ++ end_text n) (sym one.count ∙ two.count)

read_as : {E : Type 0} (x y : PlainRecording) (m : Result PlainRecording E) → m ≡ Ok x → m ≡ Ok y → x ≡ y
read_as x y m p q = cc

pub single : IsReadAgain → (before : List ℕ) (w : WriterState) (es fs : List Entry) → w.spent ≡ false → IsWritten (Some before) w es → IsWritten (Some before) w fs
    → es ≡ fs
single again before w es fs fresh one two =
    let r : PlainRecording = record { setting = w.setting; entries = es } in
    let s : PlainRecording = record { setting = w.setting; entries = fs } in
    let same : recording_text r ≡ recording_text s = same_text before w es fs fresh one two in
    let first = again (length (recording_text r)) r one.recording (omega arith) in
    let second = again (length (recording_text r)) s two.recording (omega (arith, ap length same)) in
    ap (λ (x : PlainRecording). x.entries) (read_as r s (recording_at (length (recording_text r)) (recording_text r)) first
    (ap (recording_at (length (recording_text r))) same ∙ second))
