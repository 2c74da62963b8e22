-- What is told of lines, one after the other.
use Rattle.std.proofs.Common.{◌≡◌, ◌≢◌, ℕ, suc, ◌+◌, ◌<◌, max, List, [], ◌∷◌, ◌++◌, length, take, Option, Some, None, Result, Ok, Err, refl, sym, ap, ◌∙◌, subst, inl, inr, arith, append_assoc, append-nil, length-append, length-take-le, take_all}
use Rattle.std.specs.Result.{IsErrAnd}
use Rattle.std.specs.List.{AllByRecursion}
use Rattle.std.specs.Io.KnownBytes.{Appends, Keeps, IsAtEnd}
use Rattle.std.proofs.KnownBytes.{Appends-trans, Appends-kept, Appends-nil, Keeps-refl}
use Rattle.std.proofs.lemmas.Bool.{cases_lt}
use Rattle.siman_file_commands.specs.declared.input.UnreadLine.{UnreadLine}
use Rattle.byte_files.specs.Writing.{WritesPart}
use Rattle.dis_records.specs.Header.{header_at}
use Rattle.siman_pdus.specs.declared.fault.PduFault.{PduFault}
use Rattle.siman_pdus.specs.declared.pdu.Pdu.{Pdu}
use Rattle.siman_pdus.specs.Reading.{pdu_from, refusal_of}
use Rattle.byte_files.specs.Text.{lines_of}
use Rattle.siman_file_commands.specs.declared.hex_text.TheConstants.{LONGEST_HEX}
use Rattle.siman_outside.specs.declared.fault.Fault.{Fault}
use Rattle.siman_outside.specs.declared.fault.Fault.TheVariants.{NotBytePairs, Output, Memory}
use Rattle.siman_file_commands.specs.declared.pdus.PdusFault.{PdusFault}
use Rattle.siman_file_commands.specs.declared.pdus.PdusFault.TheVariants as stops
use Rattle.siman_file_commands.specs.Answer.{not_byte_pairs, said_of_reading, said_of_bytes, said_of_hex, IsSaid}
use Rattle.siman_file_commands.specs.HexText.{bytes_of}
use Rattle.siman_outside.specs.Outside.{Has, Stream}
use Rattle.byte_files.proofs.LineReadings.{line_cut}
use Rattle.siman_file_commands.proofs.Readings.{result_of_line-some}
use Rattle.siman_outside.proofs.Offered.{over}
use Rattle.siman_file_commands.specs.Pdus.{LinesResult, untold, and_then, result_of_said, result_of_line, result_of, IsWritten, WritesTorn, StopsAfter, ShowsLines, PutsBadLine, ShowsLine}
use Rattle.byte_files.specs.Lines.{IsOneLine, ReadsLine, ReadsLines, HoldsLine}

-- ---- what is told

same_told : (s t : ℕ) (o p e f : List ℕ) → s ≡ t → o ≡ p → e ≡ f
    → record { status = s; out = o; errors = e } ≡ (let told : LinesResult = record { status = t; out = p; errors = f } in told)
same_told s t o p e f a b c = rw (a, b, c) refl

and_then-untold : (a : LinesResult) → and_then a untold ≡ and_then untold a
and_then-untold a = same_told _ _ _ _ _ _ (omega arith) (append-nil a.out) (append-nil a.errors)

and_then_assoc : (a b c : LinesResult) → and_then a (and_then b c) ≡ and_then (and_then a b) c
and_then_assoc a b c =
    same_told _ _ _ _ _ _ (omega arith) (sym (append_assoc a.out b.out c.out)) (sym (append_assoc a.errors b.errors c.errors))

-- what is told of one more line
pub result_of-push : (n : ℕ) (lines : List (List ℕ)) (line : List ℕ)
    → result_of n (lines ++ line ∷ []) ≡ and_then (result_of n lines) (result_of_line ((n + length lines) + 1) line)
unfolding result_of
result_of-push n [] line =
    let same : (n + 0) + 1 ≡ n + 1 = omega arith in
    and_then-untold (result_of_line (n + 1) line) ∙ ap (λ k. and_then untold (result_of_line k line)) (sym same)
result_of-push n (first ∷ lines) line =
    let same : ((n + 1) + length lines) + 1 ≡ (n + suc (length lines)) + 1 = omega arith in
    let head = result_of_line (n + 1) first in
    ap (and_then head) (result_of-push (n + 1) lines line)
    ∙ and_then_assoc head (result_of (n + 1) lines) (result_of_line (((n + 1) + length lines) + 1) line)
    ∙ ap (λ k. and_then (and_then head (result_of (n + 1) lines)) (result_of_line k line)) same

result_of-next : (lines : List (List ℕ)) (line : List ℕ) (n : ℕ) → n ≡ length lines + 1
    → result_of 0 (lines ++ line ∷ []) ≡ and_then (result_of 0 lines) (result_of_line n line)
result_of-next lines line n number =
    let same : (0 + length lines) + 1 ≡ n = omega arith in
    result_of-push 0 lines line ∙ ap (λ k. and_then (result_of 0 lines) (result_of_line k line)) same

pub result_of-none : result_of 0 [] ≡ untold
unfolding result_of
result_of-none = refl

-- too long a line is not byte pairs
said_of_hex-long : (line : List ℕ) → LONGEST_HEX < length line → said_of_hex line ≡ not_byte_pairs
said_of_hex-long line h = ap said_of_bytes (over LONGEST_HEX (length line) _ _ h)

-- The same is told of as much of a line as is held.
result_of_line-cut : (number : ℕ) (line : List ℕ) → result_of_line number (take (LONGEST_HEX + 1) line) ≡ result_of_line number line
result_of_line-cut number line = elim (cases_lt (length line) (LONGEST_HEX + 1)) [
  | inl h ↦ ap (result_of_line number) (take_all (LONGEST_HEX + 1) line (omega arith))
  | inr h ↦
      let front = take (LONGEST_HEX + 1) line in
      let long = length-take-le (LONGEST_HEX + 1) line h in
      let short = said_of_hex-long front (omega arith) in
      result_of_line-some number front (omega arith) ∙ ap (result_of_said number) (short ∙ sym (said_of_hex-long line (omega arith))) ∙ sym
      (result_of_line-some number line (omega arith))
]

-- ---- what is written

abbrev pub stream : (old new : Option (List ℕ)) → Stream
stream old new = record { old = old; new = new }

-- Behind the lines so far one more was told.
pub written-more : (lines : List (List ℕ)) (line : List ℕ) (n : ℕ) (o p q e f g : Option (List ℕ)) → n ≡ length lines + 1
    → IsWritten (result_of 0 lines) (stream o p) (stream e f) → IsWritten (result_of_line n line) (stream p q) (stream f g)
    → IsWritten (result_of 0 (lines ++ line ∷ [])) (stream o q) (stream e g)
written-more lines line n o p q e f g number before more =
    let whole : result_of 0 (lines ++ line ∷ []) ≡ and_then (result_of 0 lines) (result_of_line n line) =
    result_of-next lines line n number in
    subst (λ told. IsWritten told (stream o q) (stream e g)) (sym whole)
    (Appends-trans o p q _ _ before.0 more.0, Appends-trans e f g _ _ before.1 more.1)

pub worst-more : (lines : List (List ℕ)) (line : List ℕ) (n worst status : ℕ) → n ≡ length lines + 1 → worst ≡ (result_of 0 lines).status
    → status ≡ (result_of_line n line).status → max worst status ≡ (result_of 0 (lines ++ line ∷ [])).status
worst-more lines line n worst status number before more =
    let whole : result_of 0 (lines ++ line ∷ []) ≡ and_then (result_of 0 lines) (result_of_line n line) =
    result_of-next lines line n number in
    rw (before, more) (sym (ap (λ (told : LinesResult). told.status) whole))

-- nothing of no lines
pub written-none : (o e : Option (List ℕ)) → IsWritten (result_of 0 []) (stream o o) (stream e e)
written-none o e = subst (λ told. IsWritten told (stream o o) (stream e e)) (sym result_of-none) (Appends-nil o, Appends-nil e)

-- a prefix of a text behind another
torn-behind : (o p q : Option (List ℕ)) (text torn : List ℕ) → Appends o p text → WritesPart p q torn → WritesTorn (stream o q) text torn
torn-behind o p q text torn before part = (part.0, Appends-trans o p q text (take part.0 torn) before part.1)

-- It stopped in a line.
pub stops-in : (lines others : List (List ℕ)) (line : List ℕ) (n : ℕ) (stop : PdusFault) (o p q e f g : Option (List ℕ)) → n ≡ length lines + 1
    → IsWritten (result_of 0 lines) (stream o p) (stream e f) → ShowsLine (result_of_line n line) (Err stop) (stream p q) (stream f g)
    → StopsAfter lines (line ∷ others) stop (stream o q) (stream e g)
stops-in lines others line n (stops.Unreported failed) o p q e f g number before told = (
  Appends-kept o p q _ before.0 told.0,
  subst (λ k. WritesTorn (stream e g) (result_of 0 lines).errors (result_of_line k line).errors) number
      (torn-behind e f g _ _ before.1 told.1),
)
stops-in lines others line n (stops.Unread failed) o p q e f g number before told = absurd told
stops-in lines others line n (stops.Fault fault) o p q e f g number before (kept, inl short) =
    (Appends-kept e f g _ before.1 kept, inl (short.0, Appends-kept o p q _ before.0 short.1))
stops-in lines others line n (stops.Fault fault) o p q e f g number before (kept, inr failed) = (
  Appends-kept e f g _ before.1 kept,
  inr (
    failed.0,
    subst (λ k. WritesTorn (stream o q) (result_of 0 lines).out (result_of_line k line).out) number
        (torn-behind o p q _ _ before.0 failed.1),
  ),
)

-- ---- one line

-- what goes out of a line is what `pdu` would say
out_of_reading : (number : ℕ) (refusal : Option PduFault) (pdu : Pdu)
    → (result_of_said number (said_of_reading refusal pdu)).out ≡ (said_of_reading refusal pdu).text
out_of_reading number None pdu = refl
out_of_reading number (Some fault) pdu = refl

out_of_bytes : (number : ℕ) (bytes : Option (List ℕ)) → (result_of_said number (said_of_bytes bytes)).out ≡ (said_of_bytes bytes).text
out_of_bytes number None = refl
out_of_bytes number (Some b) = out_of_reading number (refusal_of b) (pdu_from (header_at b) b)

out_of_line : (number : ℕ) (line : List ℕ) → 0 < length line → (result_of_line number line).out ≡ (said_of_hex line).text
out_of_line number line some = ap (λ (told : LinesResult). told.out) (result_of_line-some number line some) ∙ out_of_bytes number (bytes_of line)

-- a bad line
pub line-bad : (number : ℕ) (line : List ℕ) (result : Result ℕ PdusFault) (o p e f : Option (List ℕ)) → 0 < length line → said_of_hex line ≡ not_byte_pairs
    → Keeps o p → PutsBadLine number result (stream e f) → ShowsLine (result_of_line number line) result (stream o p) (stream e f)
line-bad number line (Ok status) o p e f some bad kept told =
    let same = result_of_line-some number line some ∙ ap (result_of_said number) bad in
    subst (λ (t : LinesResult). ShowsLine t (Ok status) (stream o p) (stream e f)) (sym same) (told.0, (Appends-kept o o p [] (Appends-nil o) kept, told.1))
line-bad number line (Err (stops.Unreported failed)) o p e f some bad kept told =
    let same = result_of_line-some number line some ∙ ap (result_of_said number) bad in
    subst (λ (t : LinesResult). ShowsLine t (Err (stops.Unreported failed)) (stream o p) (stream e f)) (sym same) (kept, told)
line-bad number line (Err (stops.Unread failed)) o p e f some bad kept told = absurd told
line-bad number line (Err (stops.Fault fault)) o p e f some bad kept told = absurd told

-- a line that was not told whole
pub line-stopped : (number : ℕ) (line : List ℕ) (fault : Fault) (o p e : Option (List ℕ)) → 0 < length line → IsSaid (said_of_hex line) (Err fault) o p
    → fault ≢ NotBytePairs → ShowsLine (result_of_line number line) (Err (stops.Fault fault)) (stream o p) (stream e e)
line-stopped number line NotBytePairs o p e some said other = absurd (other refl)
line-stopped number line Output o p e some said other =
    (Keeps-refl e, inr (refl, subst (WritesPart o p) (sym (out_of_line number line some)) said))
line-stopped number line Memory o p e some said other = (Keeps-refl e, inl (refl, said))
line-stopped number line rest o p e some said other = absurd said

-- ---- what is read

pub reads-none : (a : Option (List ℕ)) → ReadsLines a a []
reads-none None = tt
reads-none (Some bytes) = refl

all_more : (lines : List (List ℕ)) (line : List ℕ) → AllByRecursion IsOneLine lines → IsOneLine line → AllByRecursion IsOneLine (lines ++ line ∷ [])
all_more [] line all one = (one, tt)
all_more (first ∷ lines) line all one = (all.0, all_more lines line all.1 one)

pub reads-more : (a b c : Option (List ℕ)) (lines : List (List ℕ)) (line : List ℕ) → ReadsLines a b lines → IsOneLine line → ReadsLine b c line
    → ReadsLines a c (lines ++ line ∷ [])
reads-more None b c lines line before one next = all_more lines line before one
reads-more (Some x) None c lines line before one next = absurd before
reads-more (Some x) (Some y) None lines line before one next = absurd next
reads-more (Some x) (Some y) (Some z) lines line before one next =
    before ∙ ap (λ ls. lines ++ ls) next ∙ sym (append_assoc lines (line ∷ []) (lines_of z))

-- a text of these lines
text_of : List (List ℕ) → List ℕ
text_of [] = []
text_of (line ∷ lines) = line ++ 10 ∷ text_of lines

lines_of-text : (lines : List (List ℕ)) → AllByRecursion IsOneLine lines → lines_of (text_of lines) ≡ lines
unfolding text_of
lines_of-text [] all = refl
lines_of-text (line ∷ lines) all = line_cut line (text_of lines) all.0 ∙ ap (λ ls. line ∷ ls) (lines_of-text lines all.1)

-- bytes that the input has, of which these lines were read; the others are left
lines_left : (a b : Option (List ℕ)) (lines : List (List ℕ)) → ReadsLines a b lines → (bytes : List ℕ) × Has a bytes × ((rest : List (List ℕ)) × (lines_of bytes ≡ lines ++ rest))
lines_left None b lines read = (text_of lines, tt, ([], lines_of-text lines read ∙ sym (append-nil lines)))
lines_left (Some x) None lines read = absurd read
lines_left (Some x) (Some y) lines read = (x, refl, (lines_of y, read))

-- All lines were told.
all_lines : (a b : Option (List ℕ)) (lines : List (List ℕ)) → ReadsLines a b lines → IsAtEnd b → (bytes : List ℕ) × Has a bytes × (lines_of bytes ≡ lines)
all_lines None b lines read end = (text_of lines, tt, lines_of-text lines read)
all_lines (Some x) None lines read end = absurd read
all_lines (Some x) (Some y) lines read end = (x, refl, read ∙ ap (λ bytes. lines ++ lines_of bytes) end ∙ append-nil lines)

-- what is told of the lines of an input
abbrev pub ShowsInput : (known : Option (List ℕ)) → Result ℕ PdusFault → (out errors : Stream) → Type 0
ShowsInput known result out errors = (bytes : List ℕ) × Has known bytes × ShowsLines (lines_of bytes) result out errors

-- It stopped between two lines.
stopped-between : (a b : Option (List ℕ)) (lines : List (List ℕ)) (stop : PdusFault) (out errors : Stream) → ReadsLines a b lines
    → ((rest : List (List ℕ)) → StopsAfter lines rest stop out errors) → ShowsInput a (Err stop) out errors
stopped-between a b lines stop out errors read stops =
    let left = lines_left a b lines read in
    (left.0, left.1, (lines, left.2.0, left.2.1, stops left.2.0))

-- ---- the lines so far

-- These lines were read and told, and their number and worst status kept.
pub record ShownSoFar (a b o p e f : Option (List ℕ)) (number worst : ℕ) : Type 0 where
  pub lines : List (List ℕ)
  pub count : number ≡ length lines + 1
  pub status : worst ≡ (result_of 0 lines).status
  pub written : IsWritten (result_of 0 lines) (stream o p) (stream e f)
  pub read : ReadsLines a b lines

pub told-none : (a o e : Option (List ℕ)) → ShownSoFar a a o o e e 1 0
told-none a o e = record {
  lines = [];
  count = refl;
  status = sym (ap (λ (told : LinesResult). told.status) result_of-none);
  written = written-none o e;
  read = reads-none a;
}

-- what is told of as much of a line as is held is what is to be told of the line
told-held : {b c : Option (List ℕ)} {buffer : List ℕ} {held : ℕ} (number : ℕ) (size : length buffer ≡ LONGEST_HEX + 1) (holds : HoldsLine b c buffer held)
    → result_of_line number (take held buffer) ≡ result_of_line number holds.line
told-held {buffer = buffer} number size holds = ap (result_of_line number) (holds.front ∙ ap (λ n. take n holds.line) size) ∙ result_of_line-cut number holds.line

-- one more line was read, and told
pub told-more : {a b c o p q e f g : Option (List ℕ)} {number worst status worse held : ℕ} {buffer : List ℕ} → ShownSoFar a b o p e f number worst
    → length buffer ≡ LONGEST_HEX + 1 → HoldsLine b c buffer held → worse ≡ max worst status
    → ShowsLine (result_of_line number (take held buffer)) (Ok status) (stream p q) (stream f g) → ShownSoFar a c o q e g (number + 1) worse
told-more {a} {b} {c} {o} {p} {q} {e} {f} {g} {number} {worst} {status} before size holds worsen told =
    let longer = length-append before.lines (holds.line ∷ []) in
    let line = rw (told-held number size holds) at told in
    record {
      lines = before.lines ++ holds.line ∷ [];
      count = (let one = before.count in omega arith);
      status = worsen ∙ worst-more before.lines holds.line number worst status before.count before.status line.0;
      written = written-more before.lines holds.line number o p q e f g before.count before.written line.1;
      read = reads-more a b c before.lines holds.line before.read holds.one holds.read;
    }

-- there are no more
pub told-all : {a b o p e f : Option (List ℕ)} {number worst : ℕ} → ShownSoFar a b o p e f number worst → IsAtEnd b
    → ShowsInput a (Ok worst) (stream o p) (stream e f)
told-all {a} {b} {o} {p} {e} {f} {number} {worst} before end =
    let all = all_lines a b before.lines before.read end in
    (all.0, all.1, subst (λ (lines : List (List ℕ)). ShowsLines lines (Ok worst) (stream o p) (stream e f)) (sym all.2) (before.status, before.written))

-- a read failed
pub told-unread : {a b o p e f : Option (List ℕ)} {number worst : ℕ} (failed : UnreadLine) → ShownSoFar a b o p e f number worst
    → ShowsInput a (Err (stops.Unread failed)) (stream o p) (stream e f)
told-unread {a} {b} {o} {p} {e} {f} failed before =
    stopped-between a b before.lines (stops.Unread failed) (stream o p) (stream e f) before.read (λ rest. before.written)

-- it stopped in a line
pub told-short : {a b c o p e f : Option (List ℕ)} {number worst held : ℕ} {buffer : List ℕ} (q g : Option (List ℕ)) (stop : PdusFault) → ShownSoFar a b o p e f number worst
    → length buffer ≡ LONGEST_HEX + 1 → HoldsLine b c buffer held
    → ShowsLine (result_of_line number (take held buffer)) (Err stop) (stream p q) (stream f g) → ShowsInput a (Err stop) (stream o q) (stream e g)
told-short {a} {b} {c} {o} {p} {e} {f} {number} q g stop before size holds told =
    let lines = before.lines in
    let line = holds.line in
    let left = lines_left a c (lines ++ line ∷ []) (reads-more a b c lines line before.read holds.one holds.read) in
    let of_line = subst (λ (t : LinesResult). ShowsLine t (Err stop) (stream p q) (stream f g)) (told-held number size holds) told in
    let torn = stops-in lines left.2.0 line number stop o p q e f g before.count before.written of_line in
    (left.0, left.1, (lines, line ∷ left.2.0, left.2.1 ∙ append_assoc lines (line ∷ []) left.2.0, torn))

-- of a line of the same number
pub at_number : (n m : ℕ) (line : List ℕ) (result : Result ℕ PdusFault) (out errors : Stream) → n ≡ m → ShowsLine (result_of_line n line) result out errors
    → ShowsLine (result_of_line m line) result out errors
at_number n m line result out errors same told = subst (λ (k : ℕ). ShowsLine (result_of_line k line) result out errors) same told

-- what was passed on is told
pub passed_on : (known : Option (List ℕ)) (stop : PdusFault) (result : Result ℕ PdusFault) (out errors : Stream) → IsErrAnd result (λ e. e ≡ stop)
    → ShowsInput known (Err stop) out errors → ShowsInput known result out errors
passed_on known stop (Ok status) out errors passed told = absurd passed
passed_on known stop (Err e) out errors passed told = rw passed told

-- there was no memory to begin
pub told-nothing : (known : Option (List ℕ)) (result : Result ℕ PdusFault) (o e : Option (List ℕ)) → IsErrAnd result (λ s. s ≡ stops.Fault Memory)
    → ShowsInput known result (stream o o) (stream e e)
told-nothing known result o e passed =
    let none = written-none o e in
    passed_on known (stops.Fault Memory) result (stream o o) (stream e e) passed
    (stopped-between known known [] (stops.Fault Memory) (stream o o) (stream e e) (reads-none known) (λ rest. (none.1, inl (refl, none.0))))
