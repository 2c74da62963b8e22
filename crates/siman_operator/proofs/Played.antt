-- The lines of a text that a post took so far.
use Rattle.std.proofs.Common.{◌≡◌, ℕ, ◌+◌, ◌<◌, ◌≤◌, max, List, [], ◌∷◌, ◌++◌, length, take, refl, sym, ap, ◌∙◌, subst, arith, append_assoc, append-nil, take_all}
use Rattle.std.proofs.lemmas.List.{length-take}
use Rattle.std.specs.Prelude.{Bool, Option, Some, None, Ok, Err, true, false}
use Rattle.std.specs.Io.KnownBytes.{Keeps}
use Rattle.std.proofs.KnownBytes.{Appends-nil, Appends-kept}
use Rattle.dis_records.specs.declared.address.SiteApplication.{SiteApplication}
use Rattle.byte_files.specs.Writing.{Writes, WritesPart}
use Rattle.byte_files.proofs.Offered.{writes_part, writes_then}
use Rattle.siman_lines.specs.AtLines.{Telling}
use Rattle.siman_operator.specs.declared.tracing_line.TracingLine.{TracingLine}
use Rattle.siman_operator.specs.Deeds.{PostData, at_time, ticks_at}
use Rattle.siman_operator.specs.Posts.{TakesLine, is_over}
use Rattle.siman_scripts.specs.declared.command.Command.{Command}
use Rattle.siman_operator.specs.declared.reading.TheConstants.{LONGEST_LINE}
use Rattle.siman_operator.specs.declared.came.Came.{Came}
use Rattle.siman_operator.specs.declared.playing.Stop.TheVariants as stops
use Rattle.siman_operator.specs.declared.session_report.SessionReport.{SessionReport}
use Rattle.siman_operator.specs.Came.{status_of, result_of}
use Rattle.byte_files.specs.Lines.{ReadsLines, HoldsLine, AreFirstLines}
use Rattle.siman_operator.specs.declared.coming.Coming.{Coming}
use Rattle.siman_operator.specs.declared.coming.Coming.TheVariants as comings
use Rattle.siman_operator.specs.Coming.{HasBegun, Comes, GoesOnBy, size_of, number_by, is_tick}
use Rattle.siman_operator.proofs.Begun.{nothing_begun}
use Rattle.siman_operator.specs.Reading.{said_by}
use Rattle.siman_operator.specs.Reason.{Reasons}
use Rattle.siman_operator.specs.Receiver.{WarnsOf}
use Rattle.siman_operator.specs.Sessions.{Taken, print_stop_at, command_taken, TakesOne, TakesAll, line_of, lines_in, number_after, told_from, worst_of, MayGoOn, quit_line, PlaysLines}
use Rattle.siman_operator.specs.Told.{Wrote, WritesMore}
use Rattle.siman_operator.proofs.Reasons.{reasons_held}
use Rattle.siman_operator.proofs.SessionLines.{reads-none, reads-more, all_lines, first_lines, said_by-held}

-- ---- one line more

part_kept : (a b c : Option (List ℕ)) (s : List ℕ) → WritesPart a b s → Keeps b c → WritesPart a c s
part_kept a b c s part kept = (part.0, Appends-kept a b c _ part.1 kept)

pub tells_then : (w v : Wrote) (a b c : Option (List ℕ)) (s t : List ℕ) → Writes w a b s → WritesMore w v b c t → Writes v a c (s ++ t)
tells_then (Ok x) v a b c s t first more = writes_then v a b c s t first more
tells_then (Err failed) (Ok x) a b c s t first more = absurd cc
tells_then (Err failed) (Err e) a b c s t first more = writes_part a c s t (part_kept a b c s first more.1)

-- how many lines of the text were taken
abbrev numbers_after : (number : ℕ) → List Taken → ℕ
numbers_after n [] = n
numbers_after n (t ∷ ts) = numbers_after (number_after n t) ts

numbers_after-push : (n : ℕ) (ts : List Taken) (t : Taken) → numbers_after n (ts ++ t ∷ []) ≡ number_after (numbers_after n ts) t
numbers_after-push n [] t = refl
numbers_after-push n (u ∷ us) t = numbers_after-push (number_after n u) us t

told_from-push : (n : ℕ) (ts : List Taken) (t : Taken) → told_from n (ts ++ t ∷ []) ≡ told_from n ts ++ result_of (number_after (numbers_after n ts) t) t.came
told_from-push n [] t = append-nil (result_of (number_after n t) t.came)
told_from-push n (u ∷ us) t =
    let m = number_after n u in
    ap (λ (l : List ℕ). result_of m u.came ++ l) (told_from-push m us t)
    ∙ sym (append_assoc (result_of m u.came) (told_from m us) (result_of (number_after (numbers_after m us) t) t.came))

pub worst_of-push : (ts : List Taken) (t : Taken) → worst_of (ts ++ t ∷ []) ≡ max (worst_of ts) (status_of t.came)
worst_of-push [] t = omega arith
worst_of-push (u ∷ us) t = let more = worst_of-push us t in omega (arith, more)

lines_in-push : (ts : List Taken) (t : Taken) → lines_in (ts ++ t ∷ []) ≡ lines_in ts ++ line_of t
lines_in-push [] t = append-nil (line_of t)
lines_in-push (u ∷ us) t =
    ap (λ (ls : List (List ℕ)). line_of u ++ ls) (lines_in-push us t) ∙ sym (append_assoc (line_of u) (lines_in us) (line_of t))

takes-push : {L : Type 0} (stations : List SiteApplication) (told : Telling (TracingLine L)) (ts : List Taken) (t : Taken) (a b c : PostData L) → TakesAll stations told ts a b → TakesOne stations told t b c
    → TakesAll stations told (ts ++ t ∷ []) a c
takes-push stations told [] t a b c before one = (c, subst (λ x. TakesOne stations told t x c) before one, refl)
takes-push stations told (u ∷ us) t a b c before one = (before.0, before.1, takes-push stations told us t before.0 b c before.2 one)

goes-push : (ts : List Taken) (t : Taken) → MayGoOn ts → is_over t.came.line ≡ false → MayGoOn (ts ++ t ∷ [])
goes-push [] t all one = (one, tt)
goes-push (u ∷ us) t all one = (all.0, goes-push us t all.1 one)

-- ---- the lines so far

-- These were taken, and told with their worst status; the lines among them were read.
pub record SoFar {L : Type 0} (stations : List SiteApplication) (told : Telling (TracingLine L)) (a b : Option (List ℕ)) (old now : PostData L) (e f : Option (List ℕ)) (number : ℕ) (so : SessionReport) : Type 0 where
  pub taken : List Taken
  pub count : number ≡ numbers_after 0 taken
  pub takes : TakesAll stations told taken old now
  pub read : ReadsLines a b (lines_in taken)
  pub status : so.status ≡ worst_of taken
  pub tells : Writes so.written e f (told_from 0 taken)

nothing_told : (so : SessionReport) (e : Option (List ℕ)) → so ≡ record { status = 0; written = Ok tt } → Writes so.written e e []
nothing_told so e none = subst (λ (s : SessionReport). Writes s.written e e []) (sym none) (Appends-nil e)

-- and a further one may be taken after each of them
abbrev pub OnSoFar : {L : Type 0} → (stations : List SiteApplication) → Telling (TracingLine L) → (a b : Option (List ℕ)) → (old now : PostData L) → (e f : Option (List ℕ)) → (number : ℕ) → SessionReport → Type 0
OnSoFar stations told a b old now e f number so = (before : SoFar stations told a b old now e f number so) × MayGoOn before.taken

pub none_played : {L : Type 0} (stations : List SiteApplication) (told : Telling (TracingLine L)) (a : Option (List ℕ)) (old : PostData L) (e : Option (List ℕ)) (so : SessionReport)
    → so ≡ record { status = 0; written = Ok tt } → OnSoFar stations told a a old old e e 0 so
none_played stations told a old e so none = (
  record {
    taken = [];
    count = refl;
    takes = refl;
    read = reads-none a;
    status = ap (λ (s : SessionReport). s.status) none;
    tells = nothing_told so e none;
  },
  tt,
)

-- one more was taken
one_more : {L : Type 0} {stations : List SiteApplication} {told : Telling (TracingLine L)} {a b : Option (List ℕ)} {old now new : PostData L} {e f g : Option (List ℕ)} {number : ℕ} {so after : SessionReport}
    → (c : Option (List ℕ)) (t : Taken) (next : ℕ) (before : SoFar stations told a b old now e f number so) → next ≡ number_after number t → ReadsLines a c (lines_in before.taken ++ line_of t)
    → TakesOne stations told t now new → after.status ≡ max so.status (status_of t.came)
    → WritesMore so.written after.written f g (result_of next t.came) → SoFar stations told a c old new e g next after
one_more {L} {stations} {told} {a} {b} {old} {now} {new} {e} {f} {g} {number} {so} {after} c t next before is read takes status tells = record {
  taken = before.taken ++ t ∷ [];
  count = is ∙ ap (λ (n : ℕ). number_after n t) before.count ∙ sym (numbers_after-push 0 before.taken t);
  takes = takes-push stations told before.taken t old now new before.takes takes;
  read = subst (ReadsLines a c) (sym (lines_in-push before.taken t)) read;
  status = status ∙ ap (λ (s : ℕ). max s (status_of t.came)) before.status ∙ sym (worst_of-push before.taken t);
  tells = subst (Writes after.written e g) (sym (told_from-push 0 before.taken t))
      (tells_then so.written after.written e f g (told_from 0 before.taken) (result_of (number_after (numbers_after 0 before.taken) t) t.came) before.tells
      (subst (λ (n : ℕ). WritesMore so.written after.written f g (result_of n t.came)) (is ∙ ap (λ (n : ℕ). number_after n t) before.count) tells));
}

-- what comes, and by what the line goes on
pub record Arrives (b c : Option (List ℕ)) (buffer : List ℕ) (held : ℕ) (coming : Coming) : Type 0 where
  pub comes : Comes b c buffer held coming

pub record Steps (b c : Option (List ℕ)) (buffer buffer_after : List ℕ) (held held_after : ℕ) (coming : Coming) : Type 0 where
  pub goes : GoesOnBy b c buffer buffer_after held held_after (Some coming)

-- what is taken of what comes
abbrev pub taken_by : {b c : Option (List ℕ)} {buffer : List ℕ} {held : ℕ} → {coming : Coming} → Arrives b c buffer held coming → (time : ℕ) → Came → Taken
taken_by {coming = comings.Tick} at time came = record { line = []; typed = false; ticks = true; time = time; came = came }
taken_by {coming = comings.Datagrams} at time came = record { line = []; typed = false; ticks = false; time = time; came = came }
taken_by {coming = comings.Line size} at time came = record { line = at.comes.0.line; typed = true; ticks = false; time = time; came = came }
taken_by {coming = comings.End} at time came = record { line = []; typed = false; ticks = false; time = time; came = came }

-- as far as the text was read
abbrev rest_by : (b c : Option (List ℕ)) → Coming → Option (List ℕ)
rest_by b c comings.Tick = b
rest_by b c comings.Datagrams = b
rest_by b c (comings.Line size) = c
rest_by b c comings.End = b

read_by : {b c : Option (List ℕ)} {buffer : List ℕ} {held : ℕ} {coming : Coming} (a : Option (List ℕ)) (lines : List (List ℕ)) (at : Arrives b c buffer held coming) (time : ℕ) (came : Came)
    → ReadsLines a b lines → ReadsLines a (rest_by b c coming) (lines ++ line_of (taken_by at time came))
read_by {b} {coming = comings.Tick} a lines at time came read = subst (ReadsLines a b) (sym (append-nil lines)) read
read_by {b} {coming = comings.Datagrams} a lines at time came read = subst (ReadsLines a b) (sym (append-nil lines)) read
read_by {b} {c} {coming = comings.Line size} a lines at time came read = reads-more a b c lines at.comes.0.line read at.comes.0.one at.comes.0.read
read_by {b} {coming = comings.End} a lines at time came read = subst (ReadsLines a b) (sym (append-nil lines)) read

begun_by : {b c : Option (List ℕ)} {buffer : List ℕ} {held : ℕ} {coming : Coming} {size : ℕ} → size_of coming ≡ Some size → Arrives b c buffer held coming
    → HasBegun (rest_by b c coming) c buffer held
begun_by {coming = comings.Tick} is at = at.comes
begun_by {coming = comings.Datagrams} is at = at.comes
begun_by {c = c} {buffer = buffer} {coming = comings.Line size} is at = subst (λ (n : ℕ). HasBegun c c buffer n) (sym at.comes.1) (nothing_begun c buffer)
begun_by {coming = comings.End} is at = absurd cc

number_is : {b c : Option (List ℕ)} {buffer : List ℕ} {held : ℕ} {coming : Coming} (number : ℕ) (at : Arrives b c buffer held coming) (time : ℕ) (came : Came)
    → number_by number coming ≡ number_after number (taken_by at time came)
number_is {coming = comings.Tick} number at time came = refl
number_is {coming = comings.Datagrams} number at time came = refl
number_is {coming = comings.Line size} number at time came = refl
number_is {coming = comings.End} number at time came = refl

came_is : {b c : Option (List ℕ)} {buffer : List ℕ} {held : ℕ} {coming : Coming} (at : Arrives b c buffer held coming) (time : ℕ) (came : Came) → (taken_by at time came).came ≡ came
came_is {coming = comings.Tick} at time came = refl
came_is {coming = comings.Datagrams} at time came = refl
came_is {coming = comings.Line size} at time came = refl
came_is {coming = comings.End} at time came = refl

-- WHAT WAS TAKEN of so much as is held
pub record TakesHeld {L : Type 0} (stations : List SiteApplication) (told : Telling (TracingLine L)) (line : List ℕ) (ticks : Bool) (time : ℕ) (came : Came) (old new : PostData L) : Type 0 where
  pub ticked : ticks ≡ ticks_at old
  pub takes : TakesLine told (command_taken old.address ticks line) (at_time time old) new came.line
  pub print_stop : came.print_stop ≡ print_stop_at old.fault new.fault
  pub site : came.site ≡ old.address.site
  pub application : came.application ≡ old.address.application
  pub reason : Reasons line came.line.done came.reason
  pub nobody : WarnsOf stations (said_by line) came.line.done came.nobody

-- nothing is held of what is no line
takes_none : {L : Type 0} {stations : List SiteApplication} {told : Telling (TracingLine L)} {old new : PostData L} {ticks : Bool} {time : ℕ} {came : Came}
    → TakesHeld stations told [] ticks time came old new → TakesOne stations told (record { line = []; typed = false; ticks = ticks; time = time; came = came }) old new
takes_none its = record {
  untyped = λ e. refl;
  own = λ e. refl;
  ticks = its.ticked;
  takes = its.takes;
  print_stop = its.print_stop;
  site = its.site;
  application = its.application;
  reason = its.reason;
  nobody = its.nobody;
}

-- a line of which as much was taken as is held was taken
takes_line : {L : Type 0} {stations : List SiteApplication} {told : Telling (TracingLine L)} {b c : Option (List ℕ)} {old new : PostData L} {buffer : List ℕ} {held time : ℕ} {came : Came}
    → length buffer ≡ LONGEST_LINE + 1 → (holds : HoldsLine b c buffer held) → TakesHeld stations told (take held buffer) false time came old new
    → TakesOne stations told (record { line = holds.line; typed = true; ticks = false; time = time; came = came }) old new
takes_line {stations = stations} {told = told} {old = old} {new = new} {time = time} {came = came} size holds takes = record {
  untyped = λ e. absurd cc;
  own = λ e. absurd cc;
  ticks = takes.ticked;
  takes = subst (λ (said : Option Command). TakesLine told said (at_time time old) new came.line) (said_by-held size holds) takes.takes;
  print_stop = takes.print_stop;
  site = takes.site;
  application = takes.application;
  reason = reasons_held came.line.done came.reason size holds takes.reason;
  nobody = subst (λ (said : Option Command). WarnsOf stations said came.line.done came.nobody) (said_by-held size holds) takes.nobody;
}

takes_by : {L : Type 0} {stations : List SiteApplication} {told : Telling (TracingLine L)} {b c : Option (List ℕ)} {old new : PostData L} {buffer : List ℕ} {held : ℕ} {coming : Coming} {size time : ℕ} {came : Came}
    → size_of coming ≡ Some size → length buffer ≡ LONGEST_LINE + 1 → (at : Arrives b c buffer held coming) → TakesHeld stations told (take size buffer) (is_tick coming) time came old new
    → TakesOne stations told (taken_by at time came) old new
takes_by {stations = stations} {told = told} {old = old} {new = new} {buffer = buffer} {coming = comings.Tick} {size = size} {time = time} {came = came} is fits at takes =
    let none : size ≡ 0 = cc in
    takes_none (subst (λ (n : ℕ). TakesHeld stations told (take n buffer) true time came old new) none takes)
takes_by {stations = stations} {told = told} {old = old} {new = new} {buffer = buffer} {coming = comings.Datagrams} {size = size} {time = time} {came = came} is fits at takes =
    let none : size ≡ 0 = cc in
    takes_none (subst (λ (n : ℕ). TakesHeld stations told (take n buffer) false time came old new) none takes)
takes_by {stations = stations} {told = told} {old = old} {new = new} {buffer = buffer} {coming = comings.Line n} {size = size} {time = time} {came = came} is fits at takes =
    let same : size ≡ n = cc in
    takes_line fits at.comes.0 (subst (λ (n : ℕ). TakesHeld stations told (take n buffer) false time came old new) same takes)
takes_by {coming = comings.End} is fits at takes = absurd cc

-- one more step was taken
stepped : {L : Type 0} {stations : List SiteApplication} {told : Telling (TracingLine L)} {a b c : Option (List ℕ)} {old now new : PostData L} {e f g : Option (List ℕ)} {number : ℕ} {so after : SessionReport}
    {buffer : List ℕ} {held : ℕ} {coming : Coming} {size next time : ℕ} {came : Came} → (before : SoFar stations told a b old now e f number so) → (at : Arrives b c buffer held coming)
    → size_of coming ≡ Some size → next ≡ number_by number coming → length buffer ≡ LONGEST_LINE + 1 → TakesHeld stations told (take size buffer) (is_tick coming) time came now new
    → after.status ≡ max so.status (status_of came) → WritesMore so.written after.written f g (result_of next came)
    → SoFar stations told a (rest_by b c coming) old new e g next after
stepped {stations = stations} {told = told} {a = a} {b = b} {c = c} {f = f} {g = g} {number = number} {so = so} {after = after} {coming = coming} {next = next} {time = time} {came = came} before at is count fits takes status tells =
    let t = taken_by at time came in
    let its = came_is at time came in
    one_more (rest_by b c coming) t next before (count ∙ number_is number at time came) (read_by a (lines_in before.taken) at time came before.read)
    (takes_by is fits at takes) (status ∙ ap (λ (k : Came). max so.status (status_of k)) (sym its))
    (subst (λ (k : Came). WritesMore so.written after.written f g (result_of next k)) (sym its) tells)

-- THE LINES SO FAR were taken, a further one may be, and the next one has begun
pub record Going {L : Type 0} (stations : List SiteApplication) (told : Telling (TracingLine L)) (a now : Option (List ℕ)) (old new : PostData L) (e f : Option (List ℕ)) (number : ℕ) (so : SessionReport)
    (buffer : List ℕ) (held : ℕ) : Type 0 where
  pub rest : Option (List ℕ)
  pub so_far : OnSoFar stations told a rest old new e f number so
  pub begun : HasBegun rest now buffer held

pub none_going : {L : Type 0} (stations : List SiteApplication) (told : Telling (TracingLine L)) (a : Option (List ℕ)) (old : PostData L) (e : Option (List ℕ)) (so : SessionReport) (buffer : List ℕ)
    → so ≡ record { status = 0; written = Ok tt } → Going stations told a a old old e e 0 so buffer 0
none_going stations told a old e so buffer none = record { rest = a; so_far = none_played stations told a old e so none; begun = nothing_begun a buffer }

-- what comes next
abbrev arrives : {L : Type 0} {stations : List SiteApplication} {told : Telling (TracingLine L)} {a b c : Option (List ℕ)} {old now : PostData L} {e f : Option (List ℕ)} {number : ℕ} {so : SessionReport}
    {buffer buffer_after : List ℕ} {held held_after : ℕ} {coming : Coming} → (before : Going stations told a b old now e f number so buffer held)
    → Steps b c buffer buffer_after held held_after coming → Arrives before.rest c buffer_after held_after coming
arrives before step = record { comes = step.goes before.rest before.begun }

-- what is to be taken is in the buffer
pub size_within : {L : Type 0} {stations : List SiteApplication} {told : Telling (TracingLine L)} {a b c : Option (List ℕ)} {old now : PostData L} {e f : Option (List ℕ)} {number : ℕ} {so : SessionReport}
    {buffer buffer_after : List ℕ} {held held_after : ℕ} {coming : Coming} {size : ℕ} → Going stations told a b old now e f number so buffer held
    → Steps b c buffer buffer_after held held_after coming → size_of coming ≡ Some size → size ≤ length buffer_after
size_within {buffer_after = buffer_after} {coming = comings.Tick} {size = size} before step is = let none : size ≡ 0 = cc in omega (arith, none)
size_within {buffer_after = buffer_after} {coming = comings.Datagrams} {size = size} before step is = let none : size ≡ 0 = cc in omega (arith, none)
size_within {buffer_after = buffer_after} {coming = comings.Line n} {size = size} before step is =
    let same : size ≡ n = cc in
    let within = (step.goes before.rest before.begun).0.within in omega (arith, same, within)
size_within {coming = comings.End} before step is = absurd cc

-- one more step was taken, after which a further one may be
pub going_on : {L : Type 0} {stations : List SiteApplication} {told : Telling (TracingLine L)} {a b c : Option (List ℕ)} {old now new : PostData L} {e f g : Option (List ℕ)} {number : ℕ} {so after : SessionReport}
    {buffer buffer_after : List ℕ} {held held_after : ℕ} {coming : Coming} {size next time : ℕ} {came : Came} → Going stations told a b old now e f number so buffer held
    → Steps b c buffer buffer_after held held_after coming → size_of coming ≡ Some size → next ≡ number_by number coming → length buffer_after ≡ LONGEST_LINE + 1
    → TakesHeld stations told (take size buffer_after) (is_tick coming) time came now new
    → after.status ≡ max so.status (status_of came) → WritesMore so.written after.written f g (result_of next came)
    → is_over came.line ≡ false → Going stations told a c old new e g next after buffer_after held_after
unfolding stepped one_more
going_on {c = c} {coming = coming} {time = time} {came = came} before step is count fits takes status tells on =
    let at = arrives before step in
    record {
      rest = rest_by before.rest c coming;
      so_far = (
        stepped before.so_far.0 at is count fits takes status tells,
        goes-push before.so_far.0.taken (taken_by at time came) before.so_far.1 (ap (λ (k : Came). is_over k.line) (came_is at time came) ∙ on),
      );
      begun = begun_by is at;
    }

-- no more lines than steps
pub number_within : (number count : ℕ) (coming : Coming) → number ≤ count → number_by number coming ≤ count + 1
number_within number count comings.Tick within = omega (arith, within)
number_within number count comings.Datagrams within = omega (arith, within)
number_within number count (comings.Line size) within = omega (arith, within)
number_within number count comings.End within = omega (arith, within)

-- ---- where it stops

-- the text is at its end
pub all_played : {L : Type 0} {stations : List SiteApplication} {told : Telling (TracingLine L)} {a b c : Option (List ℕ)} {old now : PostData L} {e f : Option (List ℕ)} {number : ℕ} {so : SessionReport}
    {buffer buffer_after : List ℕ} {held held_after : ℕ} {coming : Coming} → Going stations told a b old now e f number so buffer held
    → Steps b c buffer buffer_after held held_after coming → size_of coming ≡ None → PlaysLines stations told a old now e f (record { told = so; stop = stops.End })
all_played {coming = comings.Tick} before step none = absurd cc
all_played {coming = comings.Datagrams} before step none = absurd cc
all_played {coming = comings.Line size} before step none = absurd cc
all_played {a = a} {coming = comings.End} before step none = record {
  taken = before.so_far.0.taken;
  takes = before.so_far.0.takes;
  stops = (before.so_far.1, all_lines a before.rest (lines_in before.so_far.0.taken) before.so_far.0.read (step.goes before.rest before.begun));
  status = before.so_far.0.status;
  tells = before.so_far.0.tells;
}

-- a line of which so much is held is the line that is held, if the buffer has room for more
held_whole : {b c : Option (List ℕ)} {buffer : List ℕ} {held : ℕ} (said : List ℕ) → (holds : HoldsLine b c buffer held) → take held buffer ≡ said → length said < length buffer
    → holds.line ≡ said
held_whole {buffer = buffer} {held = held} said holds is less =
    let front : take (length buffer) holds.line ≡ said = sym holds.front ∙ is in
    let size = sym (length-take (length buffer) holds.line) ∙ ap length front in
    sym (take_all (length buffer) holds.line (omega (arith, size, less))) ∙ front

-- a line ends the session
pub quit_played : {L : Type 0} {stations : List SiteApplication} {told : Telling (TracingLine L)} {a b c : Option (List ℕ)} {old now : PostData L} {e f : Option (List ℕ)} {number : ℕ} {so : SessionReport}
    {buffer buffer_after : List ℕ} {held held_after : ℕ} {coming : Coming} {size : ℕ} → Going stations told a b old now e f number so buffer held
    → Steps b c buffer buffer_after held held_after coming → size_of coming ≡ Some size → length buffer_after ≡ LONGEST_LINE + 1 → take size buffer_after ≡ quit_line
    → PlaysLines stations told a old now e f (record { told = so; stop = stops.Quit })
quit_played {buffer_after = buffer_after} {coming = comings.Tick} {size = size} before step is fits said =
    let none : size ≡ 0 = cc in
    let nothing : [] ≡ quit_line = subst (λ (n : ℕ). take n buffer_after ≡ quit_line) none said in absurd cc
quit_played {buffer_after = buffer_after} {coming = comings.Datagrams} {size = size} before step is fits said =
    let none : size ≡ 0 = cc in
    let nothing : [] ≡ quit_line = subst (λ (n : ℕ). take n buffer_after ≡ quit_line) none said in absurd cc
quit_played {a = a} {c = c} {buffer_after = buffer_after} {coming = comings.Line n} {size = size} before step is fits said =
    let same : size ≡ n = cc in
    let comes = step.goes before.rest before.begun in
    let line = held_whole quit_line comes.0 (subst (λ (n : ℕ). take n buffer_after ≡ quit_line) same said) (omega (arith, fits)) in
    record {
      taken = before.so_far.0.taken;
      takes = before.so_far.0.takes;
      stops = (
        before.so_far.1,
        subst (λ (l : List ℕ). AreFirstLines a (lines_in before.so_far.0.taken ++ l ∷ [])) line
            (first_lines a c (lines_in before.so_far.0.taken ++ comes.0.line ∷ [])
            (reads-more a before.rest c (lines_in before.so_far.0.taken) comes.0.line before.so_far.0.read comes.0.one comes.0.read)),
      );
      status = before.so_far.0.status;
      tells = before.so_far.0.tells;
    }
quit_played {coming = comings.End} before step is fits said = absurd cc

-- a read failed
pub unread_played : {L : Type 0} {stations : List SiteApplication} {told : Telling (TracingLine L)} {a b : Option (List ℕ)} {old now : PostData L} {e f : Option (List ℕ)} {number : ℕ} {so : SessionReport}
    {buffer : List ℕ} {held : ℕ} → Going stations told a b old now e f number so buffer held → PlaysLines stations told a old now e f (record { told = so; stop = stops.Unread })
unread_played {a = a} before = record {
  taken = before.so_far.0.taken;
  takes = before.so_far.0.takes;
  stops = (before.so_far.1, first_lines a before.rest (lines_in before.so_far.0.taken) before.so_far.0.read);
  status = before.so_far.0.status;
  tells = before.so_far.0.tells;
}

-- at the last step an entry was not recorded
pub over_played : {L : Type 0} {stations : List SiteApplication} {told : Telling (TracingLine L)} {a b c : Option (List ℕ)} {old now new : PostData L} {e f g : Option (List ℕ)} {number : ℕ} {so after : SessionReport}
    {buffer buffer_after : List ℕ} {held held_after : ℕ} {coming : Coming} {size next time : ℕ} {came : Came} → Going stations told a b old now e f number so buffer held
    → Steps b c buffer buffer_after held held_after coming → size_of coming ≡ Some size → next ≡ number_by number coming → length buffer_after ≡ LONGEST_LINE + 1
    → TakesHeld stations told (take size buffer_after) (is_tick coming) time came now new
    → after.status ≡ max so.status (status_of came) → WritesMore so.written after.written f g (result_of next came)
    → is_over came.line ≡ true → PlaysLines stations told a old new e g (record { told = after; stop = stops.Unrecorded })
unfolding stepped one_more
over_played {a = a} {c = c} {coming = coming} {time = time} {came = came} before step is count fits takes status tells over =
    let at = arrives before step in
    let whole = stepped before.so_far.0 at is count fits takes status tells in
    record {
      taken = whole.taken;
      takes = whole.takes;
      stops = (
        (before.so_far.0.taken, taken_by at time came, refl, before.so_far.1, ap (λ (k : Came). is_over k.line) (came_is at time came) ∙ over),
        first_lines a (rest_by before.rest c coming) (lines_in whole.taken) whole.read,
      );
      status = whole.status;
      tells = whole.tells;
    }
