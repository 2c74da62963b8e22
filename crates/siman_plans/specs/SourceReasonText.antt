-- The text of a reason of a source (profile).
use Rattle.std.specs.Prelude.{List, ℕ, [], ◌++◌, codes}
use Rattle.siman_scripts.specs.ReasonText.{why_text, place_text}
use Rattle.siman_plans.specs.declared.source_fault.SourceReason.{SourceReason}
use Rattle.siman_plans.specs.declared.source_fault.SourceWhy.{SourceWhy}
use Rattle.siman_plans.specs.declared.source_fault.SourceWhy.TheVariants as whys

-- the fixed words of a reason that scripts do not have
abbrev pub plain_why_text : SourceWhy → List ℕ
plain_why_text whys.NotUtf8 = codes "bytes that are not UTF-8: save the file as UTF-8"
plain_why_text whys.NotPrintable = codes "a character that is not printable ASCII: only a comment, which begins with # behind a blank, may have any"
plain_why_text whys.WhatExpected = codes "a datagram is expected: its number, a label of a line before, or answer(LABEL)"
plain_why_text whys.PlaceExpected = codes "a station address S:A, each from 1 to 65534, or again is expected"
plain_why_text whys.ExtraWord = codes "a word too many: the line is deliver WHAT S:A, deliver WHAT again or lose WHAT"
plain_why_text whys.RuleExpected = codes "first=F, tries=T or wait=W is expected"
plain_why_text whys.RuleTwice = codes "a rule that the line gives twice: give it once"
plain_why_text whys.NotLabel = codes "a label is expected: a letter, then letters, digits, - or _, at most 64 in all, and not answer, again, as or all"
plain_why_text whys.LabelTwice = codes "a line before has this label: choose another"
plain_why_text whys.UnknownLabel = codes "no line before has this label"
plain_why_text whys.LabelSendsNothing = codes "the line with this label sent no datagram"
plain_why_text whys.NoAnswer = codes "no delivery of this datagram was answered so far"
plain_why_text whys.NeverBrought = codes "this datagram was delivered to no station so far: say to which"
plain_why_text whys.NotSent = codes "no datagram of this number was sent so far"
plain_why_text (whys.Script why) = []

abbrev pub source_why_text : SourceWhy → List ℕ
source_why_text (whys.Script why) = why_text why
source_why_text why = plain_why_text why

-- THE TEXT OF A REASON, in one line
abbrev pub source_reason_text : SourceReason → List ℕ
source_reason_text reason = place_text reason.line reason.column ++ source_why_text reason.why
