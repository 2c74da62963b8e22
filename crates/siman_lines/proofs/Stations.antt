-- Stations over one recorder, as they are begun and after calls.
use Rattle.std.proofs.Common.{◌≡◌, ℕ, List, [], ◌∷◌, ◌++◌, length, take, refl, ap, sym, ◌∙◌, subst, ◌⊎◌, inl, inr, arith, append_assoc, append-nil}
use Rattle.std.specs.Prelude.{Bool, true, false, ◌==◌, Option, Some, None}
use Rattle.std.specs.List.{AllByRecursion, flat_map}
use Rattle.std.specs.Io.KnownBytes.{Appends}
use Rattle.std.proofs.lemmas.Bool.Decides.{nat_tests}
use Rattle.std.proofs.lemmas.List.Concat.{flat_map-append}
use Rattle.std.proofs.lemmas.List.{take-append-drop}
use Rattle.std.specs.Prelude.{drop}
use Rattle.exercise_model.specs.Entry.{Entry}
use Rattle.exercise_model.specs.History.{History, past, log_at}
use Rattle.exercise_model.specs.Recording.{IsRecording}
use Rattle.exercise_model.specs.Setting.{SettingData, IsSetting}
use Rattle.exercise_recording.specs.Text.{head_text, entry_text, end_text}
use Rattle.exercise_recording.specs.Writer.{WriterState, Starts}
use Rattle.siman_application.specs.KeptRequests.{requests}
use Rattle.siman_application.specs.Application.{came}
use Rattle.siman_stations.specs.declared.turn.Node.{Node}
use Rattle.siman_lines.specs.LineDatagrams.{Datagrams}
use Rattle.siman_stations.specs.Halves.{HalvesFollow}
use Rattle.siman_stations.specs.StationTurn.{AreOf}
use Rattle.siman_stations.proofs.Offered.{log-other, halves_begun, halves_closed}
use Rattle.siman_lines.specs.KeptAtLine.{IsTail, IsWritten, IsClosed, AreHanded, IsOfStation, IsKept, KeepsOn}
use Rattle.siman_lines.specs.Calls.{IsUnused, IsFresh, Stations, HasStation, IsCall, AreCalls, AreKept, IsBeginningOf}
use Rattle.siman_lines.proofs.Keeping.{handed_more}

-- Beginnings.

pub started : (before : Option (List ℕ)) (w : SettingData) (recorder : WriterState) → IsSetting w → Starts before w recorder
    → IsWritten before recorder []
started before w recorder is starts = record {
  torn = [];
  contents = subst (Appends before recorder.contents) text starts.contents;
  count = starts.entries;
  recording = subst (λ (x : SettingData). IsRecording (record { setting = x; entries = [] })) (sym starts.setting)
      (record { setting = is; count = omega arith; each_entry = refl; each_stamp = refl });
  tail = whole recorder.spent starts.spent;
} where
  text : head_text w ≡ head_text recorder.setting ++ flat_map entry_text [] ++ []
  text = ap head_text (sym starts.setting) ∙ sym (append-nil (head_text recorder.setting ++ []) ∙ append-nil (head_text recorder.setting))

  whole : (spent : Bool) → spent ≡ false → IsTail spent recorder.setting [] []
  whole false e = refl
  whole true e = absurd cc

none_handed : (s : ℕ) (o : Option Datagrams) → IsUnused o → AreHanded s [] o
none_handed s None h = tt
none_handed s (Some ds) h = subst (AllByRecursion _) (sym h) tt

no_past : (s : ℕ) → log_at s (past []) ≡ []
unfolding log_at past
no_past s = refl

pub fresh : (s : ℕ) (n : Node) (recorder : WriterState) (handed : Option Datagrams) → IsFresh s n recorder.setting handed
    → IsKept s n recorder [] handed
fresh s n recorder handed is = record {
  station = is.station;
  halves = subst (λ (log : History). HalvesFollow (Unit {0}) s n.application.outfit (came n.application) n.manager log (IsClosed recorder)) (sym (no_past s))
      (halves_begun s n.application.outfit n.manager (IsClosed recorder) (came n.application) (ap requests is.nothing_received) is.no_order is.ranges);
  handed_are = none_handed s handed is.unused;
}

-- Calls.

apart_test : (s t : ℕ) → (s ≡ t → ⊥) → (s == t) ≡ false
apart_test s t h = grind (arith, nat_tests)

-- what is kept of another station
stays : (s t : ℕ) (n : Node) (w new : WriterState) (es more : List Entry) (handed : Option Datagrams) → (s ≡ t → ⊥) → AreOf s more
    → new.setting ≡ w.setting
    → (IsClosed w → IsClosed new) → IsKept t n w es handed → IsKept t n new (es ++ more) handed
stays s t n w new es more handed apart own setting closed is = record {
  station = subst (IsOfStation t n) (sym setting) is.station;
  halves = subst (λ (log : History). HalvesFollow (Unit {0}) t n.application.outfit (came n.application) n.manager log (IsClosed new))
      (sym (log-other s t es more (apart_test s t apart) own))
      (halves_closed t n.application.outfit (came n.application) n.manager _ (IsClosed w) (IsClosed new) closed is.halves);
  handed_are = handed_more t es more handed is.handed_are;
}

same_or_apart : (s t : ℕ) → (s ≡ t) ⊎ (s ≡ t → ⊥)
same_or_apart s t = by (s == t) refl where
  by : (b : Bool) → (s == t) ≡ b → (s ≡ t) ⊎ (s ≡ t → ⊥)
  by true e = inl (grind (arith, nat_tests))
  by false e = inr (λ h. grind (arith, nat_tests))

pub found : (before : Option (List ℕ)) (x : Stations) (es : List Entry) (s : ℕ) (stations : List ℕ) → HasStation s stations
    → AllByRecursion (λ t. IsKept t (x.node t) x.recorder es (x.handed t)) stations → IsKept s (x.node s) x.recorder es (x.handed s)
found before x es s [] has all = absurd has
found before x es s (t ∷ ts) (inl e) all = subst (λ (u : ℕ). IsKept u (x.node u) x.recorder es (x.handed u)) (sym e) all.0
found before x es s (t ∷ ts) (inr has) all = found before x es s ts has all.1

each_call : (before : Option (List ℕ)) (s : ℕ) (old new : Stations) (es : List Entry) → (call : IsCall s old new)
    → (on : KeepsOn s before es (new.node s) old.recorder new.recorder (new.handed s)) → (stations : List ℕ)
    → AllByRecursion (λ t. IsKept t (old.node t) old.recorder es (old.handed t)) stations
    → AllByRecursion (λ t. IsKept t (new.node t) new.recorder (es ++ on.more) (new.handed t)) stations
each_call before s old new es call on [] all = tt
each_call before s old new es call on (t ∷ ts) all = (by (same_or_apart s t), each_call before s old new es call on ts all.1) where
  by : (s ≡ t) ⊎ (s ≡ t → ⊥) → IsKept t (new.node t) new.recorder (es ++ on.more) (new.handed t)
  by (inl e) = subst (λ (u : ℕ). IsKept u (new.node u) new.recorder (es ++ on.more) (new.handed u)) e on.kept
  by (inr apart) =
      subst (λ (n : Node). IsKept t n new.recorder (es ++ on.more) (new.handed t)) (sym (call.nodes t apart))
      (subst (λ (o : Option Datagrams). IsKept t (old.node t) new.recorder (es ++ on.more) o) (sym (call.lines t apart))
      (stays s t (old.node t) old.recorder new.recorder es on.more (old.handed t) apart on.own on.setting on.closed all.0))

pub one_call : (before : Option (List ℕ)) (stations : List ℕ) (s : ℕ) (old new : Stations) (es : List Entry) → HasStation s stations
    → AreKept before stations old es
    → IsCall s old new → (more : List Entry) × (new.recorder.setting ≡ old.recorder.setting) × AreKept before stations new (es ++ more)
one_call before stations s old new es has is call =
    let on = call.keeps before es is.written (found before old es s stations has is.kept) in
    (on.more, on.setting, record { written = on.written; kept = each_call before s old new es call on stations is.kept })

pub all_calls : (before : Option (List ℕ)) (stations calls : List ℕ) (old new : Stations) (es : List Entry)
    → AllByRecursion (λ s. HasStation s stations) calls
    → AreKept before stations old es → AreCalls calls old new
    → (more : List Entry) × (new.recorder.setting ≡ old.recorder.setting) × AreKept before stations new (es ++ more)
all_calls before stations [] old new es has is are = (
  [],
  ap (λ (x : Stations). x.recorder.setting) are,
  subst (λ (l : List Entry). AreKept before stations new l) (sym (append-nil es)) (subst (λ (x : Stations). AreKept before stations x es) (sym
      are) is),
)
all_calls before stations (s ∷ ss) old new es has is are =
    let one = one_call before stations s old are.0 es has.0 is are.1 in
    let rest = all_calls before stations ss are.0 new (es ++ one.0) has.1 one.2 are.2 in
    (one.0 ++ rest.0, rest.1 ∙ one.1, subst (λ (l : List Entry). AreKept before stations new l) (append_assoc es one.0 rest.0) rest.2)

-- What is written.

contents_at : (before : List ℕ) (o : Option (List ℕ)) (text : List ℕ) → Appends (Some before) o text → o ≡ Some (before ++ text)
contents_at before None text h = absurd h
contents_at before (Some c) text h = ap Some h

pub beginning : (before : List ℕ) (w : WriterState) (es : List Entry) → IsWritten (Some before) w es → IsBeginningOf before w es
beginning before w es is = by w.spent refl is.tail where
  head : List ℕ
  head = head_text w.setting ++ flat_map entry_text es

  by : (spent : Bool) → w.spent ≡ spent → IsTail spent w.setting es is.torn → IsBeginningOf before w es
  by false e tail = record {
    recording = record { setting = w.setting; entries = es };
    is = is.recording;
    setting = refl;
    torn = [];
    entries = sym (append-nil es);
    one = omega arith;
    front = head ++ is.torn;
    rest = end_text (length es);
    contents = contents_at before w.contents (head ++ is.torn) is.contents;
    text = ap (λ (t : List ℕ). t ++ end_text (length es)) (ap (λ (t : List ℕ). head ++ t) tail ∙ append-nil head);
  }
  by true e tail = record {
    recording = record { setting = w.setting; entries = es ++ tail.0 ∷ [] };
    is = tail.3;
    setting = refl;
    torn = tail.0 ∷ [];
    entries = refl;
    one = omega arith;
    front = head ++ is.torn;
    rest = drop tail.1 (entry_text tail.0) ++ end_text (length (es ++ tail.0 ∷ []));
    contents = contents_at before w.contents (head ++ is.torn) is.contents;
    text = ap (λ (t : List ℕ). (head ++ t) ++ (drop tail.1 (entry_text tail.0) ++ end_text (length (es ++ tail.0 ∷ [])))) tail.2
        ∙ (sym (append_assoc (head ++ take tail.1 (entry_text tail.0)) (drop tail.1 (entry_text tail.0)) (end_text (length (es ++ tail.0 ∷ []))))
        ∙ ap (λ (t : List ℕ). t ++ end_text (length (es ++ tail.0 ∷ [])))
        (append_assoc head (take tail.1 (entry_text tail.0)) (drop tail.1 (entry_text tail.0))
        ∙ (ap (λ (t : List ℕ). head ++ t) (take-append-drop tail.1 (entry_text tail.0)) ∙ entries_more)));
  } where
    entries_more : head ++ entry_text tail.0 ≡ head_text w.setting ++ flat_map entry_text (es ++ tail.0 ∷ [])
    entries_more =
        append_assoc (head_text w.setting) (flat_map entry_text es) (entry_text tail.0)
        ∙ ap (λ (t : List ℕ). head_text w.setting ++ t)
        (sym (flat_map-append entry_text es (tail.0 ∷ []) ∙ ap (λ (t : List ℕ). flat_map entry_text es ++ t) (append-nil (entry_text tail.0))))
