-- What is told of a recording speaks of its stations and of its entries.
use Rattle.std.proofs.Common.{append-nil, ◌≡◌, ◌<◌, ◌≤◌, ℕ, zero, suc, List, [], ◌∷◌, ◌++◌, length, map, cond, true, false, Option, Some, None, refl, sym, ◌∙◌, subst, arith, inl, inr}
use Rattle.std.specs.Prelude.{slice_get, option_map, option_and_then, All, nat_eq, nat_lt, is_none}
use Rattle.std.specs.Global.{Vec}
use Rattle.std.specs.List.{filter_map, cons_option, AllByRecursion}
use Rattle.std.specs.Option.{option_or, option_to_list}
use Rattle.std.proofs.lemmas.List.Elements.{All-nil, All-cons, All-push, All-same, All-weaker, All-from_recursion, recursion_from_All}
use Rattle.std.proofs.lemmas.Option.{same_Some}
use Rattle.dis_records.specs.declared.entity.Scope.{Scope}
use Rattle.dis_records.specs.declared.entity.Scope.TheVariants.{One, All as AllOf}
use Rattle.siman_pdus.specs.declared.pdu.Pdu.{Pdu}
use Rattle.exercise_model.specs.declared.cause.Cause.{Cause}
use Rattle.exercise_model.specs.declared.cause.Cause.TheVariants as causes
use Rattle.exercise_model.specs.declared.state.Change.{Change}
use Rattle.exercise_model.specs.declared.station.TheConstants.{MOST_STATIONS}
use Rattle.exercise_model.specs.Entry.{Entry, Sent, Received, Told}
use Rattle.exercise_model.specs.Recording.{PlainRecording, IsRecording}
use Rattle.exercise_model.specs.History.{History, event_of, station_of, station_at}
use Rattle.exercise_model.specs.Meaning.{meaning}
use Rattle.exercise_model.specs.Setting.{is_from}
use Rattle.exercise_model.specs.Place.{first_below}
use Rattle.exercise_model.specs.Account.{sender_of}
use Rattle.exercise_model.proofs.Offered.{IsFirst, first_found, entry_station}
use Rattle.exercise_findings.specs.Source.{source_of}
use Rattle.exercise_findings.specs.Tables.{own_cause}
use Rattle.exercise_check.specs.Judging.{is_never_sent}
use Rattle.exercise_findings.specs.declared.missing.Missing.{Missing}
use Rattle.exercise_findings.specs.Missing.{is_first_receipt, missing_from, missing_pdu, missing_entry, missing_at}
use Rattle.exercise_check.specs.declared.certificate.Step.{Step}
use Rattle.exercise_audit.specs.declared.blocks.Block.{Block}
use Rattle.exercise_audit.specs.Audit.{AreBlocks, IsBlocked}
use Rattle.exercise_conflict.specs.declared.way.Also.{Also}
use Rattle.exercise_conflict.specs.declared.clash.Clash.{Clash}
use Rattle.exercise_conflict.specs.declared.conflict.Conflict.{Conflict}
use Rattle.exercise_conflict.specs.declared.lacks.MissingSend.{MissingSend}
use Rattle.exercise_conflict.specs.declared.step_clash.StepClash.{StepClash}
use Rattle.exercise_conflict.specs.declared.verdict.Refusal.{Refusal}
use Rattle.exercise_conflict.specs.declared.waits.Wait.{Wait}
use Rattle.exercise_conflict.specs.declared.way.Way.{Way}
use Rattle.exercise_conflict.specs.declared.way.Way.TheVariants.{Waits}
use Rattle.exercise_conflict.specs.Cycles.{wait_at, waiting_path, cycle_at}
use Rattle.exercise_conflict.specs.Also.{further_cause_at}
use Rattle.exercise_conflict.specs.Clash.{hopeless_scope_clash, hopeless_clash, impossible_clash, reused_clash, wrong_answer_clash, got_pdu, send_clash, receipt_clash, told_state_clash, clash_by, clash_of_entry, clash_of}
use Rattle.exercise_conflict.specs.Earlier.{earlier_sent}
use Rattle.exercise_conflict.specs.Lacks.{missing_send_by, missing_send_at, missing_sends_below, missing_sends}
use Rattle.exercise_conflict.specs.StepClash.{out_of_order_by, event_clash_by, event_clash, step_clash, step_clash_of}
use Rattle.exercise_conflict.specs.Waits.{block_of, waits_on, wait_by, wait_for, wait_of, waits_of}
use Rattle.exercise_conflict.specs.Ways.{clashes_by, way_of, ways_of, cycles_below, cycles_of, further_cause, further_causes_below, further_causes}
use Rattle.exercise_conflict.specs.Whole.{IsConflictOf, IsRefusalOf}
use Rattle.exercise_conflict.specs.Lines.{IsOfStations, IsOfStepStations, IsOfWayStations}
use Rattle.exercise_conflict.specs.Told.{AreOfStations}

-- ---- options and lists

-- what stands behind something that is there
pub behind : {X Y : Type 0} (h : X → Option Y) (o : Option X) (y : Y) → option_and_then h o ≡ Some y → (x : X) × (o ≡ Some x) × (h x ≡ Some y)
behind h None y e = absurd (cc)
behind h (Some x) y e = (x, refl, e)

pub mapped : {X Y : Type 0} (h : X → Y) (o : Option X) (y : Y) → option_map h o ≡ Some y → (x : X) × (o ≡ Some x) × (h x ≡ y)
mapped h None y e = absurd (cc)
mapped h (Some x) y e = (x, refl, same_Some (h x) y e)

-- what holds of each of a list and of one more, if there is one
push_if : {X : Type 0} (P : X → Type 0) (xs : List X) (o : Option X) → All P xs → ((x : X) → o ≡ Some x → P x) → All P (xs ++ option_to_list o)
push_if P xs None all each = All-same P _ xs (append_none xs) all
  where
    append_none : {X : Type 0} (xs : List X) → xs ++ [] ≡ xs
    append_none xs = append-nil xs
push_if P xs (Some x) all each = All-push P xs x all (each x refl)

-- what holds of each that is made of some
cons_if : {Y : Type 0} (Q : Y → Type 0) (o : Option Y) (ys : List Y) → ((y : Y) → o ≡ Some y → Q y) → AllByRecursion Q ys → AllByRecursion Q (cons_option o ys)
cons_if Q None ys each all = all
cons_if Q (Some y) ys each all = (each y refl, all)

made_of : {X Y : Type 0} (P : X → Type 0) (Q : Y → Type 0) (h : X → Option Y) (xs : List X) → ((x : X) (y : Y) → P x → h x ≡ Some y → Q y)
    → AllByRecursion P xs → AllByRecursion Q (filter_map h xs)
made_of P Q h [] each all = tt
made_of P Q h (x ∷ xs) each all = cons_if Q (h x) (filter_map h xs) (λ y e. each x y all.0 e) (made_of P Q h xs each all.1)

-- ---- blocks

-- each block is of one of the stations
are_within : (r : PlainRecording) (h : History) (n : ℕ) (blocks : List Block) → AreBlocks r h n blocks → All (λ (b : Block). b.station < n) blocks
are_within r h zero blocks are = All-same (λ (b : Block). b.station < 0) blocks [] are (All-nil (λ (b : Block). b.station < 0))
are_within r h (suc s) blocks (inl done) =
    All-weaker (λ (b : Block). b.station < s) (λ (b : Block). b.station < suc s) (λ b within. omega (arith, within)) blocks (are_within r h s blocks done.1)
are_within r h (suc s) blocks (inr more) =
    let others = more.0 in
    let last = more.1 in
    let before = All-weaker (λ (b : Block). b.station < s) (λ (b : Block). b.station < suc s) (λ b within. omega (arith, within)) others
    (are_within r h s others more.3) in
    let here : last.station < suc s = let at = more.4.station in omega (arith, at) in
    All-same (λ (b : Block). b.station < suc s) blocks (others ++ last ∷ []) more.2
    (All-push (λ (b : Block). b.station < suc s) others last before here)

pub blocks_within : (r : PlainRecording) (blocks : List Block) → IsBlocked r blocks → All (λ (b : Block). b.station < length r.setting.stations) blocks
blocks_within r blocks blocked =
    are_within r blocked.some_end.0 (length r.setting.stations) blocks (blocked.blocks_are blocked.some_end.0 blocked.some_end.1)

-- ---- clashes

within : (r : PlainRecording) → IsRecording r → (i : ℕ) (e : Entry) → slice_get r.entries i ≡ Some e → station_of (event_of e) < length r.setting.stations
within r limits i e at = entry_station (length r.setting.stations) r.entries i e limits.each_entry at

-- what is made of a clash of the station is one
hopeless_stands : (r : PlainRecording) (s j k : ℕ) (scope : Scope) → s < length r.setting.stations → IsOfStations r (hopeless_scope_clash r s j k scope)
hopeless_stands r s j k (One n) h = h
hopeless_stands r s j k AllOf h = h

impossible_stands : (r : PlainRecording) (s j : ℕ) (p : Pdu) (k : ℕ) (clash : Clash) → s < length r.setting.stations → impossible_clash r s j p k ≡ Some clash → IsOfStations r clash
impossible_stands r s j p k clash h e =
    let one = behind (hopeless_clash r s j p k) (got_pdu r s k) clash e in
    let two = mapped (λ (c : Change). hopeless_scope_clash r s j k c.scope) _ clash one.2 in
    subst (IsOfStations r) two.2 (hopeless_stands r s j k two.0.scope h)

reused_stands : (r : PlainRecording) (s : ℕ) (p : Pdu) (k : ℕ) (clash : Clash) → reused_clash r s p k ≡ Some clash → IsOfStations r clash
reused_stands r s p k clash e = let one = mapped _ _ clash e in subst (IsOfStations r) one.2 tt

wrong_stands : (r : PlainRecording) (s : ℕ) (p : Pdu) (k : ℕ) (clash : Clash) → wrong_answer_clash r s p k ≡ Some clash → IsOfStations r clash
wrong_stands r s p k clash e = let one = mapped _ _ clash e in subst (IsOfStations r) one.2 tt

here : (r : PlainRecording) (known clash : Clash) → IsOfStations r known → Some known ≡ Some clash → IsOfStations r clash
here r known clash is e = subst (IsOfStations r) (same_Some known clash e) is

sent_stands : (r : PlainRecording) (j s : ℕ) (cause : Cause) (p : Pdu) (clash : Clash) → s < length r.setting.stations → send_clash r j s cause p ≡ Some clash → IsOfStations r clash
sent_stands r j s causes.WrongSender p clash h e = here r _ clash h e
sent_stands r j s causes.ReusedIdentifier p clash h e = let one = behind (reused_clash r s p) _ clash e in reused_stands r s p one.0 clash one.2
sent_stands r j s causes.NoRequest p clash h e = here r _ clash tt e
sent_stands r j s causes.WrongAnswer p clash h e = let one = behind (wrong_answer_clash r s p) _ clash e in wrong_stands r s p one.0 clash one.2
sent_stands r j s causes.ChangedAnswer p clash h e = let one = mapped _ _ clash e in subst (IsOfStations r) one.2 tt
sent_stands r j s causes.Impossible p clash h e = let one = behind (impossible_clash r s j p) _ clash e in impossible_stands r s j p one.0 clash h one.2
sent_stands r j s causes.CountDiffers p clash h e = absurd (cc)
sent_stands r j s causes.NoSuchRecord p clash h e = absurd (cc)
sent_stands r j s causes.OutOfOrder p clash h e = absurd (cc)
sent_stands r j s causes.BadLink p clash h e = absurd (cc)
sent_stands r j s causes.Stranger p clash h e = absurd (cc)
sent_stands r j s causes.NeverSent p clash h e = absurd (cc)
sent_stands r j s causes.WrongState p clash h e = absurd (cc)

got_stands : (r : PlainRecording) (j : ℕ) (b : List ℕ) (cause : Cause) (p : Pdu) (clash : Clash) → receipt_clash r j b cause p ≡ Some clash → IsOfStations r clash
got_stands r j b causes.Stranger p clash e = here r _ clash tt e
got_stands r j b causes.NeverSent p clash e = here r _ clash tt e
got_stands r j b causes.CountDiffers p clash e = absurd (cc)
got_stands r j b causes.NoSuchRecord p clash e = absurd (cc)
got_stands r j b causes.OutOfOrder p clash e = absurd (cc)
got_stands r j b causes.BadLink p clash e = absurd (cc)
got_stands r j b causes.WrongSender p clash e = absurd (cc)
got_stands r j b causes.ReusedIdentifier p clash e = absurd (cc)
got_stands r j b causes.NoRequest p clash e = absurd (cc)
got_stands r j b causes.WrongAnswer p clash e = absurd (cc)
got_stands r j b causes.ChangedAnswer p clash e = absurd (cc)
got_stands r j b causes.Impossible p clash e = absurd (cc)
got_stands r j b causes.WrongState p clash e = absurd (cc)

told_stands : (r : PlainRecording) (j s n : ℕ) (cause : Cause) (clash : Clash) → s < length r.setting.stations → told_state_clash r j s n cause ≡ Some clash → IsOfStations r clash
told_stands r j s n causes.WrongState clash h e = here r _ clash h e
told_stands r j s n causes.CountDiffers clash h e = absurd (cc)
told_stands r j s n causes.NoSuchRecord clash h e = absurd (cc)
told_stands r j s n causes.OutOfOrder clash h e = absurd (cc)
told_stands r j s n causes.BadLink clash h e = absurd (cc)
told_stands r j s n causes.WrongSender clash h e = absurd (cc)
told_stands r j s n causes.ReusedIdentifier clash h e = absurd (cc)
told_stands r j s n causes.NoRequest clash h e = absurd (cc)
told_stands r j s n causes.WrongAnswer clash h e = absurd (cc)
told_stands r j s n causes.ChangedAnswer clash h e = absurd (cc)
told_stands r j s n causes.Impossible clash h e = absurd (cc)
told_stands r j s n causes.Stranger clash h e = absurd (cc)
told_stands r j s n causes.NeverSent clash h e = absurd (cc)

by_stands : (r : PlainRecording) (j : ℕ) (e : Entry) (cause : Cause) (clash : Clash) → station_of (event_of e) < length r.setting.stations
    → clash_by r j e cause ≡ Some clash → IsOfStations r clash
by_stands r j (Sent s stamp b) cause clash h is = let one = behind (send_clash r j s cause) _ clash is in sent_stands r j s cause one.0 clash h one.2
by_stands r j (Received s stamp b) cause clash h is = let one = behind (receipt_clash r j b cause) _ clash is in got_stands r j b cause one.0 clash one.2
by_stands r j (Told s n y) cause clash h is = told_stands r j s n cause clash h is

pub clash_stands : (r : PlainRecording) → IsRecording r → (j : ℕ) (clash : Clash) → clash_of r j ≡ Some clash → IsOfStations r clash
unfolding clash_of
clash_stands r limits j clash is =
    let one = behind (clash_of_entry r j) (slice_get r.entries j) clash is in
    let two = behind (clash_by r j one.0) (own_cause r j) clash one.2 in
    by_stands r j one.0 two.0 clash (within r limits j one.0 one.1) two.2

-- ---- ways

abbrev IsOfWait : PlainRecording → Wait → Type 0
IsOfWait r w = (w.station < length r.setting.stations) × (w.on < length r.setting.stations)

wait_stands : (r : PlainRecording) → IsRecording r → (blocks : List Block) (b : Block) (w : Wait) → b.station < length r.setting.stations → wait_of r blocks b ≡ Some w
    → IsOfWait r w
unfolding wait_of
wait_stands r limits blocks b w h is =
    elim (is_never_sent b.cause) as (λ v. cond v (option_and_then (wait_for r blocks b) (source_of r b.entry)) None ≡ Some w → IsOfWait r w) [
      | false ↦ λ e. absurd (cc)
      | true ↦ λ e.
          let one = behind (wait_for r blocks b) (source_of r b.entry) w e in
          let two = behind (wait_by blocks b one.0) (slice_get r.entries one.0) w one.2 in
          let three = mapped (waits_on b one.0 (station_of (event_of two.0))) (block_of blocks (station_of (event_of two.0))) w two.2 in
          subst (IsOfWait r) three.2 (h, within r limits one.0 two.0 two.1)
    ] is

by_way : (r : PlainRecording) → IsRecording r → (blocks : List Block) (b : Block) (way : Way) → b.station < length r.setting.stations
    → (o : Option Wait) → wait_of r blocks b ≡ o → option_or (option_map Waits o) (option_map (clashes_by b) (clash_of r b.entry)) ≡ Some way → IsOfWayStations r way
by_way r limits blocks b way h (Some w) waits is = subst (IsOfWayStations r) (same_Some (Waits w) way is) (wait_stands r limits blocks b w h waits)
by_way r limits blocks b way h None waits is =
    let one = mapped (clashes_by b) (clash_of r b.entry) way is in
    subst (IsOfWayStations r) one.2 (clash_stands r limits b.entry one.0 one.1)

way_stands : (r : PlainRecording) → IsRecording r → (blocks : List Block) (b : Block) (way : Way) → b.station < length r.setting.stations → way_of r blocks b ≡ Some way
    → IsOfWayStations r way
unfolding way_of
way_stands r limits blocks b way h is = by_way r limits blocks b way h (wait_of r blocks b) refl is

ways_stand : (r : PlainRecording) → IsRecording r → (blocks : List Block) → All (λ (b : Block). b.station < length r.setting.stations) blocks → All (IsOfWayStations r) (ways_of r blocks)
ways_stand r limits blocks all =
    let P : Block → Type 0 = λ b. b.station < length r.setting.stations in
    All-from_recursion (IsOfWayStations r) (ways_of r blocks)
    (made_of P (IsOfWayStations r) (way_of r blocks) blocks (λ b way h is. way_stands r limits blocks b way h is) (recursion_from_All P blocks all))

-- ---- cycles

waits_stand : (r : PlainRecording) → IsRecording r → (blocks : List Block) → All (λ (b : Block). b.station < length r.setting.stations) blocks → AllByRecursion (IsOfWait r) (waits_of r blocks)
waits_stand r limits blocks all =
    let P : Block → Type 0 = λ b. b.station < length r.setting.stations in
    made_of P (IsOfWait r) (wait_of r blocks) blocks (λ b w h is. wait_stands r limits blocks b w h is) (recursion_from_All P blocks all)

wait_found : (P : Wait → Type 0) (waits : List Wait) (s : ℕ) (w : Wait) → AllByRecursion P waits → wait_at waits s ≡ Some w → P w
unfolding wait_at
wait_found P [] s w all is = absurd (cc)
wait_found P (x ∷ waits) s w all is =
    elim (nat_eq x.station s) as (λ q. cond q (Some x) (wait_at waits s) ≡ Some w → P w) [
      | true ↦ λ e. subst P (same_Some x w e) all.0
      | false ↦ λ e. wait_found P waits s w all.1 e
    ] is

-- the stations on the way back are stations of the recording
abbrev Within : PlainRecording → List ℕ → Type 0
Within r stations = AllByRecursion (λ s. s < length r.setting.stations) stations

back_stands : (r : PlainRecording) (waits : List Wait) (s t n : ℕ) (ring : List ℕ) → AllByRecursion (IsOfWait r) waits → t < length r.setting.stations
    → waiting_path waits s t n ≡ Some ring → Within r ring
unfolding waiting_path
back_stands r waits s t zero ring all h is = absurd (cc)
back_stands r waits s t (suc n) ring all h is =
    elim (nat_eq t s) as (λ q. cond q (Some []) (cond (nat_lt s t) (option_and_then (λ (w : Wait). option_map (λ way. t ∷ way) (waiting_path waits s w.on n)) (wait_at waits t)) None) ≡ Some ring
    → Within r ring) [
      | true ↦ λ e. subst (Within r) (same_Some [] ring e) tt
      | false ↦ λ e. elim (nat_lt s t) as (λ q. cond q (option_and_then (λ (w : Wait). option_map (λ way. t ∷ way) (waiting_path waits s w.on n)) (wait_at waits t)) None ≡ Some ring
          → Within r ring) [
            | false ↦ λ e. absurd (cc)
            | true ↦ λ e.
                let one = behind (λ (w : Wait). option_map (λ way. t ∷ way) (waiting_path waits s w.on n)) (wait_at waits t) ring e in
                let two = mapped (λ way. t ∷ way) (waiting_path waits s one.0.on n) ring one.2 in
                subst (Within r) two.2 (h, back_stands r waits s one.0.on n two.0 all (wait_found (IsOfWait r) waits t one.0 all one.1).1 two.1)
          ] e
    ] is

cycle_stands : (r : PlainRecording) (waits : List Wait) (s : ℕ) (ring : List ℕ) → AllByRecursion (IsOfWait r) waits → s < length r.setting.stations
    → cycle_at waits s ≡ Some ring → Within r ring
unfolding cycle_at
cycle_stands r waits s ring all h is =
    let one = behind (λ (w : Wait). option_map (λ way. s ∷ way) (waiting_path waits s w.on MOST_STATIONS)) (wait_at waits s) ring is in
    let two = mapped (λ way. s ∷ way) (waiting_path waits s one.0.on MOST_STATIONS) ring one.2 in
    subst (Within r) two.2 (h, back_stands r waits s one.0.on MOST_STATIONS two.0 all (wait_found (IsOfWait r) waits s one.0 all one.1).1 two.1)

cycles_stand : (r : PlainRecording) (waits : List Wait) (n : ℕ) → AllByRecursion (IsOfWait r) waits → n ≤ length r.setting.stations → All (Within r) (cycles_below waits n)
unfolding cycles_below
cycles_stand r waits zero all h = All-nil (Within r)
cycles_stand r waits (suc n) all h =
    push_if (Within r) (cycles_below waits n) (cycle_at waits n) (cycles_stand r waits n all (omega (arith, h))) (λ ring is. cycle_stands r waits n ring all (omega (arith, h)) is)

-- ---- what else stands against entries, and what is missing

also_stands : (r : PlainRecording) (blocks : List Block) (n : ℕ) → All (λ (a : Also). a.entry < n) (further_causes_below r blocks n)
unfolding further_causes_below
also_stands r blocks zero = All-nil (λ (a : Also). a.entry < 0)
also_stands r blocks (suc n) =
    push_if (λ (a : Also). a.entry < suc n) (further_causes_below r blocks n) (option_map (further_cause n) (further_cause_at r blocks n))
    (All-weaker (λ (a : Also). a.entry < n) (λ (a : Also). a.entry < suc n) (λ a h. omega (arith, h)) (further_causes_below r blocks n) (also_stands r blocks n))
    (λ a is. let one = mapped (further_cause n) (further_cause_at r blocks n) a is in subst (λ (x : Also). x.entry < suc n) one.2 (omega arith))

sender_stands : (r : PlainRecording) (p : Pdu) (t : ℕ) → sender_of r p ≡ Some t → t < length r.setting.stations
unfolding sender_of
sender_stands r p t is = (first_found (λ s. is_from (station_at r s).address p) (length r.setting.stations) t is).below

pdu_stands : (r : PlainRecording) (p : Pdu) (m : Missing) → missing_pdu r p ≡ Some m → m.sender < length r.setting.stations
pdu_stands r p m is =
    let one = mapped (missing_from r p) (sender_of r p) m is in
    subst (λ (x : Missing). x.sender < length r.setting.stations) one.2 (sender_stands r p one.0 one.1)

entry_stands : (r : PlainRecording) (i : ℕ) (e : Entry) (m : Missing) → missing_entry r i e ≡ Some m → m.sender < length r.setting.stations
entry_stands r i (Sent s stamp b) m is = absurd (cc)
entry_stands r i (Told s n y) m is = absurd (cc)
entry_stands r i (Received s stamp b) m is =
    elim (is_first_receipt r i b) as (λ q. cond q (option_and_then (missing_pdu r) (meaning r.setting.exercise b)) None ≡ Some m → m.sender < length r.setting.stations) [
      | false ↦ λ e. absurd (cc)
      | true ↦ λ e. let one = behind (missing_pdu r) (meaning r.setting.exercise b) m e in pdu_stands r one.0 m one.2
    ] is

missing_stands : (r : PlainRecording) (i : ℕ) (m : Missing) → missing_at r i ≡ Some m → m.sender < length r.setting.stations
unfolding missing_at
missing_stands r i m is =
    elim (is_none (source_of r i)) as (λ q. cond q (option_and_then (missing_entry r i) (slice_get r.entries i)) None ≡ Some m → m.sender < length r.setting.stations) [
      | false ↦ λ e. absurd (cc)
      | true ↦ λ e. let one = behind (missing_entry r i) (slice_get r.entries i) m e in entry_stands r i one.0 m one.2
    ] is

lacks_stand : (r : PlainRecording) (n : ℕ) → All (λ (l : MissingSend). l.missing.sender < length r.setting.stations) (missing_sends_below r n)
unfolding missing_sends_below
lacks_stand r zero = All-nil (λ (l : MissingSend). l.missing.sender < length r.setting.stations)
lacks_stand r (suc n) =
    push_if (λ (l : MissingSend). l.missing.sender < length r.setting.stations) (missing_sends_below r n) (missing_send_at r n) (lacks_stand r n)
    (λ l is. let one = mapped (missing_send_by n) (missing_at r n) l is in
    subst (λ (x : MissingSend). x.missing.sender < length r.setting.stations) one.2 (missing_stands r n one.0 one.1))

-- ---- all of it

of_items : (r : PlainRecording) (cycles : List (Vec ℕ)) (rings : List (List ℕ)) → map (λ v. v.items) cycles ≡ rings → All (Within r) rings
    → All (λ (v : Vec ℕ). All (λ s. s < length r.setting.stations) v.items) cycles
of_items r cycles rings same all =
    All-from_recursion _ cycles (each cycles (recursion_from_All (Within r) (map (λ v. v.items) cycles) (All-same (Within r) _ rings same all)))
  where
    each : (cycles : List (Vec ℕ)) → AllByRecursion (Within r) (map (λ v. v.items) cycles)
        → AllByRecursion (λ (v : Vec ℕ). All (λ s. s < length r.setting.stations) v.items) cycles
    each [] all = tt
    each (v ∷ cycles) all = (All-from_recursion (λ s. s < length r.setting.stations) v.items all.0, each cycles all.1)

-- the lines of a recording speak of its stations and entries
pub conflict_stands : (r : PlainRecording) (c : Conflict) → IsRecording r → IsConflictOf r c → AreOfStations r c
conflict_stands r c limits is =
    let blocks = blocks_within r c.blocks.items is.blocked in
    record {
      blocks = blocks;
      ways = All-same (IsOfWayStations r) c.ways.items (ways_of r c.blocks.items) is.ways (ways_stand r limits c.blocks.items blocks);
      cycles = of_items r c.cycles.items (cycles_of r c.blocks.items) is.cycles
          (cycles_stand r (waits_of r c.blocks.items) (length r.setting.stations) (waits_stand r limits c.blocks.items blocks) (omega arith));
      also = All-same (λ (a : Also). a.entry < length r.entries) c.also.items (further_causes r c.blocks.items) is.also (also_stands r c.blocks.items (length r.entries));
      lacks = All-same (λ (l : MissingSend). l.missing.sender < length r.setting.stations) c.lacks.items (missing_sends r) is.lacks (lacks_stand r (length r.entries));
    }

-- ---- of a certificate

event_stands : (r : PlainRecording) → IsRecording r → (steps : List Step) (place : ℕ) (clash : StepClash) → event_clash r steps place ≡ Some clash → IsOfStepStations r clash
event_stands r limits steps place clash is =
    let one = mapped (event_clash_by steps place) (clash_of r place) clash is in
    subst (IsOfStepStations r) one.2 (clash_stands r limits place one.0 one.1)

step_stands : (r : PlainRecording) → IsRecording r → (steps : List Step) (k : ℕ) (cause : Cause) (step : Step) (clash : StepClash) → step_clash r steps k cause step ≡ Some clash
    → IsOfStepStations r clash
step_stands r limits steps k causes.NoSuchRecord step clash is = subst (IsOfStepStations r) (same_Some _ clash is) tt
step_stands r limits steps k causes.OutOfOrder step clash is =
    let one = mapped (out_of_order_by r steps k step.place) (slice_get r.entries step.place) clash is in
    subst (IsOfStepStations r) one.2 tt
step_stands r limits steps k causes.BadLink step clash is = subst (IsOfStepStations r) (same_Some _ clash is) tt
step_stands r limits steps k causes.CountDiffers step clash is = event_stands r limits steps step.place clash is
step_stands r limits steps k causes.WrongSender step clash is = event_stands r limits steps step.place clash is
step_stands r limits steps k causes.ReusedIdentifier step clash is = event_stands r limits steps step.place clash is
step_stands r limits steps k causes.NoRequest step clash is = event_stands r limits steps step.place clash is
step_stands r limits steps k causes.WrongAnswer step clash is = event_stands r limits steps step.place clash is
step_stands r limits steps k causes.ChangedAnswer step clash is = event_stands r limits steps step.place clash is
step_stands r limits steps k causes.Impossible step clash is = event_stands r limits steps step.place clash is
step_stands r limits steps k causes.Stranger step clash is = event_stands r limits steps step.place clash is
step_stands r limits steps k causes.NeverSent step clash is = event_stands r limits steps step.place clash is
step_stands r limits steps k causes.WrongState step clash is = event_stands r limits steps step.place clash is

taken_stands : (r : PlainRecording) → IsRecording r → (steps : List Step) (k : ℕ) (cause : Cause) (clash : StepClash)
    → option_and_then (step_clash r steps k cause) (slice_get steps k) ≡ Some clash → IsOfStepStations r clash
taken_stands r limits steps k cause clash is =
    let one = behind (step_clash r steps k cause) (slice_get steps k) clash is in
    step_stands r limits steps k cause one.0 clash one.2

of_cause : (r : PlainRecording) → IsRecording r → (steps : List Step) (k : ℕ) (cause : Cause) (clash : StepClash) → step_clash_of r steps k cause ≡ Some clash
    → IsOfStepStations r clash
unfolding step_clash_of
of_cause r limits steps k causes.CountDiffers clash is = subst (IsOfStepStations r) (same_Some _ clash is) tt
of_cause r limits steps k causes.NoSuchRecord clash is = taken_stands r limits steps k causes.NoSuchRecord clash is
of_cause r limits steps k causes.OutOfOrder clash is = taken_stands r limits steps k causes.OutOfOrder clash is
of_cause r limits steps k causes.BadLink clash is = taken_stands r limits steps k causes.BadLink clash is
of_cause r limits steps k causes.WrongSender clash is = taken_stands r limits steps k causes.WrongSender clash is
of_cause r limits steps k causes.ReusedIdentifier clash is = taken_stands r limits steps k causes.ReusedIdentifier clash is
of_cause r limits steps k causes.NoRequest clash is = taken_stands r limits steps k causes.NoRequest clash is
of_cause r limits steps k causes.WrongAnswer clash is = taken_stands r limits steps k causes.WrongAnswer clash is
of_cause r limits steps k causes.ChangedAnswer clash is = taken_stands r limits steps k causes.ChangedAnswer clash is
of_cause r limits steps k causes.Impossible clash is = taken_stands r limits steps k causes.Impossible clash is
of_cause r limits steps k causes.Stranger clash is = taken_stands r limits steps k causes.Stranger clash is
of_cause r limits steps k causes.NeverSent clash is = taken_stands r limits steps k causes.NeverSent clash is
of_cause r limits steps k causes.WrongState clash is = taken_stands r limits steps k causes.WrongState clash is

if_there : (r : PlainRecording) (o : Option StepClash) → ((clash : StepClash) → o ≡ Some clash → IsOfStepStations r clash) → All (IsOfStepStations r) (option_to_list o)
if_there r None each = All-nil (IsOfStepStations r)
if_there r (Some clash) each = All-cons (IsOfStepStations r) clash [] (each clash refl) (All-nil (IsOfStepStations r))

-- the lines of a certificate that is not good speak of stations of the recording
pub refusal_stands : (r : PlainRecording) (steps : List Step) (f : Refusal) → IsRecording r → IsRefusalOf r steps f → All (IsOfStepStations r) (option_to_list f.clash)
refusal_stands r steps f limits is = if_there r f.clash (λ clash there. of_cause r limits steps f.step f.cause clash (sym is.clash ∙ there))
