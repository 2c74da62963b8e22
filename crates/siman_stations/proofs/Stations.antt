-- What the stations of a world do, act by act: the halves of each are where its log leaves them, and what it receives was sent before.
use Rattle.std.proofs.Common.{◌≡◌, ℕ, zero, suc, ◌<◌, List, [], ◌∷◌, ◌++◌, length, refl, ap, sym, ◌∙◌, subst, ◌⊎◌, inl, inr}
use Rattle.std.specs.Prelude.{Bool, true, false, ◌==◌, slice_get, slice_index, Option, Some, None, option_map, option_and_then, bytes_eq, if◌then◌else◌}
use Rattle.std.specs.List.{AllByRecursion, list_any}
use Rattle.std.proofs.Math.ListN.{get_or-map}
use Rattle.std.proofs.lemmas.Bool.{eq-eqb, eqb-true, or_left, or_right}
use Rattle.std.proofs.lemmas.List.{length-map}
use Rattle.std.proofs.lemmas.List.Folds.{list_any-append}
use Rattle.std.proofs.lemmas.Slice.Eq.{bytes_eq-Decides}
use Rattle.dis_records.specs.declared.entity_state.EntityState.{EntityState}
use Rattle.siman_pdus.specs.declared.pdu.Pdu.{Pdu}
use Rattle.siman_pdus.specs.Reading.{reading}
use Rattle.exercise_model.specs.Cause.{sends, was_sent}
use Rattle.exercise_model.specs.Entry.{Entry, Sent, Received, Told}
use Rattle.exercise_model.specs.History.{Send, Get, Tell, History, station_of as whose, past, log_at}
use Rattle.exercise_model.specs.Run.{IsRun}
use Rattle.exercise_model.specs.Setting.{station_in}
use Rattle.exercise_model.specs.Station.{StationData}
use Rattle.exercise_model.proofs.Offered.{past-append}
use Rattle.siman_application.specs.Distinct.{distinct}
use Rattle.siman_application.specs.OwnLog.{sent_after, MissNone, TakesAll}
use Rattle.siman_application.specs.Play.{state_over}
use Rattle.siman_manager.specs.declared.order.Order.{Order}
use Rattle.siman_manager.specs.Answers.{with_orders}
use Rattle.siman_manager.specs.Book.{Book, after_request, order_pdu, next_id, refusal, with_order}
use Rattle.siman_manager.specs.Calls.{Call, Requested, Came, Ticked, kept}
use Rattle.siman_manager.proofs.Offered.{counts}
use Rattle.siman_scripts.specs.declared.act.Act.{Act}
use Rattle.siman_scripts.specs.declared.act.Act.TheVariants.{Command, Deliver, Tick, Tell as TellState}
use Rattle.siman_scripts.specs.declared.act.Move.{Move}
use Rattle.siman_scripts.specs.Stations.{WorldStationData}
use Rattle.siman_stations.specs.Deeds.{DeedsHaveNoCause, ReceivesSent}
use Rattle.siman_stations.specs.Halves.{HalvesFollow}
use Rattle.siman_stations.specs.Orders.{AreFit}
use Rattle.siman_stations.specs.Sending.{IsOrderInRange, next_repeat}
use Rattle.siman_stations.specs.Moments.{moment_of}
use Rattle.siman_stations.specs.StationTurn.{stamp_of, sent_as, AreOf}
use Rattle.siman_stations.proofs.Offered.{stamp_within, fit_requests, repeat_told, past-one, past-none, past-first, past-sent, past-came, log-own, log-other, own_sent, halves_begun, halves_take, halves_pass, halves_tell, halves_order, halves_tick, halves_repeat, deeds_stand, state_follows, all_run, SendsBytes, sends_bytes, bytes_first, bytes_both, was_bytes}
use Rattle.siman_stations.specs.World.{WorldData, Course, setting_of, no_station, station_of, outfit_of, settings_of, sent_in, datagram, brought, call_of, made_by, reply_by, arrival, repeated_by, state_by, entries_by, put_at, act_fault, after_move, course_of}
use Rattle.siman_stations.specs.WorldLaw.{IsWorldInRange, IsActInRange}
use Rattle.siman_stations.proofs.Made.{IsMade, AreMade, can_command}

-- What is put in front of the list of a station.

abbrev pub with_first : {X : Type 0} → Option X → List X → List X
with_first None xs = xs
with_first (Some x) xs = x ∷ xs

pub put_own : {X : Type 0} (s : ℕ) (x : X) (lists : ℕ → List X) → put_at s (Some x) lists s ≡ x ∷ lists s
put_own s x lists = ap (λ (b : Bool). if b then x ∷ lists s else lists s) (eq-eqb s s refl)

pub put_other : {X : Type 0} (t s : ℕ) (o : Option X) (lists : ℕ → List X) → (t == s) ≡ false → put_at t o lists s ≡ lists s
put_other t s None lists e = refl
put_other t s (Some x) lists e = ap (λ (b : Bool). if b then x ∷ lists s else lists s) e

put_first : {X : Type 0} (s : ℕ) (o : Option X) (lists : ℕ → List X) → put_at s o lists s ≡ with_first o (lists s)
put_first s None lists = refl
put_first s (Some x) lists = put_own s x lists

-- the station of an index is the same in the setting
station_is : (w : WorldData) (s : ℕ) → station_in (setting_of w) s ≡ (station_of w s).station
station_is w s = get_or-map (λ (o : WorldStationData). o.station) w.stations s no_station

-- What was sent.

sends_one : (b c : List ℕ) (s : ℕ) → c ≡ b → list_any (sends b) (Send s c ∷ []) ≡ true
sends_one b c s e = or_left (bytes_eq b c) false ((bytes_eq-Decides b c).1 (sym e))

any_later : (b : List ℕ) (h k : History) → list_any (sends b) h ≡ true → list_any (sends b) (h ++ k) ≡ true
any_later b h k e = list_any-append (sends b) h k ∙ or_left (list_any (sends b) h) (list_any (sends b) k) e

any_first : (b : List ℕ) (h k : History) → list_any (sends b) k ≡ true → list_any (sends b) (h ++ k) ≡ true
any_first b h k e = list_any-append (sends b) h k ∙ or_right (list_any (sends b) h) (list_any (sends b) k) e

-- a datagram with a number was sent
sent_before : (es : List Entry) (k : ℕ) (b : List ℕ) → slice_get (sent_in es) k ≡ Some b → list_any (sends b) (past es) ≡ true
sent_before [] k b e = absurd cc
sent_before (Sent s stamp c ∷ es) zero b e =
    let same : c ≡ b = cc in
    ap (list_any (sends b)) (past-first (Sent s stamp c) es) ∙ any_first b (past es) (Send s c ∷ []) (sends_one b c s same)
sent_before (Sent s stamp c ∷ es) (suc k) b e =
    ap (list_any (sends b)) (past-first (Sent s stamp c) es) ∙ any_later b (past es) (Send s c ∷ []) (sent_before es k b e)
sent_before (Received s stamp c ∷ es) k b e =
    ap (list_any (sends b)) (past-first (Received s stamp c) es) ∙ any_later b (past es) (Get s c ∷ []) (sent_before es k b e)
sent_before (Told s n y ∷ es) k b e =
    ap (list_any (sends b)) (past-first (Told s n y) es) ∙ any_later b (past es) (Tell s n y ∷ []) (sent_before es k b e)

was_sent_before : (c : Course) (k : ℕ) (b : List ℕ) → datagram c k ≡ Some b → was_sent b (past c.entries) ≡ true
unfolding was_sent
was_sent_before c k b e = sent_before c.entries k b e

-- The halves of a station.

-- the manager half after some calls
abbrev pub book_of : WorldData → ℕ → List Call → Book
book_of w s calls = record { settings = settings_of w s; orders = kept (settings_of w s) calls }

-- THE HALVES OF A STATION, where these PDUs came and these calls were made, are where its log leaves them; none wants for memory, and no reply is missing
abbrev pub Follows : WorldData → ℕ → List Pdu → List Call → History → Type 0
Follows w s qs calls log = HalvesFollow ⊥ s (outfit_of w s) (distinct (outfit_of w s) qs) (book_of w s calls) log ⊥

no_loss : (w : WorldData) (s : ℕ) (qs : List Pdu) (calls : List Call) (log : History) → (is : Follows w s qs calls log) → MissNone is.turns
no_loss w s qs calls log is = by is.missing where
  by : MissNone is.turns ⊎ ⊥ → MissNone is.turns
  by (inl h) = h
  by (inr h) = absurd h

no_want : (w : WorldData) (s : ℕ) (qs : List Pdu) (calls : List Call) (log : History) → (is : Follows w s qs calls log) → TakesAll is.turns
no_want w s qs calls log is = by is.passed where
  by : TakesAll is.turns ⊎ ⊥ → TakesAll is.turns
  by (inl h) = h
  by (inr h) = absurd h

-- the manager half after an order that is not refused
pub book_made : (w : WorldData) (s now : ℕ) (order : Order) (calls : List Call) → refusal (settings_of w s) (length (kept (settings_of w s) calls)) order (stamp_of now) ≡ None
    → with_orders (book_of w s calls) (with_order (settings_of w s) order now (stamp_of now) (kept (settings_of w s) calls))
    ≡ book_of w s (Requested order now (stamp_of now) ∷ calls)
book_made w s now order calls none =
    ap (λ r. with_orders (book_of w s calls) (after_request r (settings_of w s) order now (stamp_of now) (kept (settings_of w s) calls))) (sym none)

order_follows : (w : WorldData) (c : Course) (s now : ℕ) (order : Order) (log : History) → act_fault w c s now (Command order) ≡ None → IsOrderInRange order
    → Follows w s (c.came s) (c.calls s) log
    → Follows w s (c.came s) (Requested order now (stamp_of now) ∷ c.calls s) (past (sent_as s now (Some (made_by w c s now order))) ++ log)
order_follows w c s now order log can range is =
    let st = settings_of w s in
    let calls = c.calls s in
    let parts = can_command w c s now order can in
    let none : refusal st (length (kept st calls)) order (stamp_of now) ≡ None =
    ap (λ (n : ℕ). refusal st n order (stamp_of now)) (counts st calls) ∙ parts.1 in
    let first : HalvesFollow ⊥ s (outfit_of w s) (distinct (outfit_of w s) (c.came s)) (with_orders (book_of w s calls) (with_order st order now (stamp_of now) (kept st calls)))
    (sent_after s (Some (order_pdu st (next_id st (length (kept st calls))) order (stamp_of now))) log) ⊥ =
    halves_order s (outfit_of w s) (distinct (outfit_of w s) (c.came s)) (book_of w s calls) log ⊥ order now (stamp_of now) (stamp_within now) is refl refl parts.0 none range in
    subst (Follows w s (c.came s) (Requested order now (stamp_of now) ∷ calls)) (sym (past-sent s now (Some (made_by w c s now order)) log))
    (subst (λ (n : ℕ). Follows w s (c.came s) (Requested order now (stamp_of now) ∷ calls)
    (sent_after s (Some (order_pdu st (next_id st n) order (stamp_of now))) log)) (counts st calls)
    (subst (λ (k : Book). HalvesFollow ⊥ s (outfit_of w s) (distinct (outfit_of w s) (c.came s)) k
    (sent_after s (Some (order_pdu st (next_id st (length (kept st calls))) order (stamp_of now))) log) ⊥) (book_made w s now order calls none) first))

came_follows : (w : WorldData) (c : Course) (s now : ℕ) (b : List ℕ) (o : Option Pdu) (log : History) → ((i : ℕ) → slice_index b i < 256) → reading b ≡ o
    → Follows w s (c.came s) (c.calls s) log
    → Follows w s (with_first o (c.came s)) (with_first (option_map Came o) (c.calls s))
    (past (Received s now b ∷ sent_as s now (option_and_then (reply_by w c s now) o)) ++ log)
came_follows w c s now b None log bytes e is =
    subst (Follows w s (c.came s) (c.calls s)) (sym (past-came s now b None log))
    (halves_pass s (outfit_of w s) (distinct (outfit_of w s) (c.came s)) (book_of w s (c.calls s)) log ⊥ b (inl e) is)
came_follows w c s now b (Some q) log bytes e is =
    subst (Follows w s (q ∷ c.came s) (Came q ∷ c.calls s)) (sym (past-came s now b (reply_by w c s now q) log))
    (halves_take s (outfit_of w s) (distinct (outfit_of w s) (c.came s)) (book_of w s (c.calls s)) log ⊥ b q (stamp_of now) is
    (no_loss w s (c.came s) (c.calls s) log is) (record { bytes = bytes; read = e }) (stamp_within now))

arrival_follows : (w : WorldData) (c : Course) (s now : ℕ) (o : Option (List ℕ)) (log : History)
    → ((b : List ℕ) → o ≡ Some b → (i : ℕ) → slice_index b i < 256) → Follows w s (c.came s) (c.calls s) log
    → Follows w s (with_first (option_and_then reading o) (c.came s)) (with_first (option_map Came (option_and_then reading o)) (c.calls s))
    (past (arrival w c s now o) ++ log)
arrival_follows w c s now None log bytes is = subst (λ (h : History). Follows w s (c.came s) (c.calls s) (h ++ log)) (sym past-none) is
arrival_follows w c s now (Some b) log bytes is = came_follows w c s now b (reading b) log (bytes b refl) refl is

repeat_follows : (w : WorldData) (c : Course) (s now : ℕ) (log : History) (o : Option Pdu) → next_repeat (book_of w s (c.calls s)) (moment_of now) ≡ o
    → Follows w s (c.came s) (c.calls s) log → Follows w s (c.came s) (Ticked now (stamp_of now) ∷ c.calls s) (past (sent_as s now o) ++ log)
repeat_follows w c s now log None e is =
    subst (λ (h : History). Follows w s (c.came s) (Ticked now (stamp_of now) ∷ c.calls s) (h ++ log)) (sym past-none)
    (halves_tick s (outfit_of w s) (distinct (outfit_of w s) (c.came s)) (book_of w s (c.calls s)) log ⊥ now (stamp_of now) is)
repeat_follows w c s now log (Some p) e is =
    subst (Follows w s (c.came s) (Ticked now (stamp_of now) ∷ c.calls s)) (sym (past-sent s now (Some p) log))
    (halves_repeat s (outfit_of w s) (distinct (outfit_of w s) (c.came s)) (book_of w s (c.calls s)) log ⊥ now (stamp_of now) (stamp_within now) p is refl refl e)

-- the state by the log is that of the application
pub state_is : (w : WorldData) (c : Course) (s : ℕ) → Follows w s (c.came s) (c.calls s) (log_at s (past c.entries)) → (e : ℕ)
    → state_by w c s e ≡ state_over (outfit_of w s) (distinct (outfit_of w s) (c.came s)) e
state_is w c s is e =
    let log = log_at s (past c.entries) in
    state_follows s (outfit_of w s) (distinct (outfit_of w s) (c.came s)) (book_of w s (c.calls s)) log ⊥ is
    (no_loss w s (c.came s) (c.calls s) log is) (inl (no_want w s (c.came s) (c.calls s) log is)) e

-- THE HALVES OF THE STATION OF AN ACT after it
act_follows : (w : WorldData) (c : Course) (s now : ℕ) (act : Act) → act_fault w c s now act ≡ None → IsActInRange act → AreFit (c.calls s)
    → ((k : ℕ) (b : List ℕ) → datagram c k ≡ Some b → (i : ℕ) → slice_index b i < 256) → Follows w s (c.came s) (c.calls s) (log_at s (past c.entries))
    → Follows w s (with_first (brought c act) (c.came s)) (with_first (call_of c now act) (c.calls s))
    (past (entries_by w c s now act) ++ log_at s (past c.entries))
act_follows w c s now (Command order) can range fit bytes is = order_follows w c s now order (log_at s (past c.entries)) can range is
act_follows w c s now (Deliver k) can range fit bytes is =
    arrival_follows w c s now (datagram c k) (log_at s (past c.entries)) (λ b e. bytes k b e) is
act_follows w c s now Tick can range fit bytes is =
    repeat_follows w c s now (log_at s (past c.entries)) (repeated_by w c s now)
    (repeat_told (settings_of w s) (c.calls s) (fit_requests (c.calls s) fit) now (stamp_of now)) is
act_follows w c s now (TellState e) can range fit bytes is =
    let y = state_by w c s e in
    let log = log_at s (past c.entries) in
    subst (λ (h : History). Follows w s (c.came s) (c.calls s) (h ++ log)) (sym (past-one (Told s e y)))
    (halves_tell s (outfit_of w s) (distinct (outfit_of w s) (c.came s)) (book_of w s (c.calls s)) log ⊥ e y is
    (no_loss w s (c.came s) (c.calls s) log is) (state_is w c s is e))

-- What an act adds.

-- all its entries are of its station
arrival_own : (w : WorldData) (c : Course) (s now : ℕ) (o : Option (List ℕ)) → AreOf s (arrival w c s now o)
arrival_own w c s now None = tt
arrival_own w c s now (Some b) = (refl, own_sent s now (option_and_then (reply_by w c s now) (reading b)))

act_own : (w : WorldData) (c : Course) (s now : ℕ) (act : Act) → AreOf s (entries_by w c s now act)
act_own w c s now (Command order) = own_sent s now (Some (made_by w c s now order))
act_own w c s now (Deliver k) = arrival_own w c s now (datagram c k)
act_own w c s now Tick = own_sent s now (repeated_by w c s now)
act_own w c s now (TellState e) = (refl, tt)

-- what is said of a history is said of it with the events of an act, where it is so of what is sent, of a datagram that comes, and of a state that is told
abbrev GoesOn : (History → Type 0) → Course → ℕ → History → Type 0
GoesOn P c s h =
    ((b : List ℕ) (g : History) → P g → P (Send s b ∷ g)) × ((k : ℕ) (b : List ℕ) → datagram c k ≡ Some b → P (Get s b ∷ h))
    × ((e : ℕ) (y : EntityState) → P (Tell s e y ∷ h))

sent_more : (P : History → Type 0) (c : Course) (s : ℕ) (h g : History) (o : Option Pdu) → GoesOn P c s h → P g → P (sent_after s o g)
sent_more P c s h g None on is = is
sent_more P c s h g (Some p) on is = on.0 _ g is

arrival_more : (P : History → Type 0) (w : WorldData) (c : Course) (s now k : ℕ) (h : History) (o : Option (List ℕ)) → GoesOn P c s h → P h → datagram c k ≡ o
    → P (past (arrival w c s now o) ++ h)
arrival_more P w c s now k h None on is e = subst (λ (g : History). P (g ++ h)) (sym past-none) is
arrival_more P w c s now k h (Some b) on is e =
    let o = option_and_then (reply_by w c s now) (reading b) in
    subst P (sym (past-came s now b o h)) (sent_more P c s h (Get s b ∷ h) o on (on.1 k b e))

act_more : (P : History → Type 0) (w : WorldData) (c : Course) (s now : ℕ) (act : Act) (h : History) → GoesOn P c s h → P h
    → P (past (entries_by w c s now act) ++ h)
act_more P w c s now (Command order) h on is =
    let o = Some (made_by w c s now order) in subst P (sym (past-sent s now o h)) (sent_more P c s h h o on is)
act_more P w c s now (Deliver k) h on is = arrival_more P w c s now k h (datagram c k) on is refl
act_more P w c s now Tick h on is =
    let o = repeated_by w c s now in subst P (sym (past-sent s now o h)) (sent_more P c s h h o on is)
act_more P w c s now (TellState e) h on is =
    let y = state_by w c s e in subst (λ (g : History). P (g ++ h)) (sym (past-one (Told s e y))) (on.2 e y)

came_fit : (past : List Call) (o : Option Pdu) → AreFit past → AreFit (with_first (option_map Came o) past)
came_fit past None fit = fit
came_fit past (Some q) fit = fit

act_fit : (w : WorldData) (c : Course) (s now : ℕ) (act : Act) → act_fault w c s now act ≡ None → IsActInRange act → AreFit (c.calls s)
    → AreFit (with_first (call_of c now act) (c.calls s))
act_fit w c s now (Command order) can range fit =
    (record { request = (can_command w c s now order can).0; range = range; stamp_is = stamp_within now }, fit)
act_fit w c s now (Deliver k) can range fit = came_fit (c.calls s) (brought c (Deliver k)) fit
act_fit w c s now Tick can range fit = fit
act_fit w c s now (TellState e) can range fit = fit

-- A world.

-- WHAT STANDS OF A WORLD after what happened
pub record IsSound (w : WorldData) (c : Course) : Type 0 where
  pub halves : (s : ℕ) → s < length w.stations → Follows w s (c.came s) (c.calls s) (log_at s (past c.entries))
  pub fit : (s : ℕ) → AreFit (c.calls s)
  pub bytes : SendsBytes (past c.entries)
  pub received : ReceivesSent (setting_of w) (past c.entries)
  pub within : AllByRecursion (λ v. whose v < length w.stations) (past c.entries)

all_bytes : (w : WorldData) (c : Course) → IsSound w c → (k : ℕ) (b : List ℕ) → datagram c k ≡ Some b → (i : ℕ) → slice_index b i < 256
all_bytes w c is k b e = was_bytes b (past c.entries) is.bytes (was_sent_before c k b e)

halves_on : (w : WorldData) (c : Course) (m : Move) → IsSound w c → IsMade w c m → (s : ℕ) → s < length w.stations
    → Follows w s ((after_move w c m).came s) ((after_move w c m).calls s) (log_at s (past (after_move w c m).entries))
halves_on w c m is made s within = by (m.station == s) refl where
  t : ℕ
  t = m.station

  new : List Entry
  new = entries_by w c t m.now m.act

  own : Follows w t (put_at t (brought c m.act) c.came t) (put_at t (call_of c m.now m.act) c.calls t) (log_at t (past (c.entries ++ new)))
  own =
      subst (Follows w t (put_at t (brought c m.act) c.came t) (put_at t (call_of c m.now m.act) c.calls t)) (sym (log-own t c.entries new (act_own w c t m.now m.act)))
      (subst (λ (qs : List Pdu). Follows w t qs (put_at t (call_of c m.now m.act) c.calls t) (past new ++ log_at t (past c.entries)))
      (sym (put_first t (brought c m.act) c.came))
      (subst (λ (calls : List Call). Follows w t (with_first (brought c m.act) (c.came t)) calls (past new ++ log_at t (past c.entries)))
      (sym (put_first t (call_of c m.now m.act) c.calls))
      (act_follows w c t m.now m.act made.can made.range (is.fit t) (all_bytes w c is) (is.halves t made.within))))

  by : (b : Bool) → (t == s) ≡ b
      → Follows w s (put_at t (brought c m.act) c.came s) (put_at t (call_of c m.now m.act) c.calls s) (log_at s (past (c.entries ++ new)))
  by true e =
      subst (λ (u : ℕ). Follows w u (put_at t (brought c m.act) c.came u) (put_at t (call_of c m.now m.act) c.calls u) (log_at u (past (c.entries ++ new))))
      (eqb-true t s e) own
  by false e =
      subst (Follows w s (put_at t (brought c m.act) c.came s) (put_at t (call_of c m.now m.act) c.calls s))
      (sym (log-other t s c.entries new e (act_own w c t m.now m.act)))
      (subst (λ (qs : List Pdu). Follows w s qs (put_at t (call_of c m.now m.act) c.calls s) (log_at s (past c.entries)))
      (sym (put_other t s (brought c m.act) c.came e))
      (subst (λ (calls : List Call). Follows w s (c.came s) calls (log_at s (past c.entries))) (sym (put_other t s (call_of c m.now m.act) c.calls e))
      (is.halves s within)))

fit_on : (w : WorldData) (c : Course) (m : Move) → IsSound w c → IsMade w c m → (s : ℕ) → AreFit ((after_move w c m).calls s)
fit_on w c m is made s = by (m.station == s) refl where
  by : (b : Bool) → (m.station == s) ≡ b → AreFit (put_at m.station (call_of c m.now m.act) c.calls s)
  by true e =
      subst (λ (u : ℕ). AreFit (put_at m.station (call_of c m.now m.act) c.calls u)) (eqb-true m.station s e)
      (subst AreFit (sym (put_first m.station (call_of c m.now m.act) c.calls)) (act_fit w c m.station m.now m.act made.can made.range (is.fit m.station)))
  by false e = subst AreFit (sym (put_other m.station s (call_of c m.now m.act) c.calls e)) (is.fit s)

sound_on : (w : WorldData) (c : Course) (m : Move) → IsSound w c → IsMade w c m → IsSound w (after_move w c m)
sound_on w c m is made = record {
  halves = halves_on w c m is made;
  fit = fit_on w c m is made;
  bytes = more SendsBytes (bytes_both (past new) (past c.entries) (bytes_first (past new) (log_at t (past c.entries)) sent) is.bytes);
  received = more (ReceivesSent (setting_of w)) (act_more (ReceivesSent (setting_of w)) w c t m.now m.act (past c.entries)
      (λ b g h. h, λ k b e. (λ p f. was_sent_before c k b e, is.received), λ e y. is.received) is.received);
  within = more (AllByRecursion (λ v. whose v < length w.stations)) (act_more (AllByRecursion (λ v. whose v < length w.stations)) w c t m.now m.act
      (past c.entries) (λ b g h. (made.within, h), λ k b e. (made.within, is.within), λ e y. (made.within, is.within)) is.within);
} where
  t : ℕ
  t = m.station

  new : List Entry
  new = entries_by w c t m.now m.act

  more : (P : History → Type 0) → P (past new ++ past c.entries) → P (past (c.entries ++ new))
  more P h = subst P (sym (past-append c.entries new)) h

  sent : SendsBytes (past new ++ log_at t (past c.entries))
  sent =
      sends_bytes t (outfit_of w t) (distinct (outfit_of w t) (with_first (brought c m.act) (c.came t))) (book_of w t (with_first (call_of c m.now m.act) (c.calls t)))
      (past new ++ log_at t (past c.entries)) ⊥
      (act_follows w c t m.now m.act made.can made.range (is.fit t) (all_bytes w c is) (is.halves t made.within))

begun : (w : WorldData) → IsWorldInRange w → (s : ℕ) → s < length w.stations → Follows w s [] [] (log_at s (past []))
unfolding past log_at
begun w own s within = halves_begun s (outfit_of w s) (book_of w s []) ⊥ [] refl refl (own s within)

none_sent : SendsBytes (past [])
unfolding past
none_sent = tt

none_received : (w : WorldData) → ReceivesSent (setting_of w) (past [])
unfolding past
none_received w = tt

none_there : (w : WorldData) → AllByRecursion (λ v. whose v < length w.stations) (past [])
unfolding past
none_there w = tt

-- WHAT STANDS OF A WORLD after all moves
pub all_sound : (w : WorldData) (moves : List Move) → IsWorldInRange w → AreMade w moves → IsSound w (course_of w moves)
unfolding course_of
all_sound w [] own made = record {
  halves = begun w own;
  fit = λ s. tt;
  bytes = none_sent;
  received = none_received w;
  within = none_there w;
}
all_sound w (m ∷ earlier) own made = sound_on w (course_of w earlier) m (all_sound w earlier own made.1) made.0

-- WHAT HAPPENS IN A WORLD is a run
pub sound_run : (w : WorldData) (c : Course) → IsSound w c → IsRun (setting_of w) (past c.entries)
sound_run w c is = all_run (setting_of w) (past c.entries) deeds there is.received where
  deeds : (s : ℕ) → s < length (setting_of w).stations → DeedsHaveNoCause w.exercise (station_in (setting_of w) s) (log_at s (past c.entries))
  deeds s within =
      let log = log_at s (past c.entries) in
      let follows = is.halves s (subst (λ (n : ℕ). s < n) (length-map w.stations (λ (o : WorldStationData). o.station)) within) in
      subst (λ (o : StationData). DeedsHaveNoCause w.exercise o log) (sym (station_is w s))
      (deeds_stand s (outfit_of w s) (distinct (outfit_of w s) (c.came s)) (book_of w s (c.calls s)) log ⊥ follows refl
      (inl (no_want w s (c.came s) (c.calls s) log follows)))

  there : AllByRecursion (λ v. whose v < length (setting_of w).stations) (past c.entries)
  there = subst (λ (n : ℕ). AllByRecursion (λ v. whose v < n) (past c.entries)) (sym (length-map w.stations (λ (o : WorldStationData). o.station))) is.within
