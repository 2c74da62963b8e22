-- What an act makes of the halves of a station is what is told of the PDUs that came and of the calls.
use Rattle.std.proofs.Common.{◌≡◌, ℕ, List, [], ◌∷◌, length, Option, Some, None, refl, sym, ap, subst, ◌∙◌}
use Rattle.std.specs.Prelude.{Bool, true, false, slice_get, option_map, option_and_then, nat_lt, if◌then◌else◌}
use Rattle.dis_records.specs.declared.entity_state.EntityState.{EntityState}
use Rattle.siman_pdus.specs.declared.pdu.Pdu.{Pdu}
use Rattle.siman_pdus.specs.Reading.{reading}
use Rattle.siman_pdus.specs.Role.{is_request_body}
use Rattle.exercise_model.specs.Entry.{Received, Told}
use Rattle.exercise_model.specs.Station.{is_entity}
use Rattle.siman_application.specs.Distinct.{distinct, with_request}
use Rattle.siman_application.specs.AppProfile.{AppProfile}
use Rattle.siman_application.specs.Play.{state_over, reply_after}
use Rattle.siman_application.specs.Application.{came}
use Rattle.siman_manager.specs.declared.fault.OrderFault.{OrderFault}
use Rattle.siman_manager.specs.declared.order.Order.{Order}
use Rattle.siman_manager.specs.Answers.{taken, with_orders, ticked}
use Rattle.siman_manager.specs.Book.{Book, order_pdu, next_id, refusal, with_order}
use Rattle.siman_manager.specs.Calls.{Call, Requested, Came, Ticked, AreRequests, kept, count_made}
use Rattle.siman_manager.proofs.Offered.{counts}
use Rattle.siman_scripts.specs.declared.act.Act.{Act}
use Rattle.siman_scripts.specs.declared.act.Act.TheVariants.{Command, Deliver, Tick, Tell}
use Rattle.siman_stations.specs.declared.turn.Node.{Node}
use Rattle.siman_stations.specs.declared.world_fault.MoveFault.TheVariants as faults
use Rattle.siman_stations.specs.Moments.{moment_of}
use Rattle.siman_stations.specs.StationTurn.{stamp_of, sent_as, reply_due, TakesBoth}
use Rattle.siman_stations.specs.World.{WorldData, Course, outfit_of, settings_of, sent_in, datagram, brought, call_of, put_at, reply_by, arrival, state_by, entries_by, act_fault}
use Rattle.siman_stations.specs.declared.station_fault.StationFault.TheVariants as station_faults
use Rattle.siman_stations.specs.Asked.{order_fault}
use Rattle.siman_stations.specs.Sending.{next_order, after_order, next_repeat, after_tick}
use Rattle.siman_stations.specs.Acts.{as_move, turn_if, halves_fault, halves_entries, Goes}
use Rattle.siman_stations.specs.Holds.{IsNode}
use Rattle.siman_stations.proofs.Offered.{repeat_told}
use Rattle.siman_stations.proofs.Made.{can_order}
use Rattle.siman_stations.proofs.Stations.{put_own, book_made}

-- Entries.

made_same : (w : WorldData) (s now : ℕ) (order : Order) (qs : List Pdu) (calls : List Call) (n : Node) → IsNode w s qs calls n
    → next_order n.manager (stamp_of now) order ≡ order_pdu (settings_of w s) (next_id (settings_of w s) (count_made (settings_of w s) calls)) order (stamp_of now)
made_same w s now order qs calls n is =
    ap (λ (b : Book). next_order b (stamp_of now) order) is.manager
    ∙ ap (λ (k : ℕ). order_pdu (settings_of w s) (next_id (settings_of w s) k) order (stamp_of now)) (counts (settings_of w s) calls)

reply_same : (w : WorldData) (c : Course) (s now : ℕ) (n : Node) (q : Pdu) → IsNode w s (c.came s) (c.calls s) n
    → reply_due n.application (Some q) (stamp_of now) ≡ reply_by w c s now q
reply_same w c s now n q is =
    ap (λ (a : AppProfile). reply_after a (came n.application) q (stamp_of now)) is.outfit
    ∙ ap (λ (ds : List Pdu). reply_after (outfit_of w s) ds q (stamp_of now)) is.came_is

due_same : (w : WorldData) (c : Course) (s now : ℕ) (n : Node) (r : Option Pdu) → IsNode w s (c.came s) (c.calls s) n
    → reply_due n.application r (stamp_of now) ≡ option_and_then (reply_by w c s now) r
due_same w c s now n None is = refl
due_same w c s now n (Some q) is = reply_same w c s now n q is

turn_same : (w : WorldData) (c : Course) (s now : ℕ) (n : Node) (o : Option (List ℕ)) → IsNode w s (c.came s) (c.calls s) n
    → turn_if n.application s now o ≡ arrival w c s now o
turn_same w c s now n None is = refl
turn_same w c s now n (Some b) is = ap (λ (p : Option Pdu). Received s now b ∷ sent_as s now p) (due_same w c s now n (reading b) is)

-- by the log of a station the states are those of its application
abbrev pub AreTold : WorldData → Course → ℕ → Type 0
AreTold w c s = (e : ℕ) → state_by w c s e ≡ state_over (outfit_of w s) (distinct (outfit_of w s) (c.came s)) e

-- the entries of an act
pub entries_same : (w : WorldData) (c : Course) (s now : ℕ) (act : Act) (sends : List (List ℕ)) (n : Node) → IsNode w s (c.came s) (c.calls s) n
    → AreRequests (c.calls s) → AreTold w c s → sends ≡ sent_in c.entries → halves_entries sends n s now act ≡ entries_by w c s now act
entries_same w c s now (Command order) sends n is are told same = ap (λ (p : Pdu). sent_as s now (Some p)) (made_same w s now order (c.came s) (c.calls s) n is)
entries_same w c s now (Deliver k) sends n is are told same =
    ap (λ (bs : List (List ℕ)). turn_if n.application s now (slice_get bs k)) same ∙ turn_same w c s now n (datagram c k) is
entries_same w c s now Tick sends n is are told same =
    ap (λ (b : Book). sent_as s now (next_repeat b (moment_of now))) is.manager
    ∙ ap (λ (p : Option Pdu). sent_as s now p) (repeat_told (settings_of w s) (c.calls s) are now (stamp_of now))
entries_same w c s now (Tell e) sends n is are told same =
    ap (λ (y : EntityState). Told s e y ∷ [])
    (ap (λ (a : AppProfile). state_over a (came n.application) e) is.outfit ∙ (ap (λ (ds : List Pdu). state_over (outfit_of w s) ds e) is.came_is ∙ sym (told e)))

-- The fault of an act.

order_same : (request : Bool) (r : Option OrderFault)
    → as_move (if request then option_map station_faults.Order r else Some station_faults.NotARequest)
    ≡ (if request then option_map faults.Order r else Some faults.NotARequest)
order_same false r = refl
order_same true None = refl
order_same true (Some fault) = refl

tell_same : (there : Bool) → as_move (if there then None else Some station_faults.NoSuchEntity) ≡ (if there then None else Some faults.NoSuchEntity)
tell_same true = refl
tell_same false = refl

pub act_same : (w : WorldData) (c : Course) (s now : ℕ) (act : Act) (sends : List (List ℕ)) (n : Node) → IsNode w s (c.came s) (c.calls s) n
    → sends ≡ sent_in c.entries → halves_fault sends n now act ≡ act_fault w c s now act
act_same w c s now (Command order) sends n is same =
    ap (λ (b : Book). as_move (order_fault b (stamp_of now) order)) is.manager
    ∙ (order_same (is_request_body order.body) (refusal (settings_of w s) (length (kept (settings_of w s) (c.calls s))) order (stamp_of now))
    ∙ ap (λ (k : ℕ). if is_request_body order.body then option_map faults.Order
    (refusal (settings_of w s) k order (stamp_of now)) else Some faults.NotARequest) (counts (settings_of w s) (c.calls s)))
act_same w c s now (Deliver k) sends n is same = ap (λ (bs : List (List ℕ)). if nat_lt k (length bs) then None else Some faults.NoSuchSend) same
act_same w c s now Tick sends n is same = refl
act_same w c s now (Tell e) sends n is same = tell_same (is_entity e)

-- The halves after an act.

made_on : (w : WorldData) (s now : ℕ) (order : Order) (qs : List Pdu) (calls : List Call) (before after : Node) → IsNode w s qs calls before
    → refusal (settings_of w s) (count_made (settings_of w s) calls) order (stamp_of now) ≡ None → after ≡ after_order before (moment_of now) order
    → IsNode w s qs (Requested order now (stamp_of now) ∷ calls) after
made_on w s now order qs calls before after is can goes =
    let none : refusal (settings_of w s) (length (kept (settings_of w s) calls)) order (stamp_of now) ≡ None =
    ap (λ (k : ℕ). refusal (settings_of w s) k order (stamp_of now)) (counts (settings_of w s) calls) ∙ can in
    record {
      outfit = ap (λ (n : Node). n.application.outfit) goes ∙ is.outfit;
      came_is = ap (λ (n : Node). came n.application) goes ∙ is.came_is;
      manager = ap (λ (n : Node). n.manager) goes ∙ (ap (λ (b : Book). with_orders b (with_order b.settings order now (stamp_of now) b.orders)) is.manager
          ∙ book_made w s now order calls none);
    }

took_on : (w : WorldData) (s : ℕ) (q : Pdu) (qs : List Pdu) (calls : List Call) (before after : Node) → IsNode w s qs calls before
    → TakesBoth (Some q) before after → IsNode w s (q ∷ qs) (Came q ∷ calls) after
took_on w s q qs calls before after is goes = record {
  outfit = goes.0.outfit ∙ is.outfit;
  came_is = goes.0.came_is ∙ (ap (λ (a : AppProfile). with_request a (came before.application) q) is.outfit
      ∙ ap (λ (ds : List Pdu). with_request (outfit_of w s) ds q) is.came_is);
  manager = goes.1 ∙ ap (λ (b : Book). taken b q) is.manager;
}

came_on : (w : WorldData) (c : Course) (s : ℕ) (r : Option Pdu) (before after : Node) → IsNode w s (c.came s) (c.calls s) before
    → TakesBoth r before after → IsNode w s (put_at s r c.came s) (put_at s (option_map Came r) c.calls s) after
came_on w c s None before after is goes = subst (IsNode w s (c.came s) (c.calls s)) (sym goes) is
came_on w c s (Some q) before after is goes =
    subst (λ (qs : List Pdu). IsNode w s qs (put_at s (Some (Came q)) c.calls s) after) (sym (put_own s q c.came))
    (subst (λ (calls : List Call). IsNode w s (q ∷ c.came s) calls after) (sym (put_own s (Came q) c.calls))
    (took_on w s q (c.came s) (c.calls s) before after is goes))

ticked_on : (w : WorldData) (s now : ℕ) (qs : List Pdu) (calls : List Call) (before after : Node) → IsNode w s qs calls before
    → after ≡ after_tick before (moment_of now) → IsNode w s qs (Ticked now (stamp_of now) ∷ calls) after
ticked_on w s now qs calls before after is goes = record {
  outfit = ap (λ (n : Node). n.application.outfit) goes ∙ is.outfit;
  came_is = ap (λ (n : Node). came n.application) goes ∙ is.came_is;
  manager = ap (λ (n : Node). n.manager) goes ∙ ap (λ (b : Book). ticked b now (stamp_of now)) is.manager;
}

-- the halves of the station of a move go on as what came to it and its calls do
pub node_on : (w : WorldData) (c : Course) (s now : ℕ) (act : Act) (sends : List (List ℕ)) (before after : Node) → IsNode w s (c.came s) (c.calls s) before
    → sends ≡ sent_in c.entries → act_fault w c s now act ≡ None → Goes sends now act before after
    → IsNode w s (put_at s (brought c act) c.came s) (put_at s (call_of c now act) c.calls s) after
node_on w c s now (Command order) sends before after is same can goes =
    subst (λ (calls : List Call). IsNode w s (c.came s) calls after) (sym (put_own s (Requested order now (stamp_of now)) c.calls))
    (made_on w s now order (c.came s) (c.calls s) before after is
    (can_order (is_request_body order.body) (refusal (settings_of w s) (count_made (settings_of w s) (c.calls s)) order (stamp_of now)) can).1 goes)
node_on w c s now (Deliver k) sends before after is same can goes =
    came_on w c s (brought c (Deliver k)) before after is
    (subst (λ (bs : List (List ℕ)). TakesBoth (option_and_then reading (slice_get bs k)) before after) same goes)
node_on w c s now Tick sends before after is same can goes =
    subst (λ (calls : List Call). IsNode w s (c.came s) calls after) (sym (put_own s (Ticked now (stamp_of now)) c.calls))
    (ticked_on w s now (c.came s) (c.calls s) before after is goes)
node_on w c s now (Tell e) sends before after is same can goes = subst (IsNode w s (c.came s) (c.calls s)) (sym goes) is
