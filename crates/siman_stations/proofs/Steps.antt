-- What one move makes of a world as it is kept.
use Rattle.std.proofs.Common.{◌≡◌, ℕ, ◌+◌, ◌<◌, ◌≤◌, zero, suc, Bool, ◌&&◌, nat_le, nat_lt, true, false, List, [], ◌∷◌, length, get_or, Some, Result, Ok, Err, refl, sym, ap, subst, ◌∙◌, arith}
use Rattle.std.proofs.lemmas.Bool.Decides.{nat_tests}
use Rattle.std.proofs.lemmas.Option.{slice_get-get_or}
use Rattle.std.specs.Prelude.{slice_get, OnOk}
use Rattle.std.specs.List.{list_all}
use Rattle.dis_records.specs.declared.header.TheConstants.{LARGEST_DATAGRAM}
use Rattle.exercise_model.specs.declared.recording.TheConstants.{MOST_ENTRIES}
use Rattle.exercise_model.specs.Entry.{Entry, Sent, Received, Told, is_entry}
use Rattle.siman_scripts.specs.declared.act.Move.{Move}
use Rattle.siman_stations.specs.declared.turn.Node.{Node}
use Rattle.siman_stations.specs.declared.world.World.{World}
use Rattle.siman_stations.specs.World.{sent_in}
use Rattle.siman_stations.specs.Acts.{AreShort, sends_of, halves_fault}
use Rattle.siman_stations.specs.Moves.{step_fault}

-- what two facts of an answer give
pub both_ok : {T E P Q R : Type 0} (r : Result T E) → (P → Q → R) → OnOk r P → OnOk r Q → OnOk r R
both_ok (Ok v) f p q = f p q
both_ok (Err e) f p q = tt

and_both : (a b : Bool) → (a && b) ≡ true → (a ≡ true) × (b ≡ true)
and_both true b h = (refl, h)
and_both false b h = cc

short_of : (below : Bool) (n : ℕ) → (below && nat_le n LARGEST_DATAGRAM) ≡ true → n ≤ LARGEST_DATAGRAM
short_of below n h = let k : nat_le n LARGEST_DATAGRAM ≡ true = (and_both below (nat_le n LARGEST_DATAGRAM) h).1 in grind (arith, nat_tests)

-- no entry of a recording sends a datagram that is too long
pub all_short : (n : ℕ) (es : List Entry) → list_all (is_entry n) es ≡ true → AreShort (sent_in es)
all_short n [] h k b is = cc
all_short n (Sent s stamp d ∷ es) h zero b is =
    let e : d ≡ b = cc in
    subst (λ (x : List ℕ). length x ≤ LARGEST_DATAGRAM) e
    (short_of (nat_lt s n) (length d) (and_both (nat_lt s n && nat_le (length d) LARGEST_DATAGRAM) (list_all (is_entry n) es) h).0)
all_short n (Sent s stamp d ∷ es) h (suc k) b is = all_short n es (and_both (is_entry n (Sent s stamp d)) (list_all (is_entry n) es) h).1 k b is
all_short n (Received s stamp d ∷ es) h k b is = all_short n es (and_both (is_entry n (Received s stamp d)) (list_all (is_entry n) es) h).1 k b is
all_short n (Told s e y ∷ es) h k b is = all_short n es (and_both (is_entry n (Told s e y)) (list_all (is_entry n) es) h).1 k b is

-- the halves at a place
pub node_at : (nodes : List Node) (i s : ℕ) (n : Node) → i < length nodes → i ≡ s → n ≡ get_or nodes i n → slice_get nodes s ≡ Some n
node_at nodes i s n below same is = ap (slice_get nodes) (sym same) ∙ (slice_get-get_or nodes i n below ∙ ap Some (sym is))

room_is : (n : ℕ) → n + 2 ≤ MOST_ENTRIES → nat_le (n + 2) MOST_ENTRIES ≡ true
room_is n h = grind (arith, nat_tests)

-- where there is room, and the halves are there, a move is refused where these refuse the act
pub fault_at : (w : World) (m : Move) (n : Node) → length w.journal.recording.entries + 2 ≤ MOST_ENTRIES → slice_get w.nodes.items m.station ≡ Some n
    → step_fault w m ≡ halves_fault (sends_of w.journal) n m.now m.act
fault_at w m n room is = rw (room_is (length w.journal.recording.entries) room) (rw is refl)
