-- A world as it is begun.
use Rattle.std.proofs.Common.{◌≡◌, ℕ, zero, suc, ◌<◌, Bool, ◌&&◌, true, false, List, [], ◌∷◌, ◌++◌, length, get_or, Some, refl, sym, ap, subst, ◌∙◌, arith}
use Rattle.std.specs.Prelude.{slice_get}
use Rattle.std.specs.List.{list_all}
use Rattle.exercise_model.specs.Recording.{opened}
use Rattle.siman_application.specs.AppProfile.{AppProfile}
use Rattle.siman_application.specs.KeptRequests.{requests}
use Rattle.siman_application.specs.Ranges.{IsProfileInRange}
use Rattle.siman_application.specs.declared.kept.AnsweredRequest.{AnsweredRequest}
use Rattle.siman_manager.specs.Book.{Book}
use Rattle.siman_manager.specs.declared.kept.MadeOrder.{MadeOrder}
use Rattle.siman_manager.specs.declared.settings.Settings.{Settings}
use Rattle.siman_stations.specs.declared.turn.Node.{Node}
use Rattle.siman_stations.specs.declared.world.World.{World}
use Rattle.siman_scripts.specs.Stations.{WorldStationData}
use Rattle.siman_stations.specs.World.{WorldData, setting_of, settings_of, is_world_station, no_station, course_of}
use Rattle.siman_stations.specs.Acts.{sends_of}
use Rattle.siman_stations.specs.Holds.{IsNode, IsNewNode, AreNewNodes, IsAfter}

-- one more station and its halves
pub new_push : (x : ℕ) (ss : List WorldStationData) (ns : List Node) (s : WorldStationData) (n : Node) → AreNewNodes x ss ns → IsNewNode x s n
    → AreNewNodes x (ss ++ s ∷ []) (ns ++ n ∷ [])
new_push x [] [] s n are is = (is, tt)
new_push x (t ∷ ss) (m ∷ ns) s n are is = (are.0, new_push x ss ns s n are.1 is)
new_push x [] (m ∷ ns) s n are is = absurd are
new_push x (t ∷ ss) [] s n are is = absurd are

new_length : (x : ℕ) (ss : List WorldStationData) (ns : List Node) → AreNewNodes x ss ns → length ns ≡ length ss
new_length x [] [] are = refl
new_length x (s ∷ ss) (n ∷ ns) are = ap suc (new_length x ss ns are.1)
new_length x [] (n ∷ ns) are = absurd are
new_length x (s ∷ ss) [] are = absurd are

pub and_true : (a b : Bool) → a ≡ true → b ≡ true → (a && b) ≡ true
and_true a b e f = rw e f

-- such stations can be those of a world, but for their addresses
pub new_fit : (x : ℕ) (ss : List WorldStationData) (ns : List Node) → AreNewNodes x ss ns → list_all is_world_station ss ≡ true
new_fit x [] [] are = refl
new_fit x (s ∷ ss) (n ∷ ns) are = and_true (is_world_station s) (list_all is_world_station ss) are.0.fits (new_fit x ss ns are.1)
new_fit x [] (n ∷ ns) are = absurd are
new_fit x (s ∷ ss) [] are = absurd are

new_at : (x : ℕ) (ss : List WorldStationData) (ns : List Node) (d : WorldStationData) → AreNewNodes x ss ns → (k : ℕ) (n : Node) → slice_get ns k ≡ Some n
    → IsNewNode x (get_or ss k d) n
new_at x [] [] d are k n e = absurd cc
new_at x (s ∷ ss) (m ∷ ns) d are zero n e = let same : m ≡ n = cc in subst (IsNewNode x s) same are.0
new_at x (s ∷ ss) (m ∷ ns) d are (suc k) n e = new_at x ss ns d are.1 k n e
new_at x [] (m ∷ ns) d are k n e = absurd are
new_at x (s ∷ ss) [] d are k n e = absurd are

-- what the application half of a station is begun with
abbrev outfit_for : ℕ → WorldStationData → AppProfile
outfit_for x s = record { exercise = x; station = s.station; datums = s.datums; actions = s.actions }

new_range : (x : ℕ) (ss : List WorldStationData) (ns : List Node) (d : WorldStationData) → AreNewNodes x ss ns → (k : ℕ) → k < length ss
    → IsProfileInRange (outfit_for x (get_or ss k d))
new_range x [] [] d are k below = absurd (omega arith)
new_range x (s ∷ ss) (n ∷ ns) d are zero below = subst IsProfileInRange are.0.outfit are.0.ranges
new_range x (s ∷ ss) (n ∷ ns) d are (suc k) below = new_range x ss ns d are.1 k (omega arith)
new_range x [] (n ∷ ns) d are k below = absurd are
new_range x (s ∷ ss) [] d are k below = absurd are

new_node : (w : WorldData) (s : ℕ) (n : Node) → IsNewNode w.exercise (get_or w.stations s no_station) n → IsNode w s [] [] n
new_node w s n is = record {
  outfit = is.outfit;
  came_is = ap (λ (ks : List AnsweredRequest). requests ks) is.kept_is;
  manager = bound n.manager is.settings is.orders;
} where
  bound : (b : Book) → b.settings ≡ settings_of w s → b.orders ≡ [] → b ≡ record { settings = settings_of w s; orders = [] }
  bound b e f = ap (λ (x : Settings). record b { settings = x }) e
      ∙ ap (λ (o : List MadeOrder). let r : Book = record { settings = settings_of w s; orders = o } in r) f

-- A WORLD AS IT IS BEGUN is after no move
pub begun : (w : WorldData) (world : World) → AreNewNodes w.exercise w.stations world.nodes.items → world.journal.recording ≡ opened (setting_of w)
    → sends_of world.journal ≡ [] → IsAfter w [] world
unfolding course_of
begun w world are recording sends = record {
  world = λ s below. new_range w.exercise w.stations world.nodes.items no_station are s below;
  moves_are = tt;
  made = refl;
  holds = record {
    recording = recording;
    sends = sends;
    count = new_length w.exercise w.stations world.nodes.items are;
    nodes = λ s n e. new_node w s n (new_at w.exercise w.stations world.nodes.items no_station are s n e);
  };
}

-- Stations that cannot be those of a world.

pub one_unfit : (ss : List WorldStationData) (k : ℕ) (s : WorldStationData) → k < length ss → s ≡ get_or ss k s → is_world_station s ≡ false
    → list_all is_world_station ss ≡ false
one_unfit [] k s below e f = absurd (omega arith)
one_unfit (t ∷ ss) zero s below e f =
    ap (λ (x : WorldStationData). is_world_station x && list_all is_world_station ss) (sym e) ∙ ap (λ (b : Bool). b && list_all is_world_station ss) f
one_unfit (t ∷ ss) (suc k) s below e f = ap (λ (b : Bool). is_world_station t && b) (one_unfit ss k s (omega arith) e f) ∙ and_false (is_world_station t) where
  and_false : (b : Bool) → (b && false) ≡ false
  and_false true = refl
  and_false false = refl
