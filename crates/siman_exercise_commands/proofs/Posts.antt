-- Stations of a script as they are begun, and at their lines.
use Rattle.std.proofs.Common.{◌≡◌, ℕ, ◌+◌, ◌<◌, zero, suc, List, [], ◌∷◌, length, map, refl, ap, sym, ◌∙◌, subst, arith}
use Rattle.std.specs.Prelude.{true, false, Option, Some, option_map, slice_get}
use Rattle.std.specs.List.{zip}
use Rattle.std.proofs.lemmas.List.{length-map}
use Rattle.std.proofs.lemmas.Option.{slice_get-map, slice_get_within, get_or_from_slice_get}
use Rattle.exercise_model.specs.Setting.{SettingData, IsSetting, station_in, nowhere}
use Rattle.exercise_model.specs.Station.{StationData, are_stations}
use Rattle.siman_scripts.specs.Script.{ScriptData}
use Rattle.siman_scripts.specs.Stations.{WorldStationData}
use Rattle.siman_stations.specs.declared.turn.Node.{Node}
use Rattle.siman_stations.specs.Holds.{IsNewNode, AreNewNodes}
use Rattle.siman_lines.specs.declared.station_at_line.StationAtLine.{StationAtLine}
use Rattle.siman_lines.specs.AtLines.{Telling, posts_from, posts_of, AreFresh}
use Rattle.siman_lines.specs.Calls.{IsUnused, IsFresh}
use Rattle.siman_lines.specs.LineDatagrams.{Datagrams}
use Rattle.siman_exercise_commands.specs.Live.Lived.{setting_of, AreNew, AreUnused}

-- Stations as they are begun.

new_there : (x : ℕ) (ss : List WorldStationData) (ns : List Node) → AreNewNodes x ss ns → (k : ℕ) (n : Node) → slice_get ns k ≡ Some n
    → (s : WorldStationData) × (slice_get ss k ≡ Some s) × IsNewNode x s n
new_there x [] [] are k n e = absurd cc
new_there x (s ∷ ss) (m ∷ ns) are zero n e = let same : m ≡ n = cc in (s, refl, subst (IsNewNode x s) same are.0)
new_there x (s ∷ ss) (m ∷ ns) are (suc k) n e = new_there x ss ns are.1 k n e
new_there x [] (m ∷ ns) are k n e = absurd are
new_there x (s ∷ ss) [] are k n e = absurd are

new_count : (x : ℕ) (ss : List WorldStationData) (ns : List Node) → AreNewNodes x ss ns → length ns ≡ length ss
new_count x [] [] are = refl
new_count x (s ∷ ss) (n ∷ ns) are = ap suc (new_count x ss ns are.1)
new_count x [] (n ∷ ns) are = absurd are
new_count x (s ∷ ss) [] are = absurd are

-- the setting has the station of a script
station_there : (script : ScriptData) (k : ℕ) (s : WorldStationData) → slice_get script.stations k ≡ Some s → station_in (setting_of script) k ≡ s.station
station_there script k s there =
    get_or_from_slice_get (map (λ (o : WorldStationData). o.station) script.stations) k s.station nowhere
    (slice_get-map (λ (o : WorldStationData). o.station) script.stations k ∙ ap (option_map (λ (o : WorldStationData). o.station)) there)

new_fresh : (script : ScriptData) (k : ℕ) (n : Node) (s : WorldStationData) (handed : Option Datagrams) → slice_get script.stations k ≡ Some s
    → IsNewNode script.exercise s n → IsUnused handed → IsFresh k n (setting_of script) handed
new_fresh script k n s handed there new unused = record {
  station = record {
    within = omega (arith, slice_get_within script.stations k s there, length-map script.stations (λ (o : WorldStationData). o.station));
    exercise = ap (λ o. o.exercise) new.outfit;
    station = ap (λ o. o.station) new.outfit ∙ sym (station_there script k s there);
    manager_exercise = ap (λ o. o.exercise) new.settings;
    address = ap (λ o. o.address) new.settings ∙ ap (λ (o : StationData). o.address) (sym (station_there script k s there));
  };
  ranges = new.ranges;
  nothing_received = new.kept_is;
  no_order = new.orders;
  unused = unused;
}

pub are_new : (script : ScriptData) (w : SettingData) (ns : List Node) → w ≡ setting_of script → AreNewNodes script.exercise script.stations ns → AreNew w ns
are_new script w ns is are =
    subst (λ (v : SettingData). AreNew v ns) (sym is) (record {
      count = new_count script.exercise script.stations ns are ∙ sym (length-map script.stations (λ (o : WorldStationData). o.station));
      fresh = λ k n handed there unused.
          let found = new_there script.exercise script.stations ns are k n there in new_fresh script k n found.0 handed found.1 found.2 unused;
    })

-- Stations at their lines.

-- a post has the node and the line of its place
record IsPostOf {L : Type 0} (i : ℕ) (ns : List Node) (ls : List L) (k : ℕ) (p : StationAtLine L) : Type 0 where
  index : p.index ≡ i + k
  node : slice_get ns k ≡ Some p.node
  line : slice_get ls k ≡ Some p.line

some_inside : {X : Type 0} (x y : X) → Some x ≡ Some y → x ≡ y
some_inside x y e = cc

post_there : {L : Type 0} (i : ℕ) (ns : List Node) (ls : List L) (k : ℕ) (p : StationAtLine L) → slice_get (posts_from i (zip ns ls)) k ≡ Some p
    → IsPostOf i ns ls k p
post_there i [] ls k p e = absurd cc
post_there i (n ∷ ns) [] k p e = absurd cc
post_there {L = L} i (n ∷ ns) (l ∷ ls) zero p e =
    let post : StationAtLine L = record { index = i; node = n; line = l; dropped = 0; busy = false } in
    let same : post ≡ p = some_inside post p e in
    record {
      index = ap (λ (q : StationAtLine L). q.index) (sym same) ∙ omega arith;
      node = ap (λ (q : StationAtLine L). Some q.node) same;
      line = ap (λ (q : StationAtLine L). Some q.line) same;
    }
post_there i (n ∷ ns) (l ∷ ls) (suc k) p e =
    let rest = post_there (i + 1) ns ls k p e in record { index = omega (arith, rest.index); node = rest.node; line = rest.line }

post_count : {L : Type 0} (i : ℕ) (ns : List Node) (ls : List L) → length ls ≡ length ns → length (posts_from i (zip ns ls)) ≡ length ns
post_count i [] ls same = refl
post_count i (n ∷ ns) [] same = absurd cc
post_count i (n ∷ ns) (l ∷ ls) same = ap suc (post_count (i + 1) ns ls (omega (arith, same)))

some_stations : (ss : List StationData) → are_stations ss ≡ true → 0 < length ss
some_stations [] is = absurd cc
some_stations (s ∷ ss) is = omega arith

pub posts_fresh : {L : Type 0} (told : Telling L) (w : SettingData) (ns : List Node) (ls : List L) → IsSetting w → AreNew w ns → AreUnused told ls
    → length ls ≡ length ns → AreFresh told w (posts_of ns ls)
posts_fresh {L = L} told w ns ls is new unused same = record {
  setting = is;
  some = omega (arith, post_count 0 ns ls same, new.count, some_stations w.stations is.stations);
  count = post_count 0 ns ls same ∙ new.count;
  index = λ k p there. let post = post_there 0 ns ls k p there in omega (arith, post.index);
  fresh = λ k p there. let post = post_there 0 ns ls k p there in new.fresh k p.node (told.sent p.line) post.node (unused k p.line post.line);
}
