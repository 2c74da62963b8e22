-- What stations do at their lines, as calls.
use Rattle.std.proofs.Common.{◌≡◌, ℕ, ◌+◌, ◌<◌, zero, suc, List, [], ◌∷◌, ◌++◌, length, map, refl, ap, sym, ◌∙◌, subst, inl, inr, arith, ◌⊎◌, set, get_or}
use Rattle.std.specs.Prelude.{Bool, true, false, ◌==◌, Option, Some, Result, Ok, Err, slice_get, if◌then◌else◌}
use Rattle.std.specs.List.{AllByRecursion}
use Rattle.std.proofs.lemmas.Bool.Decides.{nat_tests}
use Rattle.std.proofs.lemmas.List.{length-set, get_or-set_same, get_or-set_other}
use Rattle.std.proofs.lemmas.Option.{slice_get_within, slice_get-get_or, get_or_from_slice_get}
use Rattle.exercise_recording.specs.Writer.{WriterState}
use Rattle.siman_stations.specs.declared.moment.Moment.{Moment}
use Rattle.siman_stations.specs.declared.turn.Node.{Node}
use Rattle.siman_stations.proofs.Offered.{all_append}
use Rattle.siman_lines.specs.declared.fault.AtLineFault.{AtLineFault}
use Rattle.siman_lines.specs.declared.station_at_line.StationAtLine.{StationAtLine}
use Rattle.std.specs.Prelude.{OnOk}
use Rattle.std.specs.Result.{IsErrAnd, is_err}
use Rattle.siman_lines.specs.AtLines.{Telling, AtLines, ServedAt, UnservedAt, One, FailsRound, posts_from, IsPost, Are, Follows}
use Rattle.siman_lines.specs.Calls.{Stations, IsCall, AreCalls}
use Rattle.siman_lines.specs.KeptAtLine.{Keeps}
use Rattle.siman_lines.specs.LineDatagrams.{Datagrams}
use Rattle.siman_lines.specs.Steps.{Each, Stops}

-- Of a list in which one element is another.

same_or_apart : (s t : ℕ) → (s ≡ t) ⊎ (s ≡ t → ⊥)
same_or_apart s t = by (s == t) refl where
  by : (b : Bool) → (s == t) ≡ b → (s ≡ t) ⊎ (s ≡ t → ⊥)
  by true e = inl (grind (arith, nat_tests))
  by false e = inr (λ h. grind (arith, nat_tests))

same_test : (k : ℕ) → (k == k) ≡ true
same_test k = grind (arith, nat_tests)

apart_test : (s t : ℕ) → (s ≡ t → ⊥) → (t == s) ≡ false
apart_test s t h = grind (arith, nat_tests)

some_inside : {X : Type 0} (x y : X) → Some x ≡ Some y → x ≡ y
some_inside x y e = cc

pub set_there : {X : Type 0} (xs : List X) (k : ℕ) (x : X) → k < length xs → slice_get (set xs k x) k ≡ Some x
set_there xs k x h =
    slice_get-get_or (set xs k x) k x (subst (λ (n : ℕ). k < n) (sym (length-set xs k x)) h) ∙ ap Some (get_or-set_same xs k x x h)

pub set_apart : {X : Type 0} (xs : List X) (k j : ℕ) (x y : X) → (k ≡ j → ⊥) → slice_get (set xs k x) j ≡ Some y → slice_get xs j ≡ Some y
set_apart xs k j x y apart there =
    let within = subst (λ (n : ℕ). j < n) (length-set xs k x) (slice_get_within (set xs k x) j y there) in
    slice_get-get_or xs j y within
    ∙ ap Some (sym (get_or-set_other xs k j x y (λ e. apart (sym e))) ∙ get_or_from_slice_get (set xs k x) j y y there)

-- Of one station.

abbrev changed : ℕ → Node → Option Datagrams → WriterState → Stations → Stations
changed k n h v x =
    record { node = λ t. if t == k then n else x.node t; handed = λ t. if t == k then h else x.handed t; recorder = v }

node_there : (k : ℕ) (n : Node) (h : Option Datagrams) (v : WriterState) (x : Stations) → (changed k n h v x).node k ≡ n
node_there k n h v x = ap (λ (b : Bool). if b then n else x.node k) (same_test k)

handed_there : (k : ℕ) (n : Node) (h : Option Datagrams) (v : WriterState) (x : Stations) → (changed k n h v x).handed k ≡ h
handed_there k n h v x = ap (λ (b : Bool). if b then h else x.handed k) (same_test k)

node_apart : (k t : ℕ) (n : Node) (h : Option Datagrams) (v : WriterState) (x : Stations) → (k ≡ t → ⊥) → (changed k n h v x).node t ≡ x.node t
node_apart k t n h v x apart = ap (λ (b : Bool). if b then n else x.node t) (apart_test k t apart)

handed_apart : (k t : ℕ) (n : Node) (h : Option Datagrams) (v : WriterState) (x : Stations) → (k ≡ t → ⊥) → (changed k n h v x).handed t ≡ x.handed t
handed_apart k t n h v x apart = ap (λ (b : Bool). if b then h else x.handed t) (apart_test k t apart)

keeps_same : (s t : ℕ) (n m : Node) (w u : WriterState) (h i : Option Datagrams) (a b : Node) (v : WriterState) (j g : Option Datagrams)
    → s ≡ t → n ≡ m → w ≡ u → h ≡ i → a ≡ b → j ≡ g → Keeps t m u i b v g → Keeps s n w h a v j
keeps_same s t n m w u h i a b v j g e1 e2 e3 e4 e5 e6 keeps = rw (e1, e2, e3, e4, e5, e6) keeps

-- a call at one station
pub follows_one : {L : Type 0} (told : Telling L) (k : ℕ) (ps : List (StationAtLine L)) (w v : WriterState) (p q : StationAtLine L)
    → slice_get ps k ≡ Some p → q.index ≡ p.index
    → Keeps p.index p.node w (told.sent p.line) q.node v (told.sent q.line)
    → Follows told (record { stations = ps; recorder = w }) (record { stations = set ps k q; recorder = v })
follows_one {L = L} told k ps w v p q there index keeps = record {
  count = length-set ps k q;
  leads = λ x are. record {
    calls = k ∷ [];
    after = changed k q.node (told.sent q.line) v x;
    within = (slice_get_within ps k p there, tt);
    made = (changed k q.node (told.sent q.line) v x, call x are, refl);
    are = record { posts = posts x are; recorder = refl };
  };
} where
  call : (x : Stations) → Are told (record { stations = ps; recorder = w }) x → IsCall k x (changed k q.node (told.sent q.line) v x)
  call x are =
      let post = are.posts k p there in
      record {
        keeps = keeps_same k p.index (x.node k) p.node x.recorder w (x.handed k) (told.sent p.line) _ q.node v _ (told.sent q.line) (sym post.index)
            post.node are.recorder post.handed (node_there k q.node (told.sent q.line) v x) (handed_there k q.node (told.sent q.line) v x) keeps;
        nodes = λ t apart. node_apart k t q.node (told.sent q.line) v x apart;
        lines = λ t apart. handed_apart k t q.node (told.sent q.line) v x apart;
      }

  posts : (x : Stations) → Are told (record { stations = ps; recorder = w }) x → (j : ℕ) (r : StationAtLine L) → slice_get (set ps k q) j ≡ Some r
      → IsPost told j r (changed k q.node (told.sent q.line) v x)
  posts x are j r at = by (same_or_apart k j) where
    by : (k ≡ j) ⊎ (k ≡ j → ⊥) → IsPost told j r (changed k q.node (told.sent q.line) v x)
    by (inl e) =
        let same : r ≡ q = some_inside r q (sym at ∙ (ap (slice_get (set ps k q)) (sym e) ∙ set_there ps k q (slice_get_within ps k p there))) in
        subst (λ (i : ℕ). IsPost told i r (changed k q.node (told.sent q.line) v x)) e
        (subst (λ (o : StationAtLine L). IsPost told k o (changed k q.node (told.sent q.line) v x)) (sym same)
        (record {
          index = index ∙ (are.posts k p there).index;
          node = node_there k q.node (told.sent q.line) v x;
          handed = handed_there k q.node (told.sent q.line) v x;
        }))
    by (inr apart) =
        let post = are.posts j r (set_apart ps k j q r apart at) in
        record {
          index = post.index;
          node = node_apart k j q.node (told.sent q.line) v x apart ∙ post.node;
          handed = handed_apart k j q.node (told.sent q.line) v x apart ∙ post.handed;
        }

-- Of calls, one after the other.

pub follows_none : {L : Type 0} (told : Telling L) (a : AtLines L) → Follows told a a
follows_none told a = record {
  count = refl;
  leads = λ x are. record { calls = []; after = x; within = tt; made = refl; are = are };
}

calls_then : (cs ds : List ℕ) (x y z : Stations) → AreCalls cs x y → AreCalls ds y z → AreCalls (cs ++ ds) x z
calls_then [] ds x y z first second = subst (λ (o : Stations). AreCalls ds o z) first second
calls_then (c ∷ cs) ds x y z first second = (first.0, first.1, calls_then cs ds first.0 y z first.2 second)

pub follows_then : {L : Type 0} (told : Telling L) (a b c : AtLines L) → Follows told a b → Follows told b c → Follows told a c
follows_then told a b c first second = record {
  count = second.count ∙ first.count;
  leads = λ x are.
      let one = first.leads x are in
      let two = second.leads one.after one.are in
      record {
        calls = one.calls ++ two.calls;
        after = two.after;
        within = all_append (λ s. s < length a.stations) one.calls two.calls one.within
            (subst (λ (n : ℕ). AllByRecursion (λ s. s < n) two.calls) first.count two.within);
        made = calls_then one.calls two.calls x one.after two.after one.made two.made;
        are = two.are;
      };
}

-- Of steps.

each_next : {S : Type 0} (Step : ℕ → S → S → Type 0) (n : ℕ) (a m b : S) → Each Step n a m → Step n m b → Each Step (suc n) a b
each_next Step n a m b made one = (m, made, one)

pub each_as : {S : Type 0} (Step : ℕ → S → S → Type 0) (n k : ℕ) (a b : S) → n ≡ k → Each Step n a b → Each Step k a b
each_as Step n k a b same made = subst (λ (i : ℕ). Each Step i a b) same made

pub each_more : {S : Type 0} (Step : ℕ → S → S → Type 0) (n : ℕ) (a m b : S) → Each Step n a m → Step n m b → Each Step (n + 1) a b
each_more Step n a m b made one = each_as Step (suc n) (n + 1) a b (omega arith) (each_next Step n a m b made one)

pub each_follows : {L : Type 0} (told : Telling L) (Step : ℕ → AtLines L → AtLines L → Type 0)
    → ((n : ℕ) (a b : AtLines L) → Step n a b → Follows told a b) → (count : ℕ) (a b : AtLines L) → Each Step count a b → Follows told a b
each_follows {L = L} told Step one zero a b each = subst (λ (c : AtLines L). Follows told a c) (sym each) (follows_none told a)
each_follows told Step one (suc n) a b each =
    follows_then told a each.0 b (each_follows told Step one n a each.0 each.1) (one n each.0 b each.2)

pub stops_follows : {L : Type 0} (told : Telling L) (Step Fails : ℕ → AtLines L → AtLines L → Type 0)
    → ((n : ℕ) (a b : AtLines L) → Step n a b → Follows told a b) → ((n : ℕ) (a b : AtLines L) → Fails n a b → Follows told a b)
    → (count : ℕ) (a b : AtLines L) → Stops Step Fails count a b → Follows told a b
stops_follows told Step Fails one last count a b stops =
    follows_then told a stops.mid b (each_follows told Step one stops.number a stops.mid stops.made) (last stops.number stops.mid b stops.fails)

-- Of a round, and of rounds.

pub at_fault : {X E : Type 0} (P : Result X E → Type 0) (fault : E) (result : Result X E) → IsErrAnd result (λ e. e ≡ fault) → P (Err fault) → P result
at_fault P fault (Ok x) passed holds = absurd passed
at_fault P fault (Err e) passed holds = subst (λ e. P (Err e)) (sym passed) holds

pub stands_at : {X : Type 0} (xs : List X) (i : ℕ) (x : X) → i < length xs → x ≡ get_or xs i x → slice_get xs i ≡ Some x
stands_at xs i x below is = slice_get-get_or xs i x below ∙ ap Some (sym is)

pub follows_on : {L : Type 0} (told : Telling L) (old : AtLines L) (k : ℕ) (ps : List (StationAtLine L)) (w v : WriterState) (p q : StationAtLine L)
    → Follows told old (record { stations = ps; recorder = w })
    → slice_get ps k ≡ Some p → q.index ≡ p.index → Keeps p.index p.node w (told.sent p.line) q.node v (told.sent q.line)
    → Follows told old (record { stations = set ps k q; recorder = v })
follows_on told old k ps w v p q before there index keeps = follows_then told old _ _ before (follows_one told k ps w v p q there index keeps)

pub round_on : {L : Type 0} (told : Telling L) (at : Moment) (turns : ℕ) (old : AtLines L) (k : ℕ) (ps : List (StationAtLine L)) (w v : WriterState) (p q : StationAtLine L)
    → Each (One (ServedAt told at turns)) k old (record { stations = ps; recorder = w }) → slice_get ps k ≡ Some p → ServedAt told at turns p w q v
    → Each (One (ServedAt told at turns)) (k + 1) old (record { stations = set ps k q; recorder = v })
round_on told at turns old k ps w v p q before there served =
    each_more (One (ServedAt told at turns)) k old (record { stations = ps; recorder = w }) (record { stations = set ps k q; recorder = v }) before
    (record { before = p; after = q; there = there; others = refl; does = served })

pub round_stops : {L : Type 0} (told : Telling L) (at : Moment) (turns : ℕ) (fault : AtLineFault) (old : AtLines L) (k : ℕ) (ps : List (StationAtLine L)) (w v : WriterState)
    (p q : StationAtLine L)
    → k < length old.stations → Each (One (ServedAt told at turns)) k old (record { stations = ps; recorder = w }) → slice_get ps k ≡ Some p
    → UnservedAt told at turns fault p w q v
    → FailsRound told at turns fault old (record { stations = set ps k q; recorder = v })
round_stops told at turns fault old k ps w v p q within before there unserved = record {
  number = k;
  within = within;
  mid = record { stations = ps; recorder = w };
  made = before;
  fails = record { before = p; after = q; there = there; others = refl; does = unserved };
}

-- Of posts.

pub posts_length : {L : Type 0} (i : ℕ) (ps : List (Node × L)) → length (posts_from i ps) ≡ length ps
posts_length i [] = refl
posts_length i (p ∷ ps) = ap suc (posts_length (i + 1) ps)

pub posts_more : {L : Type 0} (i k : ℕ) (ps : List (Node × L)) (p : Node × L) → k ≡ i + length ps → posts_from i (ps ++ p ∷ []) ≡ posts_from i ps ++ posts_from k (p ∷ [])
posts_more i k [] p same = ap (λ (n : ℕ). posts_from n (p ∷ [])) (omega (arith, same))
posts_more i k (o ∷ ps) p same = ap (λ rest. record { index = i; node = o.0; line = o.1; dropped = 0; busy = false } ∷ rest) (posts_more (i + 1) k ps p (omega (arith, same)))

pub on_ok : {X E P : Type 0} (r : Result X E) → is_err r ≡ false → OnOk r P → P
on_ok (Ok x) fine holds = holds
on_ok (Err e) fine holds = absurd cc

pub posts_put : {L : Type 0} (i : ℕ) (items new : List (StationAtLine L)) (ps : List (Node × L)) (p : Node × L) → items ≡ posts_from 0 ps → i ≡ length items
    → new ≡ items ++ posts_from i (p ∷ []) → new ≡ posts_from 0 (ps ++ p ∷ [])
posts_put {L = L} i items new ps p are index put =
    put ∙ (ap (λ (os : List (StationAtLine L)). os ++ posts_from i (p ∷ [])) are ∙ sym (posts_more 0 i ps p (omega (arith, index, ap length are, posts_length 0 ps))))

pub map_pairs : {A B : Type 0} (ps : List (A × B)) → ps ≡ map (λ p. (p.0, p.1)) ps
map_pairs [] = refl
map_pairs (p ∷ ps) = ap (λ rest. p ∷ rest) (map_pairs ps)
