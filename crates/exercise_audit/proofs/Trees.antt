-- The root of the tree of turns has the first turn.
use Rattle.std.proofs.Common.{◌≡◌, ⊎_elim, inl, inr, ℕ, zero, suc, ◌+◌, ◌-◌, ◌*◌, ◌/◌, ◌<◌, ◌≤◌, List, length, Option, Some, None, true, false, refl, sym, ap, ◌∙◌, subst, arith}
use Rattle.std.specs.Prelude.{◌⊎◌, replicate, slice_set, slice_index_or, option_map, if◌then◌else◌}
use Rattle.std.proofs.lemmas.Bool.{cases_lt, cases_eq}
use Rattle.std.proofs.lemmas.List.{length-set, length-replicate, get_or_past, get_or-set_same, get_or-set_other}
use Rattle.std.proofs.lemmas.Option.{same_Some}
use Rattle.exercise_audit.specs.declared.turns.Moment.{Moment}
use Rattle.exercise_audit.specs.declared.turns.Turn.{Turn}
use Rattle.exercise_audit.specs.Turns.{turn_of, IsNotAfter, is_before, earlier_of, leaf_of, node_at, AreInner, AreInnerBut, IsTree, IsFirstTurn}
use Rattle.exercise_audit.proofs.FirstTurns.{before_true, before_false, not_after_on, not_after_itself}

-- ---- the earlier of two

-- it is one of them
one_of : (x y : Option Turn) (t : Turn) → earlier_of x y ≡ Some t → (x ≡ Some t) ⊎ (y ≡ Some t)
one_of None None t e = absurd (cc)
one_of (Some a) None t e = inl e
one_of None (Some b) t e = inr e
one_of (Some a) (Some b) t e =
    elim (is_before b.moment a.moment) as (λ q. (if q then Some b else Some a) ≡ Some t → (Some a ≡ Some t) ⊎ (Some b ≡ Some t)) [
      | true ↦ λ h. inr h
      | false ↦ λ h. inl h
    ] e

-- and not after either
pub record IsAt (node : Option Turn) (m : Moment) : Type 0 where
  pub turn : Turn
  pub is : node ≡ Some turn
  pub least : IsNotAfter turn.moment m

left_least : (x y : Option Turn) (t : Turn) → x ≡ Some t → IsAt (earlier_of x y) t.moment
left_least None y t e = absurd (cc)
left_least (Some a) None t e = record { turn = t; is = e; least = not_after_itself t.moment }
left_least (Some a) (Some b) t e =
    elim (is_before b.moment a.moment) as (λ q. is_before b.moment a.moment ≡ q → IsAt (if q then Some b else Some a) t.moment) [
      | true ↦ λ less. record { turn = b; is = refl; least = subst (λ (u : Turn). IsNotAfter b.moment u.moment) (same_Some a t e) (before_true b.moment a.moment less) }
      | false ↦ λ _. record { turn = t; is = e; least = not_after_itself t.moment }
    ] refl

right_least : (x y : Option Turn) (t : Turn) → y ≡ Some t → IsAt (earlier_of x y) t.moment
right_least x None t e = absurd (cc)
right_least None (Some b) t e = record { turn = t; is = e; least = not_after_itself t.moment }
right_least (Some a) (Some b) t e =
    elim (is_before b.moment a.moment) as (λ q. is_before b.moment a.moment ≡ q → IsAt (if q then Some b else Some a) t.moment) [
      | true ↦ λ _. record { turn = t; is = e; least = not_after_itself t.moment }
      | false ↦ λ not. record { turn = a; is = refl; least = subst (λ (u : Turn). IsNotAfter a.moment u.moment) (same_Some b t e) (before_false b.moment a.moment not) }
    ] refl

-- ---- up and down the tree

-- a number is twice its half, or one more
record IsHalf (k h : ℕ) : Type 0 where
  parts : (2 * h ≡ k) ⊎ (2 * h + 1 ≡ k)

half : (k : ℕ) → IsHalf k (k / 2)
half k = record {
  parts = ⊎_elim
      (λ (even : k < 2 * (k / 2) + 1). let is : 2 * (k / 2) ≡ k = omega (arith, even) in inl is)
      (λ (odd : 2 * (k / 2) + 1 ≤ k). let is : 2 * (k / 2) + 1 ≡ k = omega (arith, odd) in inr is)
      (cases_lt k (2 * (k / 2) + 1));
}

half_of_even : (j k : ℕ) → 2 * j ≡ k → j ≡ k / 2
half_of_even j k e = omega (arith, e)

half_of_odd : (j k : ℕ) → 2 * j + 1 ≡ k → j ≡ k / 2
half_of_odd j k e = omega (arith, e)

-- no node has a turn before that of the root
root_least : (nodes : List (Option Turn)) (n : ℕ) → AreInner nodes n → (fuel k : ℕ) (t : Turn) → k ≤ fuel → 1 ≤ k → k < n + n → node_at nodes k ≡ Some t
    → IsAt (node_at nodes 1) t.moment
root_least nodes n inner zero k t le from within at = absurd (omega (arith, le, from))
root_least nodes n inner (suc fuel) k t le from within at = ⊎_elim
    (λ (root : k < 2).
    let one : k ≡ 1 = omega (arith, root, from) in
    record { turn = t; is = ap (node_at nodes) (sym one) ∙ at; least = not_after_itself t.moment })
    (λ (below : 2 ≤ k).
    let h = k / 2 in
    let parts = (half k).parts in
    let up : 1 ≤ h = ⊎_elim (λ (even : 2 * h ≡ k). omega (arith, even, below)) (λ (odd : 2 * h + 1 ≡ k). omega (arith, odd, below)) parts in
    let inside : h < n = ⊎_elim (λ (even : 2 * h ≡ k). omega (arith, even, within)) (λ (odd : 2 * h + 1 ≡ k). omega (arith, odd, within)) parts in
    let less : h ≤ fuel = ⊎_elim (λ (even : 2 * h ≡ k). omega (arith, even, le, below)) (λ (odd : 2 * h + 1 ≡ k). omega (arith, odd, le, below)) parts in
    let parent : IsAt (node_at nodes h) t.moment = subst (λ o. IsAt o t.moment) (sym (inner h up inside))
    (⊎_elim
    (λ (even : 2 * h ≡ k). left_least (node_at nodes (2 * h)) (node_at nodes (2 * h + 1)) t (ap (node_at nodes) even ∙ at))
    (λ (odd : 2 * h + 1 ≡ k). right_least (node_at nodes (2 * h)) (node_at nodes (2 * h + 1)) t (ap (node_at nodes) odd ∙ at))
    parts) in
    let above = root_least nodes n inner fuel h parent.turn less up (omega (arith, inside)) parent.is in
    record { turn = above.turn; is = above.is; least = not_after_on above.turn.moment parent.turn.moment t.moment above.least parent.least })
    (cases_lt k 2)

-- the turn of a station, where it is a leaf
leaf_turn : (turns : List (Option Moment)) (s : ℕ) (t : Turn) → leaf_of turns s ≡ Some t → (t.station ≡ s) × (turn_of turns s ≡ Some t.moment)
leaf_turn turns s t = of_turn (turn_of turns s) refl
  where
    of_turn : (o : Option Moment) → turn_of turns s ≡ o → option_map (λ m. record { station = s; moment = m }) o ≡ Some t
        → (t.station ≡ s) × (turn_of turns s ≡ Some t.moment)
    of_turn None is e = absurd (cc)
    of_turn (Some m) is e =
        let same : record { station = s; moment = m } ≡ t = same_Some (record { station = s; moment = m }) t e in
        (sym (ap (λ (u : Turn). u.station) same), is ∙ ap (λ (u : Turn). Some u.moment) same)

-- a turn in the tree is that of its station
pub record IsOfStation (turns : List (Option Moment)) (t : Turn) : Type 0 where
  pub at : turn_of turns t.station ≡ Some t.moment
  pub within : t.station < length turns

node_turn : (turns : List (Option Moment)) (nodes : List (Option Turn)) → IsTree turns nodes → (fuel k : ℕ) (t : Turn)
    → length turns + length turns ≤ k + fuel → 1 ≤ k → k < length turns + length turns → node_at nodes k ≡ Some t → IsOfStation turns t
node_turn turns nodes tree zero k t le from within at = absurd (omega (arith, le, within))
node_turn turns nodes tree (suc fuel) k t le from within at = ⊎_elim
    (λ (inside : k < length turns).
    ⊎_elim
    (λ (left : node_at nodes (2 * k) ≡ Some t). node_turn turns nodes tree fuel (2 * k) t (omega (arith, le, from)) (omega (arith, from)) (omega (arith, inside)) left)
    (λ (right : node_at nodes (2 * k + 1) ≡ Some t).
    node_turn turns nodes tree fuel (2 * k + 1) t (omega (arith, le, from)) (omega (arith, from)) (omega (arith, inside)) right)
    (one_of (node_at nodes (2 * k)) (node_at nodes (2 * k + 1)) t (sym (tree.inner k from inside) ∙ at)))
    (λ (leaf : length turns ≤ k).
    let s = k - length turns in
    let below : s < length turns = omega (arith, leaf, within) in
    let place : length turns + s ≡ k = omega (arith, leaf) in
    let both = leaf_turn turns s t (sym (tree.leaves s below) ∙ ap (node_at nodes) place ∙ at) in
    record { at = ap (turn_of turns) both.0 ∙ both.1; within = omega (arith, both.0, below) })
    (cases_lt k (length turns))

-- THE ROOT HAS THE FIRST TURN
pub root_first : (turns : List (Option Moment)) (nodes : List (Option Turn)) → IsTree turns nodes
    → IsFirstTurn turns 0 (length turns) (node_at nodes 1)
root_first turns nodes tree = of_root (node_at nodes 1) refl
  where
    above : (s : ℕ) (m : Moment) → s < length turns → turn_of turns s ≡ Some m → IsAt (node_at nodes 1) m
    above s m below at =
        let n = length turns in
        root_least nodes n tree.inner (n + s) (n + s) (record { station = s; moment = m }) (omega arith) (omega (arith, below)) (omega (arith, below))
        (tree.leaves s below ∙ ap (option_map (λ m. record { station = s; moment = m })) at)

    by_turn : (s : ℕ) (o : Option Moment) → node_at nodes 1 ≡ None → turn_of turns s ≡ o → s < length turns → turn_of turns s ≡ None
    by_turn s None is at below = at
    by_turn s (Some m) is at below = let a = above s m below at in absurd (cc (sym is ∙ a.is))

    of_root : (o : Option Turn) → node_at nodes 1 ≡ o → IsFirstTurn turns 0 (length turns) o
    of_root None is = λ s from to. by_turn s (turn_of turns s) is refl to
    of_root (Some t) is =
        let own = ⊎_elim
        (λ (some : 0 < length turns).
        node_turn turns nodes tree (length turns + length turns) 1 t (omega arith) (omega arith) (omega (arith, some)) is)
        (λ (none : length turns ≤ 0). absurd (cc (sym (get_or_past nodes 1 None (omega (arith, tree.count, none))) ∙ is)))
        (cases_lt 0 (length turns)) in
        record {
          at = own.at;
          within = own.within;
          least = λ s m from to at.
              let a = above s m to at in
              subst (λ (u : Turn). IsNotAfter u.moment m) (same_Some a.turn t (sym a.is ∙ is)) a.least;
        }

-- ---- nodes that are renewed

-- a node that is renewed has the earlier of the two below it, and only the node above it may not
pub inner_on : (nodes : List (Option Turn)) (n k : ℕ) → length nodes ≡ n + n → 1 ≤ k → k < n → AreInnerBut nodes n k
    → AreInnerBut (slice_set nodes k (earlier_of (node_at nodes (2 * k)) (node_at nodes (2 * k + 1)))) n (k / 2)
inner_on nodes n k count from within inner j up below differ =
    let value = earlier_of (node_at nodes (2 * k)) (node_at nodes (2 * k + 1)) in
    let new = slice_set nodes k value in
    let left : node_at new (2 * j) ≡ node_at nodes (2 * j) =
    get_or-set_other nodes k (2 * j) value None (λ e. differ (half_of_even j k e)) in
    let right : node_at new (2 * j + 1) ≡ node_at nodes (2 * j + 1) =
    get_or-set_other nodes k (2 * j + 1) value None (λ e. differ (half_of_odd j k e)) in
    let children : earlier_of (node_at nodes (2 * j)) (node_at nodes (2 * j + 1)) ≡ earlier_of (node_at new (2 * j)) (node_at new (2 * j + 1)) =
    ap (λ x. earlier_of x (node_at nodes (2 * j + 1))) (sym left) ∙ ap (λ y. earlier_of (node_at new (2 * j)) y) (sym right) in
    ⊎_elim
    (λ (same : j ≡ k).
    ap (node_at new) same ∙ get_or-set_same nodes k value None (omega (arith, count, within))
    ∙ ap (λ i. earlier_of (node_at nodes (2 * i)) (node_at nodes (2 * i + 1))) (sym same) ∙ children)
    (λ (other : j ≡ k → ⊥). get_or-set_other nodes k j value None other ∙ inner j up below other ∙ children)
    (cases_eq j k)

-- a leaf that is written leaves all as they are but the node above it
pub leaf_on : (nodes : List (Option Turn)) (n leaf : ℕ) (value : Option Turn) → n ≤ leaf → AreInner nodes n
    → AreInnerBut (slice_set nodes leaf value) n (leaf / 2)
leaf_on nodes n leaf value above inner j up below differ =
    let new = slice_set nodes leaf value in
    let left : node_at new (2 * j) ≡ node_at nodes (2 * j) = get_or-set_other nodes leaf (2 * j) value None (λ e. differ (half_of_even j leaf e)) in
    let right : node_at new (2 * j + 1) ≡ node_at nodes (2 * j + 1) =
    get_or-set_other nodes leaf (2 * j + 1) value None (λ e. differ (half_of_odd j leaf e)) in
    get_or-set_other nodes leaf j value None (λ e. omega (arith, e, below, above)) ∙ inner j up below
    ∙ ap (λ x. earlier_of x (node_at nodes (2 * j + 1))) (sym left) ∙ ap (λ y. earlier_of (node_at new (2 * j)) y) (sym right)

-- THE TREE after a turn was set
pub tree_set : (turns : List (Option Moment)) (nodes renewed : List (Option Turn)) (s : ℕ) (turn : Option Moment) → IsTree turns nodes → s < length turns
    → length renewed ≡ length turns + length turns → AreInner renewed (length turns)
    → ((k : ℕ) → length turns ≤ k → node_at renewed k ≡ node_at (slice_set nodes (length turns + s) (option_map (λ m. record { station = s; moment = m }) turn)) k)
    → IsTree (slice_set turns s turn) renewed
tree_set turns nodes renewed s turn tree within count inner leaves = record {
  count = omega (arith, count, length-set turns s turn);
  leaves = λ t l. ap (λ n. node_at renewed (n + t)) (length-set turns s turn) ∙ leaves (length turns + t) (omega arith) ∙ leaf_set t (omega (arith, l, length-set turns s turn));
  inner = λ k from below. inner k from (omega (arith, below, length-set turns s turn));
}
  where
    leaf : Option Turn
    leaf = option_map (λ m. record { station = s; moment = m }) turn

    leaf_set : (t : ℕ) → t < length turns → node_at (slice_set nodes (length turns + s) leaf) (length turns + t) ≡ leaf_of (slice_set turns s turn) t
    leaf_set t below = ⊎_elim
        (λ (same : t ≡ s).
        ap (λ i. node_at (slice_set nodes (length turns + s) leaf) (length turns + i)) same
        ∙ get_or-set_same nodes (length turns + s) leaf None (omega (arith, tree.count, within))
        ∙ ap (λ o. option_map (λ m. record { station = s; moment = m }) o) (sym (get_or-set_same turns s turn None within))
        ∙ ap (leaf_of (slice_set turns s turn)) (sym same))
        (λ (other : t ≡ s → ⊥).
        get_or-set_other nodes (length turns + s) (length turns + t) leaf None (λ e. other (omega (arith, e))) ∙ tree.leaves t below
        ∙ ap (λ o. option_map (λ m. record { station = t; moment = m }) o) (sym (get_or-set_other turns s t turn None other)))
        (cases_eq t s)

abbrev no_value : (X : Type 0) → Option X
no_value X = None

get_or-none : {X : Type 0} (n i : ℕ) → slice_index_or (replicate n (no_value X)) i None ≡ None
get_or-none zero i = refl
get_or-none (suc n) zero = refl
get_or-none (suc n) (suc i) = get_or-none n i

-- the tree where no station has a turn
pub no_tree : (n m : ℕ) → m ≡ 2 * n → IsTree (replicate n None) (replicate m None)
no_tree n m twice =
    let turns : List (Option Moment) = replicate n None in
    let nodes : List (Option Turn) = replicate m None in
    let few : length turns ≡ n = length-replicate n None in
    let all : length nodes ≡ m = length-replicate m None in
    record {
      count = omega (arith, few, all, twice);
      leaves = λ s l. get_or-none m (length turns + s) ∙ sym (ap (option_map (λ m. record { station = s; moment = m })) (get_or-none n s));
      inner = λ k from below. get_or-none m k ∙ sym (ap (λ x. earlier_of x (node_at nodes (2 * k + 1))) (get_or-none m (2 * k))
          ∙ ap (λ y. earlier_of None y) (get_or-none m (2 * k + 1)));
    }

-- ---- the loop

-- one node more is renewed
pub record AreRenewed (old nodes : List (Option Turn)) (n k : ℕ) : Type 0 where
  pub count : length nodes ≡ n + n
  pub within : k < n
  pub inner : AreInnerBut nodes n k
  pub leaves : (i : ℕ) → n ≤ i → node_at nodes i ≡ node_at old i

pub renewed : (old nodes : List (Option Turn)) (n k : ℕ) (left right value : Option Turn) → length nodes ≡ n + n → 0 < k → k < n → AreInnerBut nodes n k
    → ((i : ℕ) → n ≤ i → node_at nodes i ≡ node_at old i) → node_at nodes (2 * k) ≡ left → node_at nodes (2 * k + 1) ≡ right → value ≡ earlier_of left right
    → AreRenewed old (slice_set nodes k value) n (k / 2)
renewed old nodes n k left right value count from within inner leaves here there is =
    let same : value ≡ earlier_of (node_at nodes (2 * k)) (node_at nodes (2 * k + 1)) =
    is ∙ ap (λ x. earlier_of x right) (sym here) ∙ ap (earlier_of (node_at nodes (2 * k))) (sym there) in
    record {
      count = length-set nodes k value ∙ count;
      within = omega (arith, within);
      inner = subst (λ v. AreInnerBut (slice_set nodes k v) n (k / 2)) (sym same) (inner_on nodes n k count (omega (arith, from)) within inner);
      leaves = λ i l. get_or-set_other nodes k i value None (λ e. omega (arith, e, l, within)) ∙ leaves i l;
    }

-- the leaf was written, and the nodes above it renewed
pub tree_renewed : (turns : List (Option Moment)) (nodes renewed : List (Option Turn)) (n s : ℕ) (turn : Option Moment) (leaf : Option Turn)
    → IsTree turns nodes → n ≡ length turns → s < n → leaf ≡ option_map (λ m. record { station = s; moment = m }) turn → length renewed ≡ n + n
    → AreInner renewed n → ((k : ℕ) → n ≤ k → node_at renewed k ≡ node_at (slice_set nodes (n + s) leaf) k) → IsTree (slice_set turns s turn) renewed
tree_renewed turns nodes renewed n s turn leaf tree is within here count inner leaves =
    let there : (k : ℕ) → n ≤ k → node_at renewed k ≡ node_at (slice_set nodes (n + s) (option_map (λ m. record { station = s; moment = m }) turn)) k =
    subst (λ o. (k : ℕ) → n ≤ k → node_at renewed k ≡ node_at (slice_set nodes (n + s) o) k) here leaves in
    tree_set turns nodes renewed s turn tree (omega (arith, within, is)) (omega (arith, count, is)) (subst (AreInner renewed) is inner)
    (subst (λ n. (k : ℕ) → n ≤ k → node_at renewed k ≡ node_at (slice_set nodes (n + s) (option_map (λ m. record { station = s; moment = m }) turn)) k) is there)

-- lists without turns
pub no_tree_in : (turns : List (Option Moment)) (nodes : List (Option Turn)) (n m : ℕ) → turns ≡ replicate n None → nodes ≡ replicate m None → m ≡ 2 * n
    → IsTree turns nodes
no_tree_in turns nodes n m all none twice =
    subst (λ ts. IsTree ts nodes) (sym all) (subst (IsTree (replicate n None)) (sym none) (no_tree n m twice))

pub no_turn_in : (turns : List (Option Moment)) (n : ℕ) → turns ≡ replicate n None → (s : ℕ) → turn_of turns s ≡ None
no_turn_in turns n all s = ap (λ ts. turn_of ts s) all ∙ get_or-none n s
