-- How what fewer bytes of a frame say agrees with what more of them say, link by link.
use Rattle.std.proofs.Common.{◌≡◌, ℕ, zero, suc, ◌+◌, ◌-◌, ◌/◌, ◌%◌, ◌≤◌, ◌<◌, Bool, true, false, ◌||◌, List, [], ◌∷◌, length, take, drop, refl, sym, subst, ◌∙◌, arith}
use Rattle.std.proofs.lemmas.Bool.{ltb-false, le-ltb, lt-ltb}
use Rattle.std.proofs.lemmas.List.{take-take, length-take}
use Rattle.std.specs.Prelude.{◌==◌, nat_lt, Option, Some, None, if◌then◌else◌}
use Rattle.std.specs.Int.{w8, w16}
use Rattle.packet_captures.specs.declared.link.Link.{Link}
use Rattle.packet_captures.specs.declared.link.Link.TheVariants as links
use Rattle.packet_captures.specs.NetworkOrder.{number_at}
use Rattle.packet_captures.specs.Ethernet.{ethernet, is_tag, untagged, behind_type, typed}
use Rattle.packet_captures.specs.Cooked.{cooked, cooked_2, is_group}
use Rattle.packet_captures.specs.Internet4.{internet_4}
use Rattle.packet_captures.specs.Internet6.{internet_6}
use Rattle.packet_captures.specs.Loopback.{loopback, loopback_family, of_family, raw}
use Rattle.packet_captures.specs.Frame.{behind_link, contents}
use Rattle.packet_captures.specs.Cutting.{Agrees}
use Rattle.packet_captures.proofs.Fronts.{drop_front, front_length, number_front}
use Rattle.packet_captures.proofs.Agreements.{open_first, both}
use Rattle.packet_captures.proofs.Agreements4.{internet_4_agrees}
use Rattle.packet_captures.proofs.Agreements6.{internet_6_agrees}
use Rattle.packet_captures.proofs.Tags.{untagged_plain}

-- Behind the tags stands the same EtherType, and fewer of the same bytes; or fewer bytes end in a tag.
abbrev IsFrontOf : Option (ℕ × List ℕ) → Option (ℕ × List ℕ) → Type 0
IsFrontOf None more = Unit {0}
IsFrontOf (Some front) more = (k : ℕ) × (b : List ℕ) × (front ≡ (front.0, take k b)) × (more ≡ Some (front.0, b))

-- fewer than four bytes
short_front : (kind k : ℕ) (few b : List ℕ) (more : Option (ℕ × List ℕ)) → few ≡ take k b → (is_tag kind ≡ false → more ≡ Some (kind, b))
    → IsFrontOf (if is_tag kind then None else Some (kind, few)) more
short_front kind k few b more front plain = by_test (is_tag kind) refl
  where
    by_test : (t : Bool) → is_tag kind ≡ t → IsFrontOf (if t then None else Some (kind, few)) more
    by_test true e = tt
    by_test false e = (k, b, rw front refl, plain e)

untagged_front : (kind k : ℕ) (b : List ℕ) → IsFrontOf (untagged kind (take k b)) (untagged kind b)
unfolding untagged
untagged_front kind zero b = short_front kind 0 [] b (untagged kind b) refl (untagged_plain kind b)
untagged_front kind (suc k) [] = short_front kind 0 [] [] (untagged kind []) refl (untagged_plain kind [])
untagged_front kind (suc zero) (x ∷ b) = short_front kind 1 (x ∷ []) (x ∷ b) (untagged kind (x ∷ b)) refl (untagged_plain kind (x ∷ b))
untagged_front kind (suc (suc k)) (x ∷ []) = short_front kind 1 (x ∷ []) (x ∷ []) (untagged kind (x ∷ [])) refl (untagged_plain kind (x ∷ []))
untagged_front kind (suc (suc zero)) (x ∷ y ∷ b) = short_front kind 2 (x ∷ y ∷ []) (x ∷ y ∷ b) (untagged kind (x ∷ y ∷ b)) refl (untagged_plain kind (x ∷ y ∷ b))
untagged_front kind (suc (suc (suc k))) (x ∷ y ∷ []) = short_front kind 2 (x ∷ y ∷ []) (x ∷ y ∷ []) (untagged kind (x ∷ y ∷ [])) refl (untagged_plain kind (x ∷ y ∷ []))
untagged_front kind (suc (suc (suc zero))) (x ∷ y ∷ z ∷ b) = short_front kind 3 (x ∷ y ∷ z ∷ []) (x ∷ y ∷ z ∷ b) (untagged kind (x ∷ y ∷ z ∷ b)) refl (untagged_plain kind (x ∷ y ∷ z ∷ b))
untagged_front kind (suc (suc (suc (suc k)))) (x ∷ y ∷ z ∷ []) = short_front kind 3 (x ∷ y ∷ z ∷ []) (x ∷ y ∷ z ∷ []) (untagged kind (x ∷ y ∷ z ∷ [])) refl (untagged_plain kind (x ∷ y ∷ z ∷ []))
untagged_front kind (suc (suc (suc (suc k)))) (x ∷ y ∷ z ∷ w ∷ b) =
    longer (is_tag kind) _ _ _ _ (untagged_front (number_at w16 0 (z ∷ w ∷ [])) k b) (suc (suc (suc (suc k))), x ∷ y ∷ z ∷ w ∷ b, refl, refl)
  where
    longer : (t : Bool) (p q r s : Option (ℕ × List ℕ)) → IsFrontOf p q → IsFrontOf r s → IsFrontOf (if t then p else r) (if t then q else s)
    longer true p q r s left right = left
    longer false p q r s left right = right

type_agrees : (to_group c : Bool) (front more : Option (ℕ × List ℕ)) → IsFrontOf front more → Agrees (behind_type to_group true front) (behind_type to_group c more)
type_agrees to_group c None more is_front = tt
type_agrees to_group c (Some front) more (k, b, fewer, same) =
    rw (fewer, same)
    (both (front.0 == 0x0800) _ _ _ _ (internet_4_agrees to_group c k b) (both (front.0 == 0x86DD) _ _ _ _ (internet_6_agrees to_group c k b) refl))

typed_agrees : (to_group c : Bool) (kind k : ℕ) (b : List ℕ) → Agrees (typed to_group true kind (take k b)) (typed to_group c kind b)
typed_agrees to_group c kind k b = type_agrees to_group c (untagged kind (take k b)) (untagged kind b) (untagged_front kind k b)

ethernet_agrees : (c : Bool) (k : ℕ) (b : List ℕ) → Agrees (ethernet true (take k b)) (ethernet c b)
ethernet_agrees c k b =
    open_first (nat_lt (length (take k b)) 14) _ _ (λ there.
    let kept = front_length 14 k b (ltb-false (length (take k b)) 14 there) in
    let h0 : 0 + 1 ≤ k = omega arith in
    rw (le-ltb (length b) 14 kept.1, number_front w8 0 k b h0, number_front w16 12 k b kept.0, drop_front 14 k b)
    (typed_agrees (number_at w8 0 b % 2 == 1) c (number_at w16 12 b) (k - 14) (drop 14 b)))

cooked_agrees : (c : Bool) (k : ℕ) (b : List ℕ) → Agrees (cooked true (take k b)) (cooked c b)
cooked_agrees c k b =
    open_first (nat_lt (length (take k b)) 16) _ _ (λ there.
    let kept = front_length 16 k b (ltb-false (length (take k b)) 16 there) in
    let h0 : 0 + 2 ≤ k = omega arith in
    rw (le-ltb (length b) 16 kept.1, number_front w16 0 k b h0, number_front w16 14 k b kept.0, drop_front 16 k b)
    (typed_agrees (is_group (number_at w16 0 b)) c (number_at w16 14 b) (k - 16) (drop 16 b)))

-- where nothing is there, it is all the same whether it is for all
nothing_4 : (to_group : Bool) → internet_4 to_group true [] ≡ internet_4 false true []
unfolding internet_4
nothing_4 to_group = refl

nothing_6 : (to_group : Bool) → internet_6 to_group true [] ≡ internet_6 false true []
unfolding internet_6
nothing_6 to_group = refl

nothing_typed : (to_group : Bool) (kind : ℕ) → typed to_group true kind [] ≡ typed false true kind []
unfolding untagged
nothing_typed to_group kind = by_tag (is_tag kind)
  where
    by_tag : (tag : Bool) → behind_type to_group true (if tag then None else Some (kind, [])) ≡ behind_type false true (if tag then None else Some (kind, []))
    by_tag true = refl
    by_tag false = rw (nothing_4 to_group, nothing_6 to_group) refl

nothing_agrees : (to_group c : Bool) (kind : ℕ) (b : List ℕ) → Agrees (typed false true kind []) (typed to_group c kind b)
nothing_agrees to_group c kind b =
    subst (λ x. Agrees x (typed to_group c kind b)) (nothing_typed to_group kind) (typed_agrees to_group c kind 0 b)

-- behind the protocol of a header
protocol_agrees : (c : Bool) (k : ℕ) (b : List ℕ) → 2 ≤ k → 2 ≤ length b
    → Agrees (if nat_lt (length (take k b)) 20 then typed false true (number_at w16 0 (take k b)) [] else typed (is_group (number_at w8 10 (take k b))) true (number_at w16 0 (take k b)) (drop 20 (take k b)))
    (if nat_lt (length b) 20 then typed false c (number_at w16 0 b) [] else typed (is_group (number_at w8 10 b)) c (number_at w16 0 b) (drop 20 b))
protocol_agrees c k b kept there = rw (number_front w16 0 k b kept) (by_size (nat_lt (length (take k b)) 20) (nat_lt (length b) 20) refl refl)
  where
    kind : ℕ
    kind = number_at w16 0 b

    by_size : (few less : Bool) → nat_lt (length (take k b)) 20 ≡ few → nat_lt (length b) 20 ≡ less
        → Agrees (if few then typed false true kind [] else typed (is_group (number_at w8 10 (take k b))) true kind (drop 20 (take k b)))
        (if less then typed false c kind [] else typed (is_group (number_at w8 10 b)) c kind (drop 20 b))
    by_size true true short shorter = nothing_agrees false c kind []
    by_size true false short whole = nothing_agrees (is_group (number_at w8 10 b)) c kind (drop 20 b)
    by_size false less whole other =
        let size = front_length 20 k b (ltb-false (length (take k b)) 20 whole) in
        let h10 : 10 + 1 ≤ k = omega arith in
        rw (sym other ∙ le-ltb (length b) 20 size.1, number_front w8 10 k b h10, drop_front 20 k b)
        (typed_agrees (is_group (number_at w8 10 b)) c kind (k - 20) (drop 20 b))

cooked_2_agrees : (c : Bool) (k : ℕ) (b : List ℕ) → Agrees (cooked_2 true (take k b)) (cooked_2 c b)
cooked_2_agrees c k b =
    open_first (nat_lt (length (take k b)) 2) _ _ (λ there.
    let size = front_length 2 k b (ltb-false (length (take k b)) 2 there) in
    rw (le-ltb (length b) 2 size.1) (protocol_agrees c k b size.0 size.1))

family_agrees : (c : Bool) (family k : ℕ) (b : List ℕ) → Agrees (of_family true family (take k b)) (of_family c family b)
family_agrees c family k b =
    both (family == 2) _ _ _ _ (internet_4_agrees false c k b)
    (both ((family == 10) || ((family == 24) || ((family == 28) || (family == 30)))) _ _ _ _ (internet_6_agrees false c k b) refl)

loopback_agrees : (little c : Bool) (k : ℕ) (b : List ℕ) → Agrees (loopback little true (take k b)) (loopback little c b)
loopback_agrees little c k b =
    open_first (nat_lt (length (take k b)) 4) _ _ (λ there.
    let kept = front_length 4 k b (ltb-false (length (take k b)) 4 there) in
    rw (le-ltb (length b) 4 kept.1, take-take 4 k b kept.0, drop_front 4 k b)
    (family_agrees c (loopback_family little b) (k - 4) (drop 4 b)))

raw_agrees : (c : Bool) (k : ℕ) (b : List ℕ) → Agrees (raw true (take k b)) (raw c b)
raw_agrees c k b =
    open_first (nat_lt (length (take k b)) 1) _ _ (λ there.
    let kept = front_length 1 k b (ltb-false (length (take k b)) 1 there) in
    rw (le-ltb (length b) 1 kept.1, number_front w8 0 k b kept.0)
    (both (number_at w8 0 b / 16 == 6) _ _ _ _ (internet_6_agrees false c k b) (internet_4_agrees false c k b)))

link_agrees : (c : Bool) (link : Link) (k : ℕ) (b : List ℕ) → Agrees (behind_link true link (take k b)) (behind_link c link b)
link_agrees c links.Ethernet k b = ethernet_agrees c k b
link_agrees c links.LoopbackLittle k b = loopback_agrees true c k b
link_agrees c links.LoopbackBig k b = loopback_agrees false c k b
link_agrees c links.Raw k b = raw_agrees c k b
link_agrees c links.Raw4 k b = internet_4_agrees false c k b
link_agrees c links.Raw6 k b = internet_6_agrees false c k b
link_agrees c links.Cooked k b = cooked_agrees c k b
link_agrees c links.Cooked2 k b = cooked_2_agrees c k b

-- what a frame carries of which fewer bytes were kept
pub contents_agree : (link : Link) (original k : ℕ) (b : List ℕ) → length b ≤ original → k < length b
    → Agrees (contents link original (take k b)) (contents link original b)
unfolding contents
contents_agree link original k b room fewer =
    let size = length-take k b in
    let cut : length (take k b) < original = omega arith in
    rw (lt-ltb (length (take k b)) original cut) (link_agrees (nat_lt (length b) original) link k b)
