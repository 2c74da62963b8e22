-- A block that is passed over has the size that its head and its end tell.
use Rattle.std.proofs.Common.{◌≡◌, ℕ, ◌+◌, ◌-◌, ◌≤◌, ◌==◌, List, length, take, drop, Some, false, rules, tests, sym, ◌∙◌, ap, subst, arith, length-drop}
use Rattle.std.specs.Prelude.{IfSome, IfOk, OnOk, Result, Ok, Err, nat_lt}
use Rattle.std.specs.Int.{w32, from_le_bytes, from_be_bytes}
use Rattle.byte_files.specs.Fields.{tested}
use Rattle.packet_captures.specs.declared.byte_order.ByteOrder.{ByteOrder}
use Rattle.packet_captures.specs.declared.byte_order.ByteOrder.TheVariants.{Little, Big}
use Rattle.packet_captures.specs.declared.capture_fault.CaptureFault.{CaptureFault}
use Rattle.packet_captures.specs.Answers.{Gives}
use Rattle.packet_captures.specs.declared.capture_fault.FormatFault.TheVariants as faults
use Rattle.packet_captures.specs.Numbers.{number_at}
use Rattle.packet_captures.specs.Pcapng.{same_at_end, size_in, sized_at}
use Rattle.packet_captures.specs.Window.{Ahead, Passes, SameAhead, bytes_ahead, passed}
use Rattle.packet_captures.proofs.HeldFronts.{if-known, at-known, held-within, rest-front}
use Rattle.packet_captures.proofs.Windows.{passes-trans, passes-same, passes-passed}

-- a number in the last four bytes of a front is at the front of the last four bytes
last-bytes : (n : ℕ) (b : List ℕ) → 4 ≤ n → take 4 (drop (n - 4) (take n b)) ≡ take 4 (take 4 (drop (n - 4) b))
last-bytes n b h =
    let k : n - (n - 4) ≡ 4 = omega arith in
    ap (λ (xs : List ℕ). take 4 xs) (rest-front (n - 4) n b (omega arith) ∙ ap (λ (m : ℕ). take m (drop (n - 4) b)) k)

last-number : (order : ByteOrder) (n : ℕ) (b : List ℕ) → 4 ≤ n → number_at order w32 (n - 4) (take n b) ≡ number_at order w32 0 (take 4 (drop (n - 4) b))
unfolding number_at
last-number Little n b h = ap (λ (xs : List ℕ). from_le_bytes w32 xs) (last-bytes n b h)
last-number Big n b h = ap (λ (xs : List ℕ). from_be_bytes w32 xs) (last-bytes n b h)

pub sized-end : (order : ByteOrder) (at n : ℕ) (b : List ℕ) → 12 ≤ n → n ≤ length b → size_in order at (take 8 b) ≡ Ok n
    → sized_at order false at b ≡ tested (number_at order w32 0 (take 4 (drop (n - 4) b)) == n) (faults.Block (at + (n - 4))) n
unfolding sized_at same_at_end
sized-end order at n b h g e =
    let there : nat_lt (length b) n ≡ false = search (rules, tests) in
    rw (e, there) (ap (λ (m : ℕ). tested (m == n) (faults.Block (at + (n - 4))) n) (last-number order n b (omega arith)))

-- what the end of a block gives is what the block gives
pub sized-passed : (order : ByteOrder) (old first second : Ahead) (n : ℕ) (r : Result ℕ CaptureFault) → 12 ≤ n
    → Passes (n - 4) old first → SameAhead first second → 4 ≤ length second.held
    → IfSome (bytes_ahead old) (λ b. Ok n ≡ size_in order old.at (take 8 b))
    → IfSome (bytes_ahead second) (λ b. Gives r (tested (number_at order w32 0 (take 4 b) == n) (faults.Block second.at) n))
    → IfSome (bytes_ahead old) (λ b. Gives r (sized_at order false old.at b))
sized-passed order old first second n r h p q room head end =
    if-known (bytes_ahead old) (λ (b : List ℕ). Gives r (sized_at order false old.at b)) (λ (b : List ℕ) (e : bytes_ahead old ≡ Some b).
    let f : bytes_ahead first ≡ Some (drop (n - 4) b) = at-known (bytes_ahead old) (λ (d : List ℕ). bytes_ahead first ≡ Some (drop (n - 4) d)) b e p.bytes in
    let s : bytes_ahead second ≡ Some (drop (n - 4) b) = at-known (bytes_ahead first) (λ (d : List ℕ). bytes_ahead second ≡ Some d) (drop (n - 4) b) f q.bytes in
    let there : n - 4 ≤ length b = at-known (bytes_ahead old) (λ (d : List ℕ). n - 4 ≤ length d) b e p.there in
    let last : length second.held ≤ length (drop (n - 4) b) = held-within second.held second.rest (drop (n - 4) b) s in
    let whole : n ≤ length b = omega (arith, length-drop (n - 4) b) in
    let k : size_in order old.at (take 8 b) ≡ Ok n = sym (at-known (bytes_ahead old) (λ (d : List ℕ). Ok n ≡ size_in order old.at (take 8 d)) b e head) in
    let place : second.at ≡ old.at + (n - 4) = q.at ∙ p.at in
    let given = at-known (bytes_ahead second) (λ (d : List ℕ). Gives r (tested (number_at order w32 0 (take 4 d) == n) (faults.Block second.at) n)) (drop (n - 4) b) s end in
    rw (sized-end order old.at n b h whole k, ← place) given)

-- four bytes more
pub passes-end : (old first second third : Ahead) (n : ℕ) → 12 ≤ n → Passes (n - 4) old first → SameAhead first second → Passes 4 second third → Passes n old third
passes-end old first second third n h p q r =
    let k : n - 4 + 0 + 4 ≡ n = omega arith in
    subst (λ (m : ℕ). Passes m old third) k (passes-trans (n - 4 + 0) 4 old second third (passes-trans (n - 4) 0 old first second p (passes-same first second q)) r)

pub passes-end-ok : (old first second third : Ahead) (n : ℕ) (r : Result ℕ CaptureFault) → 12 ≤ n → Passes (n - 4) old first → SameAhead first second
    → IfOk r (λ m. m ≡ n) → OnOk r (Passes 4 second third) → IfOk r (λ m. Passes m old third)
passes-end-ok old first second third n (Ok m) h p q e t =
    subst (λ (k : ℕ). Passes k old third) (sym e) (passes-end old first second third n h p q t)
passes-end-ok old first second third n (Err f) h p q e t = tt

-- bytes that are held are passed
pub passes-held : (n : ℕ) (old first : Ahead) (kept : List ℕ) → SameAhead old first → n ≤ length first.held → Passes n old (passed n first kept)
passes-held n old first kept p h =
    let k : 0 + n ≡ n = omega arith in
    subst (λ (m : ℕ). Passes m old (passed n first kept)) k (passes-trans 0 n old first (passed n first kept) (passes-same old first p) (passes-passed n first kept h))
