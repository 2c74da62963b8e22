-- A capture, packet after packet.
use Rattle.std.proofs.Common.{◌≡◌, ℕ, zero, suc, ◌+◌, ◌<◌, ◌≤◌, List, length, Option, Some, None, Bool, true, false, refl, sym, ◌∙◌, ap, subst, cond, add-one, arith}
use Rattle.std.specs.Prelude.{IfSome, IsSomeAnd, Result, Ok, Err}
use Rattle.std.specs.Option.{option_map, option_map_or}
use Rattle.byte_files.specs.Fields.{◌>>=◌}
use Rattle.packet_captures.specs.declared.capture_fault.CaptureFault.{CaptureFault}
use Rattle.packet_captures.specs.declared.capture_fault.FormatFault.{FormatFault}
use Rattle.packet_captures.specs.declared.packet.PacketHead.{PacketHead}
use Rattle.packet_captures.specs.Answers.{FindsNext, Stops}
use Rattle.packet_captures.specs.Capture.{Found, PlainCapture, Stop, capture_from, capture_with, capture_within, ended, found_in, front_found, is_whole, next_found, next_within, preceded, stopped}
use Rattle.packet_captures.specs.Faults.{format_of}
use Rattle.packet_captures.specs.Packet.{Packet}
use Rattle.packet_captures.specs.Reading.{ReadsNext, capture_ahead}
use Rattle.packet_captures.specs.State.{State}
use Rattle.packet_captures.specs.Window.{Ahead, bytes_ahead}
use Rattle.packet_captures.proofs.Shorter.{front-shorter}

-- what is behind a packet is shorter
shorter-found : (n : ℕ) (name : Option (List ℕ)) (found : Found) (b : List ℕ) (f : Found) (p : Packet) → length found.rest < length b
    → ((g : Found) → next_within n name found.state found.at found.rest ≡ Ok g → g.packet ≡ Some p → length g.rest < length found.rest)
    → (o : Option Packet) → option_map_or {U = Result Found Stop} (λ q. Ok found) o (next_within n name found.state found.at found.rest) ≡ Ok f
    → f.packet ≡ Some p → length f.rest < length b
shorter-found n name found b f p less more (Some q) e k =
    let same : found ≡ f = cc in
    subst (λ (x : Found). length x.rest < length b) same less
shorter-found n name found b f p less more None e k =
    let further : length f.rest < length found.rest = more f e k in
    omega arith

shorter-front : (n : ℕ) (name : Option (List ℕ)) (s : State) (at : ℕ) (b : List ℕ) (f : Found) (p : Packet)
    → ((found : Found) (g : Found) → next_within n name found.state found.at found.rest ≡ Ok g → g.packet ≡ Some p → length g.rest < length found.rest)
    → (r : Result Found FormatFault) → front_found s.form name s at b ≡ r
    → (stopped s r >>= λ x. option_map_or (λ q. Ok x) x.packet (next_within n name x.state x.at x.rest)) ≡ Ok f → f.packet ≡ Some p → length f.rest < length b
shorter-front n name s at b f p more (Err d) t e k = absurd (cc)
shorter-front n name s at b f p more (Ok x) t e k = shorter-found n name x b f p (front-shorter s.form name s at b x t) (more x) x.packet e k

shorter-whole : (at : ℕ) (b : List ℕ) (s : State) (f : Found) (p : Packet) (r : Result Found Stop) (t : Bool)
    → (r ≡ Ok f → f.packet ≡ Some p → length f.rest < length b)
    → cond t (Ok (found_in 0 at b None s)) r ≡ Ok f → f.packet ≡ Some p → length f.rest < length b
shorter-whole at b s f p r true more e k =
    let same : found_in 0 at b None s ≡ f = cc in
    let none : None ≡ Some p = ap (λ (x : Found). x.packet) same ∙ k in
    absurd (cc)
shorter-whole at b s f p r false more e k = more e k

pub within-shorter : (n : ℕ) (name : Option (List ℕ)) (s : State) (at : ℕ) (b : List ℕ) (f : Found) (p : Packet)
    → next_within n name s at b ≡ Ok f → f.packet ≡ Some p → length f.rest < length b
within-shorter zero name s at b f p e k =
    let same : found_in 0 at b None s ≡ f = cc in
    let none : None ≡ Some p = ap (λ (x : Found). x.packet) same ∙ k in
    absurd (cc)
within-shorter (suc n) name s at b f p e k =
    shorter-whole at b s f p (stopped s (front_found s.form name s at b) >>= λ x. option_map_or (λ q. Ok x) x.packet (next_within n name x.state x.at x.rest)) (is_whole s.form b)
    (shorter-front n name s at b f p (λ (x g : Found). within-shorter n name x.state x.at x.rest g p) (front_found s.form name s at b) refl) e k

-- more packets than bytes are not needed
each : (n m : ℕ) (name : Option (List ℕ)) (f : Found) (o : Option Packet)
    → ((p : Packet) → o ≡ Some p → capture_within n name f.state f.at f.rest ≡ capture_within m name f.state f.at f.rest)
    → option_map_or (λ p. preceded p (capture_within n name f.state f.at f.rest)) o (ended f.state None)
    ≡ option_map_or (λ p. preceded p (capture_within m name f.state f.at f.rest)) o (ended f.state None)
each n m name f None k = refl
each n m name f (Some p) k = ap (λ (c : PlainCapture). preceded p c) (k p refl)

pub each-next : (n m : ℕ) (name : Option (List ℕ)) (r : Result Found Stop)
    → ((f : Found) (p : Packet) → r ≡ Ok f → f.packet ≡ Some p → capture_within n name f.state f.at f.rest ≡ capture_within m name f.state f.at f.rest)
    → capture_with r (λ f. capture_within n name f.state f.at f.rest) ≡ capture_with r (λ f. capture_within m name f.state f.at f.rest)
each-next n m name (Err e) k = refl
each-next n m name (Ok f) k = each n m name f f.packet (λ (p : Packet) (t : f.packet ≡ Some p). k f p refl t)

pub capture-enough : (n m : ℕ) (name : Option (List ℕ)) (s : State) (at : ℕ) (b : List ℕ) → length b < n → length b < m
    → capture_within n name s at b ≡ capture_within m name s at b
capture-enough zero m name s at b h g = absurd (omega arith)
capture-enough (suc n) zero name s at b h g = absurd (omega arith)
capture-enough (suc n) (suc m) name s at b h g =
    each-next n m name (next_found name s at b) (λ (f : Found) (p : Packet) (e : next_found name s at b ≡ Ok f) (k : f.packet ≡ Some p).
    let less : length f.rest < length b = within-shorter (length b + 1) name s at b f p e k in
    capture-enough n m name f.state f.at f.rest (omega arith) (omega arith))

pub capture-unrolled : (name : Option (List ℕ)) (s : State) (at : ℕ) (b : List ℕ)
    → capture_from name s at b ≡ capture_with (next_found name s at b) (λ f. capture_within (length b) name f.state f.at f.rest)
capture-unrolled name s at b = ap (λ (n : ℕ). capture_within n name s at b) (add-one (length b))

pub capture-packet : (name : Option (List ℕ)) (s : State) (at : ℕ) (b : List ℕ) (p : Packet) (new : State) (place : ℕ) (rest : List ℕ)
    → next_found name s at b ≡ Ok (record { packet = Some p; state = new; at = place; rest = rest })
    → capture_from name s at b ≡ preceded p (capture_from name new place rest)
capture-packet name s at b p new place rest e =
    let f : Found = record { packet = Some p; state = new; at = place; rest = rest } in
    let less : length rest < length b = within-shorter (length b + 1) name s at b f p e refl in
    capture-unrolled name s at b
    ∙ (ap (λ (r : Result Found Stop). capture_with r (λ x. capture_within (length b) name x.state x.at x.rest)) e
    ∙ ap (λ (c : PlainCapture). preceded p c) (capture-enough (length b) (length rest + 1) name new place rest less (omega arith)))

pub capture-none : (name : Option (List ℕ)) (s : State) (at : ℕ) (b : List ℕ) (new : State) (place : ℕ) (rest : List ℕ)
    → next_found name s at b ≡ Ok (record { packet = None; state = new; at = place; rest = rest })
    → capture_from name s at b ≡ ended new None
capture-none name s at b new place rest e =
    capture-unrolled name s at b ∙ ap (λ (r : Result Found Stop). capture_with r (λ x. capture_within (length b) name x.state x.at x.rest)) e

capture-fault : (name : Option (List ℕ)) (s : State) (at : ℕ) (b : List ℕ) (fault : FormatFault) (new : State)
    → next_found name s at b ≡ Err (record { fault = fault; state = new }) → capture_from name s at b ≡ ended new (Some fault)
capture-fault name s at b fault new e =
    capture-unrolled name s at b ∙ ap (λ (r : Result Found Stop). capture_with r (λ x. capture_within (length b) name x.state x.at x.rest)) e

-- what has the same next packet is the same capture
pub capture-same : (name : Option (List ℕ)) (s t : State) (at place : ℕ) (b d : List ℕ) → length d ≤ length b
    → next_found name s at b ≡ next_found name t place d → capture_from name s at b ≡ capture_from name t place d
capture-same name s t at place b d h e =
    capture-unrolled name s at b
    ∙ (ap (λ (r : Result Found Stop). capture_with r (λ x. capture_within (length b) name x.state x.at x.rest)) e
    ∙ (each-next (length b) (length d) name (next_found name t place d) (λ (f : Found) (p : Packet) (k : next_found name t place d ≡ Ok f) (q : f.packet ≡ Some p).
    let less : length f.rest < length d = within-shorter (length d + 1) name t place d f p k q in
    capture-enough (length b) (length d) name f.state f.at f.rest (omega arith) less)
    ∙ sym (capture-unrolled name t place d)))

-- what the next packet says of the capture
reads-packet : (name : Option (List ℕ)) (s : State) (at : ℕ) (b : List ℕ) (p : Packet) (new : State) (place : ℕ) (y : Option (List ℕ))
    → IsSomeAnd y (λ rest. next_found name s at b ≡ Ok (record { packet = Some p; state = new; at = place; rest = rest }))
    → IsSomeAnd (option_map (λ d. capture_from name new place d) y) (λ rest. capture_from name s at b ≡ preceded p rest)
reads-packet name s at b p new place None e = absurd e
reads-packet name s at b p new place (Some d) e = capture-packet name s at b p new place d e

reads-none : (name : Option (List ℕ)) (s : State) (at : ℕ) (b : List ℕ) (new : State) (place : ℕ) (y : Option (List ℕ))
    → IsSomeAnd y (λ rest. next_found name s at b ≡ Ok (record { packet = None; state = new; at = place; rest = rest }))
    → capture_from name s at b ≡ ended new None
reads-none name s at b new place None e = absurd e
reads-none name s at b new place (Some d) e = capture-none name s at b new place d e

reads-fault : (name : Option (List ℕ)) (s : State) (at : ℕ) (b : List ℕ) (new : State) (o : Option FormatFault)
    → Stops o new (next_found name s at b) → IfSome o (λ fault. capture_from name s at b ≡ ended new (Some fault))
reads-fault name s at b new None e = tt
reads-fault name s at b new (Some fault) e = capture-fault name s at b fault new e

reads-at : (name : Option (List ℕ)) (s : State) (at : ℕ) (new : Ahead) (t : State) (r : Result (Option PacketHead) CaptureFault) (x : Option (List ℕ))
    → IfSome x (λ b. FindsNext r new t (next_found name s at b))
    → IfSome (option_map (λ b. capture_from name s at b) x) (ReadsNext r (record { ahead = new; state = t; name = name }))
reads-at name s at new t r None e = tt
reads-at name s at new t (Ok None) (Some b) e = reads-none name s at b t new.at (bytes_ahead new) e
reads-at name s at new t (Ok (Some h)) (Some b) e = reads-packet name s at b (record { head = h; bytes = new.kept }) t new.at (bytes_ahead new) e
reads-at name s at new t (Err d) (Some b) e = reads-fault name s at b t (format_of d) e

pub reads-next : (name : Option (List ℕ)) (old : Ahead) (s : State) (new : Ahead) (t : State) (r : Result (Option PacketHead) CaptureFault)
    → IfSome (bytes_ahead old) (λ b. FindsNext r new t (next_found name s old.at b))
    → IfSome (capture_ahead (record { ahead = old; state = s; name = name })) (ReadsNext r (record { ahead = new; state = t; name = name }))
reads-next name old s new t r e = reads-at name s old.at new t r (bytes_ahead old) e
