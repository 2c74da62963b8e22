-- The next packet, record by record and block by block.
use Rattle.std.proofs.Common.{◌≡◌, ℕ, zero, suc, ◌+◌, ◌<◌, List, length, Option, Some, None, Bool, true, false, refl, sym, ◌∙◌, ap, subst, cond, add-one, add-zero, arith}
use Rattle.std.specs.Prelude.{IfSome, IsSomeAnd, Result, Ok, Err}
use Rattle.std.specs.Option.{option_map_or}
use Rattle.byte_files.specs.Fields.{◌>>=◌}
use Rattle.packet_captures.specs.declared.capture_fault.FormatFault.{FormatFault}
use Rattle.packet_captures.specs.Capture.{Found, found_in, front_found, Stop, is_whole, next_found, next_within, stopped}
use Rattle.packet_captures.specs.State.{State}
use Rattle.packet_captures.specs.Answers.{Fails, Finds, FindsNext, Stops, kept_packet}
use Rattle.packet_captures.specs.declared.packet.PacketHead.{PacketHead}
use Rattle.packet_captures.specs.Window.{Ahead, SameAhead, bytes_ahead}
use Rattle.packet_captures.proofs.Shorter.{front-shorter}

-- what follows behind what was found
abbrev pub after : (left : ℕ) → (name : Option (List ℕ)) → Found → Result Found Stop
after left name f = option_map_or (λ p. Ok f) f.packet (next_within left name f.state f.at f.rest)

next-step : (left : ℕ) (name : Option (List ℕ)) (s : State) (at : ℕ) (b : List ℕ)
    → next_within (suc left) name s at b ≡ cond (is_whole s.form b) (Ok (found_in 0 at b None s)) (stopped s (front_found s.form name s at b) >>= λ f. after left name f)
next-step left name s at b = refl

-- more records and blocks than bytes are not needed
pub enough : (n m : ℕ) (name : Option (List ℕ)) (s : State) (at : ℕ) (b : List ℕ) → length b < n → length b < m
    → next_within n name s at b ≡ next_within m name s at b
enough zero m name s at b h g = absurd (omega arith)
enough (suc n) zero name s at b h g = absurd (omega arith)
enough (suc n) (suc m) name s at b h g =
    ap (λ (r : Result Found Stop). cond (is_whole s.form b) (Ok (found_in 0 at b None s)) r)
    (each s (front_found s.form name s at b) (λ (f : Found) (e : front_found s.form name s at b ≡ Ok f).
    let less : length f.rest < length b = front-shorter s.form name s at b f e in
    ap (λ (r : Result Found Stop). option_map_or (λ p. Ok f) f.packet r) (enough n m name f.state f.at f.rest (omega arith) (omega arith))))
  where
    each : (t : State) (r : Result Found FormatFault) → ((f : Found) → r ≡ Ok f → after n name f ≡ after m name f)
        → (stopped t r >>= λ f. after n name f) ≡ (stopped t r >>= λ f. after m name f)
    each t (Ok f) k = k f refl
    each t (Err e) k = refl

-- the next packet, one step on
next-unrolled : (name : Option (List ℕ)) (s : State) (at : ℕ) (b : List ℕ)
    → next_found name s at b ≡ cond (is_whole s.form b) (Ok (found_in 0 at b None s)) (stopped s (front_found s.form name s at b) >>= λ f. after (length b) name f)
next-unrolled name s at b = ap (λ (n : ℕ). next_within n name s at b) (add-one (length b))

pub next-whole : (name : Option (List ℕ)) (s : State) (at : ℕ) (b : List ℕ) → is_whole s.form b ≡ true
    → next_found name s at b ≡ Ok (record { packet = None; state = s; at = at; rest = b })
next-whole name s at b e =
    let found : ℕ → Result Found Stop = λ (n : ℕ). Ok (record { packet = None; state = s; at = n; rest = b }) in
    next-unrolled name s at b ∙ (ap (λ t. cond t (Ok (found_in 0 at b None s)) (stopped s (front_found s.form name s at b) >>= λ f. after (length b) name f)) e ∙ ap found (add-zero at))

pub next-on : (name : Option (List ℕ)) (s : State) (at : ℕ) (b : List ℕ) → is_whole s.form b ≡ false
    → next_found name s at b ≡ (stopped s (front_found s.form name s at b) >>= λ f. after (length b) name f)
next-on name s at b e =
    next-unrolled name s at b ∙ ap (λ t. cond t (Ok (found_in 0 at b None s)) (stopped s (front_found s.form name s at b) >>= λ f. after (length b) name f)) e

-- the next packet from old on is the next packet from new on
abbrev pub LeadsTo : (name : Option (List ℕ)) → (old : Ahead) → (before : State) → (new : Ahead) → State → Type 0
LeadsTo name old before new s = IfSome (bytes_ahead old) (λ b. IsSomeAnd (bytes_ahead new) (λ d. next_found name s new.at d ≡ next_found name before old.at b))

known-same : (x : Option (List ℕ)) (r : List ℕ → Result Found Stop) → IfSome x (λ b. IsSomeAnd x (λ d. r d ≡ r b))
known-same None r = tt
known-same (Some b) r = refl

pub leads-start : (name : Option (List ℕ)) (a : Ahead) (s : State) → LeadsTo name a s a s
leads-start name a s = known-same (bytes_ahead a) (λ (b : List ℕ). next_found name s a.at b)

-- what is known where old is known
known-step : (x y : Option (List ℕ)) (P : List ℕ → List ℕ → Type 0) (Q : List ℕ → Type 0)
    → ((b d : List ℕ) → y ≡ Some d → P b d → Q b) → IfSome x (λ b. IsSomeAnd y (λ d. P b d)) → IfSome x Q
known-step None y P Q f p = tt
known-step (Some b) None P Q f p = absurd p
known-step (Some b) (Some d) P Q f p = f b d refl p

at-some : (P : List ℕ → Type 0) (x : Option (List ℕ)) (b : List ℕ) → x ≡ Some b → IfSome x P → P b
at-some P x b e p = subst (λ (y : Option (List ℕ)). IfSome y P) e p

-- what is known of a step where all is known
leads-at : (name : Option (List ℕ)) (a : Ahead) (before : State) (b c : Ahead) (s : State) (t : Bool) (G Q : List ℕ → Type 0)
    → LeadsTo name a before b s → SameAhead b c → IfSome (bytes_ahead b) (λ d. t ≡ is_whole s.form d) → IfSome (bytes_ahead c) G
    → ((x d : List ℕ) → bytes_ahead c ≡ Some d → is_whole s.form d ≡ t → G d → next_found name s c.at d ≡ next_found name before a.at x → Q x)
    → IfSome (bytes_ahead a) Q
leads-at name a before b c s t G Q l q w given k =
    known-step (bytes_ahead a) (bytes_ahead b) (λ (x d : List ℕ). next_found name s b.at d ≡ next_found name before a.at x) Q
    (λ (x d : List ℕ) (e : bytes_ahead b ≡ Some d) (p : next_found name s b.at d ≡ next_found name before a.at x).
    let there : bytes_ahead c ≡ Some d = at-some (λ (z : List ℕ). bytes_ahead c ≡ Some z) (bytes_ahead b) d e q.bytes in
    k x d there (sym (at-some (λ (z : List ℕ). t ≡ is_whole s.form z) (bytes_ahead b) d e w)) (at-some G (bytes_ahead c) d there given)
    (ap (λ (n : ℕ). next_found name s n d) q.at ∙ p)) l

always : (x : Option (List ℕ)) → IfSome x (λ b. Unit {0})
always None = tt
always (Some b) = tt

pub leads-whole : (name : Option (List ℕ)) (a : Ahead) (before : State) (b c : Ahead) (s : State) → LeadsTo name a before b s → SameAhead b c
    → IfSome (bytes_ahead b) (λ d. true ≡ is_whole s.form d) → IfSome (bytes_ahead a) (λ x. FindsNext (Ok None) c s (next_found name before a.at x))
leads-whole name a before b c s l q w =
    leads-at name a before b c s true (λ (d : List ℕ). Unit {0}) (λ (x : List ℕ). FindsNext (Ok None) c s (next_found name before a.at x)) l q w (always (bytes_ahead c))
    (λ (x d : List ℕ) (there : bytes_ahead c ≡ Some d) (k : is_whole s.form d ≡ true) (u : Unit {0}) (p : next_found name s c.at d ≡ next_found name before a.at x).
    let r : next_found name before a.at x ≡ Ok (record { packet = None; state = s; at = c.at; rest = d }) = sym p ∙ next-whole name s c.at d k in
    rw there r)

some-and : (x : Option (List ℕ)) (P Q : List ℕ → Type 0) → ((r : List ℕ) → P r → Q r) → IsSomeAnd x P → IsSomeAnd x Q
some-and None P Q f p = absurd p
some-and (Some b) P Q f p = f b p

pub leads-packet : (name : Option (List ℕ)) (a : Ahead) (before : State) (b c : Ahead) (s : State) (e : Ahead) (new : State) (h : PacketHead)
    → LeadsTo name a before b s → SameAhead b c → IfSome (bytes_ahead b) (λ d. false ≡ is_whole s.form d)
    → IfSome (bytes_ahead c) (λ d. Finds (Ok (Some h)) e new (front_found s.form name s c.at d))
    → IfSome (bytes_ahead a) (λ x. FindsNext (Ok (Some h)) e new (next_found name before a.at x))
leads-packet name a before b c s e new h l q w found =
    leads-at name a before b c s false (λ (d : List ℕ). Finds (Ok (Some h)) e new (front_found s.form name s c.at d))
    (λ (x : List ℕ). FindsNext (Ok (Some h)) e new (next_found name before a.at x)) l q w found
    (λ (x d : List ℕ) (there : bytes_ahead c ≡ Some d) (k : is_whole s.form d ≡ false) (g : Finds (Ok (Some h)) e new (front_found s.form name s c.at d)) (p : next_found name s c.at d ≡ next_found name before a.at x).
    let f : List ℕ → Found = λ (rest : List ℕ). record { packet = kept_packet (Some h) e; state = new; at = e.at; rest = rest } in
    some-and (bytes_ahead e) (λ (r : List ℕ). front_found s.form name s c.at d ≡ Ok (f r)) (λ (r : List ℕ). next_found name before a.at x ≡ Ok (f r))
    (λ (r : List ℕ) (t : front_found s.form name s c.at d ≡ Ok (f r)).
    sym p ∙ (next-on name s c.at d k ∙ ap (λ (y : Result Found FormatFault). stopped s y >>= λ z. after (length d) name z) t)) g)

fails-on : (s : State) (fault : Option FormatFault) (r : Result Found FormatFault) (f : Found → Result Found Stop) → Fails fault r → Stops fault s (stopped s r >>= f)
fails-on s None r f p = tt
fails-on s (Some d) r f p = ap (λ (y : Result Found FormatFault). stopped s y >>= f) p

pub leads-fault : (name : Option (List ℕ)) (a : Ahead) (before : State) (b c : Ahead) (s : State) (fault : Option FormatFault)
    → LeadsTo name a before b s → SameAhead b c → IfSome (bytes_ahead b) (λ d. false ≡ is_whole s.form d)
    → IfSome (bytes_ahead c) (λ d. Fails fault (front_found s.form name s c.at d))
    → IfSome (bytes_ahead a) (λ x. Stops fault s (next_found name before a.at x))
leads-fault name a before b c s fault l q w found =
    leads-at name a before b c s false (λ (d : List ℕ). Fails fault (front_found s.form name s c.at d)) (λ (x : List ℕ). Stops fault s (next_found name before a.at x)) l q w found
    (λ (x d : List ℕ) (there : bytes_ahead c ≡ Some d) (k : is_whole s.form d ≡ false) (g : Fails fault (front_found s.form name s c.at d)) (p : next_found name s c.at d ≡ next_found name before a.at x).
    subst (λ (r : Result Found Stop). Stops fault s r) (sym (next-on name s c.at d k) ∙ p) (fails-on s fault (front_found s.form name s c.at d) (λ z. after (length d) name z) g))

pub leads-on : (name : Option (List ℕ)) (a : Ahead) (before : State) (b c : Ahead) (s : State) (e : Ahead) (new : State)
    → LeadsTo name a before b s → SameAhead b c → IfSome (bytes_ahead b) (λ d. false ≡ is_whole s.form d)
    → IfSome (bytes_ahead c) (λ d. Finds (Ok None) e new (front_found s.form name s c.at d))
    → LeadsTo name a before e new
leads-on name a before b c s e new l q w found =
    leads-at name a before b c s false (λ (d : List ℕ). Finds (Ok None) e new (front_found s.form name s c.at d))
    (λ (x : List ℕ). IsSomeAnd (bytes_ahead e) (λ r. next_found name new e.at r ≡ next_found name before a.at x)) l q w found
    (λ (x d : List ℕ) (there : bytes_ahead c ≡ Some d) (k : is_whole s.form d ≡ false) (g : Finds (Ok None) e new (front_found s.form name s c.at d)) (p : next_found name s c.at d ≡ next_found name before a.at x).
    let f : List ℕ → Found = λ (rest : List ℕ). record { packet = None; state = new; at = e.at; rest = rest } in
    some-and (bytes_ahead e) (λ (r : List ℕ). front_found s.form name s c.at d ≡ Ok (f r)) (λ (r : List ℕ). next_found name new e.at r ≡ next_found name before a.at x)
    (λ (r : List ℕ) (t : front_found s.form name s c.at d ≡ Ok (f r)).
    let less : length r < length d = front-shorter s.form name s c.at d (f r) t in
    enough (length r + 1) (length d) name new e.at r (omega arith) less
    ∙ (sym (next-on name s c.at d k ∙ ap (λ (y : Result Found FormatFault). stopped s y >>= λ z. after (length d) name z) t) ∙ p)) g)
