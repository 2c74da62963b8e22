-- One receive of a link over a socket: what it passes over, and how it ends.
use Rattle.std.proofs.Common.{◌≡◌, ◌∙◌, ℕ, ◌+◌, ◌<◌, Bool, true, false, ◌||◌, List, [], ◌∷◌, ◌++◌, length, take, Option, Some, None, Ok, Err, refl, sym, ap, inl, inr, arith, length-append}
use Rattle.std.specs.Prelude.{if◌then◌else◌, IfOk, OnErr, MatchOption, Result}
use Rattle.std.specs.declared.net.socket_addr.SocketAddr.{SocketAddr}
use Rattle.siman_lines.specs.Socket.{Addressed, grown, Comes, Telling}
use Rattle.siman_lines.specs.declared.line.LineFault.{LineFault}
use Rattle.siman_lines.specs.declared.line.PassedOver.{PassedOver}
use Rattle.siman_lines.specs.declared.socket.Hearing.{Hearing}
use Rattle.siman_lines.specs.declared.udp.UdpLine.{UdpLine}
use Rattle.siman_lines.specs.Udp.{is_stranger, is_other, is_passed_over, passed_on, counted, PassesOver, heard_of, KeepsCounts, Receives}
use Rattle.siman_lines.proofs.Sockets.{grown_none, grown_on, passed_more, each_more, heard_none, heard_more}
use Rattle.siman_lines.specs.LineDatagrams.{Same, Hands}

-- nothing was passed over
pub passes_none : {S : Type 0} (told : Telling S) (old : UdpLine S) → PassesOver told [] old old
passes_none told old = record {
  each = tt;
  came = grown_none (told.came old.socket);
  handed = refl;
  failed = refl;
  passed = refl;
  peers = refl;
  hearing = refl;
  failures = refl;
  trouble = refl;
}

-- what is not passed over does not count
pub not_counted : (peers : List SocketAddr) (hearing : Hearing) (d : Addressed) (before : PassedOver) → is_passed_over peers hearing d ≡ false
    → passed_on peers hearing d before ≡ before
not_counted peers hearing d before h = go (is_stranger peers hearing d.address) (is_other hearing d.bytes) h
  where
    go : (s o : Bool) → s || o ≡ false
        → (if s then record { strangers = counted before.strangers; others = before.others } else (
        if o then record { strangers = before.strangers; others = counted before.others } else before)) ≡ before
    go true o h = cc
    go false true h = cc
    go false false h = refl

-- one more is passed over
pub pass_step : {S : Type 0} (told : Telling S) (old mid new : UdpLine S) (socket : S) (ds : List Addressed) (counter taken : ℕ) (from : SocketAddr) (buffer b : List ℕ)
    → length ds ≡ counter → PassesOver told ds old mid → Comes (told.came mid.socket) (told.came socket) taken from buffer
    → told.handed socket ≡ told.handed mid.socket → told.failed socket ≡ told.failed mid.socket → b ≡ take taken buffer
    → true ≡ is_passed_over mid.peers.items mid.hearing (record { address = from; bytes = b })
    → new.passed ≡ passed_on mid.peers.items mid.hearing (record { address = from; bytes = b }) mid.passed
    → new.socket ≡ socket → new.peers ≡ mid.peers → new.hearing ≡ mid.hearing → new.failures ≡ mid.failures → new.trouble ≡ mid.trouble
    → (more : List Addressed) × (length more ≡ counter + 1) × PassesOver told more old new
pass_step told old mid new socket ds counter taken from buffer b size over comes handed failed whole is_over passed is_socket peers hearing failures trouble =
    let d : Addressed = record { address = from; bytes = b } in
    let same_peers : mid.peers.items ≡ old.peers.items = ap (λ p. p.items) over.peers in
    let here : is_passed_over old.peers.items old.hearing d ≡ true = rw (← same_peers, ← over.hearing) (sym is_over) in
    let came : told.came socket ≡ grown (told.came mid.socket) (d ∷ []) = rw whole comes.came in (
      ds ++ d ∷ [],
      length-append ds (d ∷ []) ∙ ap (λ (n : ℕ). n + 1) size,
      record {
        each = each_more (λ (x : Addressed). is_passed_over old.peers.items old.hearing x ≡ true) ds d over.each here;
        came = rw (is_socket, came, over.came) (grown_on (told.came old.socket) ds (d ∷ []));
        handed = rw is_socket (handed ∙ over.handed);
        failed = rw is_socket (failed ∙ over.failed);
        passed = passed ∙ (rw (same_peers, over.hearing, over.passed) (sym (passed_more old.peers.items old.hearing ds d old.passed)));
        peers = peers ∙ over.peers;
        hearing = hearing ∙ over.hearing;
        failures = failures ∙ over.failures;
        trouble = trouble ∙ over.trouble;
      },
    )

-- the next one is returned
pub return_step : {S : Type 0} (told : Telling S) (finds : S → S → Type 0) (old mid new : UdpLine S) (socket : S) (ds : List Addressed) (counter taken : ℕ)
    (from : SocketAddr) (buffer b : List ℕ) → length ds ≡ counter → counter < 64 → PassesOver told ds old mid
    → Comes (told.came mid.socket) (told.came socket) taken from buffer → told.handed socket ≡ told.handed mid.socket
    → told.failed socket ≡ told.failed mid.socket → b ≡ take taken buffer
    → false ≡ is_passed_over mid.peers.items mid.hearing (record { address = from; bytes = b })
    → new.passed ≡ passed_on mid.peers.items mid.hearing (record { address = from; bytes = b }) mid.passed
    → new.socket ≡ socket → new.peers ≡ mid.peers → new.hearing ≡ mid.hearing → new.trouble ≡ mid.trouble
    → Receives told finds buffer old new (Ok (Some taken))
return_step told finds old mid new socket ds counter taken from buffer b size few over comes handed failed whole heard passed is_socket peers hearing trouble =
    let d : Addressed = record { address = from; bytes = b } in
    record {
      datagrams = ds;
      mid = mid;
      over = over;
      ends = (
        omega arith,
        comes.within,
        record {
          from = from;
          heard = rw (← whole) (sym heard);
          came = rw is_socket comes.came;
          handed = rw is_socket handed;
          failed = rw is_socket failed;
          trouble = trouble;
          keeps = record {
            passed = passed ∙ not_counted mid.peers.items mid.hearing d mid.passed (sym heard);
            peers = peers;
            hearing = hearing;
          };
        },
      );
    }

-- the datagrams that came while some were passed over, and that a link then returned

heard_over : {S : Type 0} (told : Telling S) (ds : List Addressed) (old mid new : UdpLine S) → PassesOver told ds old mid → KeepsCounts mid new
    → told.came new.socket ≡ told.came mid.socket
    → Same (heard_of old.peers.items old.hearing (told.came old.socket)) (heard_of new.peers.items new.hearing (told.came new.socket))
heard_over told ds old mid new over keeps came =
    let same_peers : new.peers.items ≡ old.peers.items = ap (λ p. p.items) (keeps.peers ∙ over.peers) in
    let same_hearing : new.hearing ≡ old.hearing = keeps.hearing ∙ over.hearing in
    rw (same_peers, same_hearing) (heard_none old.peers.items old.hearing (told.came old.socket) (told.came new.socket) ds over.each (came ∙ over.came))

pub returned : {S : Type 0} (told : Telling S) (finds : S → S → Type 0) (buffer : List ℕ) (old new : UdpLine S) (result : Result (Option ℕ) LineFault)
    → Receives told finds buffer old new result
    → IfOk result (λ r. MatchOption r
    (Same (heard_of old.peers.items old.hearing (told.came old.socket)) (heard_of new.peers.items new.hearing (told.came new.socket)))
    (λ n. Hands (heard_of old.peers.items old.hearing (told.came old.socket)) (heard_of new.peers.items new.hearing (told.came new.socket)) n buffer))
returned told finds buffer old new (Ok (Some n)) h =
    let it = h.ends.2 in
    let over = h.over in
    let mid_peers : h.mid.peers.items ≡ old.peers.items = ap (λ p. p.items) over.peers in
    let same_peers : new.peers.items ≡ old.peers.items = ap (λ p. p.items) (it.keeps.peers ∙ over.peers) in
    let same_hearing : new.hearing ≡ old.hearing = it.keeps.hearing ∙ over.hearing in
    rw (same_peers, same_hearing)
    (heard_more old.peers.items old.hearing (told.came old.socket) (told.came h.mid.socket) (told.came new.socket) h.datagrams it.from n buffer over.each over.came h.ends.1
    (rw (mid_peers, over.hearing) at it.heard) it.came)
returned told finds buffer old new (Ok None) h = elim h.ends [
  | inl e ↦ heard_over told h.datagrams old h.mid new h.over
      (record {
        passed = ap (λ l. l.passed) e.1;
        peers = ap (λ l. l.peers) e.1;
        hearing = ap (λ l. l.hearing) e.1;
      })
      (ap (λ l. told.came l.socket) e.1)
  | inr e ↦ heard_over told h.datagrams old h.mid new h.over e.1.keeps e.1.came
]
returned told finds buffer old new (Err fault) h = tt

pub kept : {S : Type 0} (told : Telling S) (finds : S → S → Type 0) (buffer : List ℕ) (old new : UdpLine S) (result : Result (Option ℕ) LineFault)
    → Receives told finds buffer old new result
    → OnErr result (Same (heard_of old.peers.items old.hearing (told.came old.socket)) (heard_of new.peers.items new.hearing (told.came new.socket)))
kept told finds buffer old new (Ok r) h = tt
kept told finds buffer old new (Err fault) h = heard_over told h.datagrams old h.mid new h.over h.ends.1.keeps h.ends.1.came
