-- What the log of a station sends consists of bytes.
use Rattle.std.proofs.Common.{◌≡◌, ℕ, ◌<◌, ◌^◌, List, [], ◌∷◌, ◌++◌, refl, sym, subst}
use Rattle.std.specs.Prelude.{Bool, true, false, ◌||◌, slice_index, Option, Some, None, bytes_eq}
use Rattle.std.specs.List.{list_any}
use Rattle.std.proofs.lemmas.Slice.Eq.{bytes_eq-Decides}
use Rattle.siman_pdus.specs.declared.pdu.Pdu.{Pdu}
use Rattle.siman_pdus.specs.Ranges.{IsInRange}
use Rattle.siman_pdus.proofs.Offered.{text_is_bytes, read_in_range}
use Rattle.exercise_model.specs.Cause.{sends, was_sent}
use Rattle.exercise_model.specs.History.{Send, Get, Tell, History}
use Rattle.siman_application.specs.AppProfile.{AppProfile}
use Rattle.siman_application.specs.OwnLog.{OwnTurn, Tells, Orders, Passes, Takes, Loses, taken_in, sent_after, log_in, is_due, AreTurns}
use Rattle.siman_application.specs.Play.{reply}
use Rattle.siman_application.specs.Ranges.{IsProfileInRange}
use Rattle.siman_application.proofs.Offered.{Each, taken_in_range}
use Rattle.siman_manager.specs.Book.{Book}
use Rattle.siman_stations.specs.Halves.{HalvesFollow}
use Rattle.siman_stations.proofs.Requests.{reply_own}

-- each datagram that is sent consists of bytes
abbrev pub SendsBytes : History → Type 0
SendsBytes [] = Unit {0}
SendsBytes (Send s b ∷ h) = ((i : ℕ) → slice_index b i < 256) × SendsBytes h
SendsBytes (Get s b ∷ h) = SendsBytes h
SendsBytes (Tell s e y ∷ h) = SendsBytes h

reply_bytes : (a : AppProfile) (s : ℕ) (qs : List Pdu) (b : List ℕ) (q : Pdu) (stamp : ℕ) (log : History) → IsProfileInRange a → Each IsInRange qs → IsInRange q
    → stamp < 2 ^ 32 → SendsBytes log → (o : Option Pdu) → reply a qs q stamp ≡ o → SendsBytes (sent_after s o (Get s b ∷ log))
reply_bytes a s qs b q stamp log own came range h all None e = all
reply_bytes a s qs b q stamp log own came range h all (Some p) e =
    let is = reply_own a qs q p stamp own came range h e in (text_is_bytes p is.ranges is.size, all)

turns_bytes : (a : AppProfile) (s : ℕ) (later : Bool) (ts : List OwnTurn) → IsProfileInRange a → AreTurns a later ts → SendsBytes (log_in a s ts)
turns_bytes a s later [] own are = tt
turns_bytes a s later (Tells e y ∷ ts) own are = turns_bytes a s later ts own are
turns_bytes a s later (Orders b p ∷ ts) own are = (are.0.read.bytes, turns_bytes a s later ts own are.1)
turns_bytes a s later (Passes b ∷ ts) own are = turns_bytes a s later ts own are
turns_bytes a s later (Takes b q stamp ∷ ts) own are =
    reply_bytes a s (taken_in ts) b q stamp (log_in a s ts) own (taken_in_range a (later || is_due a ts q stamp) ts are.2)
    (read_in_range b q are.0.bytes are.0.read) are.1 (turns_bytes a s (later || is_due a ts q stamp) ts own are.2) (reply a (taken_in ts) q stamp) refl
turns_bytes a s later (Loses b q stamp ∷ ts) own are = turns_bytes a s true ts own are.4

-- WHAT A STATION SENDS consists of bytes
pub sends_bytes : {wants : Type 0} (s : ℕ) (a : AppProfile) (ds : List Pdu) (k : Book) (log : History) (closed : Type 0) → HalvesFollow wants s a ds k log closed
    → SendsBytes log
sends_bytes s a ds k log closed is = subst SendsBytes is.own_log.log_is (turns_bytes a s false is.turns is.own_log.outfit is.own_log.turns)

-- so do the first events of a history,
pub bytes_first : (h log : History) → SendsBytes (h ++ log) → SendsBytes h
bytes_first [] log all = tt
bytes_first (Send s b ∷ h) log all = (all.0, bytes_first h log all.1)
bytes_first (Get s b ∷ h) log all = bytes_first h log all
bytes_first (Tell s e y ∷ h) log all = bytes_first h log all

-- two parts of it,
pub bytes_both : (h log : History) → SendsBytes h → SendsBytes log → SendsBytes (h ++ log)
bytes_both [] log first rest = rest
bytes_both (Send s b ∷ h) log first rest = (first.0, bytes_both h log first.1 rest)
bytes_both (Get s b ∷ h) log first rest = bytes_both h log first rest
bytes_both (Tell s e y ∷ h) log first rest = bytes_both h log first rest

-- and each datagram that was sent in it.
sent_bytes : (b : List ℕ) (h : History) → SendsBytes h → list_any (sends b) h ≡ true → (i : ℕ) → slice_index b i < 256
sent_bytes b [] all e = absurd cc
sent_bytes b (Send s c ∷ h) all e = by (bytes_eq b c) refl e (λ f. sent_bytes b h all.1 f) where
  by : (same : Bool) → bytes_eq b c ≡ same → (same || list_any (sends b) h) ≡ true → (list_any (sends b) h ≡ true → (i : ℕ) → slice_index b i < 256)
      → (i : ℕ) → slice_index b i < 256
  by true is f rest = subst (λ (d : List ℕ). (i : ℕ) → slice_index d i < 256) (sym ((bytes_eq-Decides b c).0 is)) all.0
  by false is f rest = rest f
sent_bytes b (Get s c ∷ h) all e = sent_bytes b h all e
sent_bytes b (Tell s n y ∷ h) all e = sent_bytes b h all e

pub was_bytes : (b : List ℕ) (h : History) → SendsBytes h → was_sent b h ≡ true → (i : ℕ) → slice_index b i < 256
unfolding was_sent
was_bytes b h all e = sent_bytes b h all e
