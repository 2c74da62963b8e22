-- Turns that were taken so far.
use Rattle.std.proofs.Common.{◌≡◌, ℕ, ◌+◌, ◌<◌, List, [], ◌∷◌, length, refl, ap, sym, ◌∙◌, inl, inr, arith}
use Rattle.std.specs.Prelude.{true, false, ◌||◌}
use Rattle.exercise_recording.specs.Writer.{WriterState}
use Rattle.siman_lines.specs.declared.station_at_line.StationAtLine.{StationAtLine}
use Rattle.siman_stations.specs.declared.moment.Moment.{Moment}
use Rattle.siman_lines.specs.AtLines.{Telling}
use Rattle.siman_operator.specs.declared.turns.TheConstants.{MOST_TURNS}
use Rattle.siman_operator.specs.declared.turns.Trouble.{Trouble}
use Rattle.siman_operator.specs.Deeds.{ServesOnce}
use Rattle.siman_operator.specs.Turns.{Turn, is_followed, is_lost, is_out_of_memory, is_unrecorded, trouble_in, AreFollowed, Take, AreAllTurns, TakesTurns}

pub record SoFar {L : Type 0} (told : Telling L) (at : Moment) (counter : ℕ) (p : StationAtLine L) (w : WriterState) (q : StationAtLine L) (v : WriterState)
    (trouble : Trouble) : Type 0 where
  pub turns : List Turn
  pub count : length turns ≡ counter
  pub followed : AreFollowed turns
  pub made : Take told at turns (record { station = p; recorder = w }) (record { station = q; recorder = v })
  pub failed : trouble ≡ trouble_in turns

pub none_taken : {L : Type 0} (told : Telling L) (at : Moment) (p : StationAtLine L) (w : WriterState) (trouble : Trouble)
    → trouble ≡ record { line = false; memory = false; recorder = false } → SoFar told at 0 p w p w trouble
none_taken told at p w trouble none = record { turns = []; count = refl; followed = tt; made = refl; failed = none }

abbrev pub trouble_after : Trouble → Turn → Trouble
trouble_after a t =
    record { line = is_lost t || a.line; memory = is_out_of_memory t || a.memory; recorder = is_unrecorded t || a.recorder }

failed_on : (a b : Trouble) (ts : List Turn) (t : Turn) → a ≡ trouble_in ts → b ≡ trouble_after a t → b ≡ trouble_in (t ∷ ts)
failed_on a b ts t failed after = after ∙ ap (λ (c : Trouble). trouble_after c t) failed

pub one_taken : {L : Type 0} (told : Telling L) (at : Moment) (counter : ℕ) (p q r : StationAtLine L) (w v u : WriterState) (a b : Trouble) (t : Turn)
    → SoFar told at counter p w q v a → ServesOnce told at q v r u t → b ≡ trouble_after a t → true ≡ is_followed t
    → SoFar told at (counter + 1) p w r u b
one_taken told at counter p q r w v u a b t is served after goes = record {
  turns = t ∷ is.turns;
  count = omega (arith, is.count);
  followed = (sym goes, is.followed);
  made = (record { station = q; recorder = v }, is.made, served);
  failed = failed_on a b is.turns t is.failed after;
}

pub last_taken : {L : Type 0} (told : Telling L) (at : Moment) (counter : ℕ) (p q r : StationAtLine L) (w v u : WriterState) (a b : Trouble) (t : Turn)
    → SoFar told at counter p w q v a → ServesOnce told at q v r u t → b ≡ trouble_after a t → false ≡ is_followed t → counter < MOST_TURNS
    → TakesTurns told at p w r u b
last_taken told at counter p q r w v u a b t is served after ends within = record {
  turns = t ∷ is.turns;
  most = omega (arith, is.count);
  made = (record { station = q; recorder = v }, is.made, served);
  all = (is.followed, inl (sym ends));
  failed = failed_on a b is.turns t is.failed after;
}

as_many : (ts : List Turn) → length ts ≡ MOST_TURNS → AreFollowed ts → AreAllTurns ts
as_many [] count followed = absurd (omega (arith, count))
as_many (t ∷ ts) count followed = (followed.1, inr count)

pub all_taken : {L : Type 0} (told : Telling L) (at : Moment) (counter : ℕ) (p q : StationAtLine L) (w v : WriterState) (a : Trouble)
    → SoFar told at counter p w q v a → counter ≡ MOST_TURNS → TakesTurns told at p w q v a
all_taken told at counter p q w v a is most = record {
  turns = is.turns;
  most = omega (arith, is.count);
  made = is.made;
  all = as_many is.turns (is.count ∙ most) is.followed;
  failed = is.failed;
}
