-- A line that is taken, and what is noted behind it.
use Rattle.std.proofs.Common.{◌≡◌, sym, ◌∙◌, subst}
use Rattle.std.specs.Bool.{MatchBool}
use Rattle.std.specs.Prelude.{Option, Result}
use Rattle.exercise_recording.specs.Writer.{WriterState}
use Rattle.siman_stations.specs.declared.moment.Moment.{Moment}
use Rattle.siman_lines.specs.AtLines.{Telling}
use Rattle.siman_lines.specs.declared.station_at_line.StationAtLine.{StationAtLine}
use Rattle.siman_scripts.specs.declared.command.Command.{Command}
use Rattle.siman_operator.specs.declared.obeying.LineResult.{LineResult}
use Rattle.siman_operator.specs.declared.obeying.Rejection.{Rejection}
use Rattle.siman_operator.specs.declared.tracing_line.TracingLine.{TracingLine}
use Rattle.siman_operator.specs.Deeds.{PostData, IsAtSameTime}
use Rattle.siman_operator.specs.Obeying.{Obeys}
use Rattle.siman_operator.specs.Posts.{TakesLine, is_unrecorded, no_trouble}
use Rattle.siman_operator.specs.Turns.{TakesTurns}

pub taken_on : {L : Type 0} (told : Telling (TracingLine L)) (said : Option Command) (old mid new : PostData L) (came : LineResult)
    → TakesLine told said old mid came → new.station ≡ mid.station → new.recorder ≡ mid.recorder → new.address ≡ mid.address → new.clock ≡ mid.clock → new.source ≡ mid.source
    → TakesLine told said old new came
taken_on {L} told said old mid new came t station recorder address clock source = record {
  mid = t.mid;
  recorder = t.recorder;
  obeys = subst (λ (k : Moment). Obeys told old.source old.address said old.clock k old.station old.recorder t.mid t.recorder came.done) (sym clock) t.obeys;
  address = address ∙ t.address;
  source = source ∙ t.source;
  serves =
      subst (λ (s : StationAtLine (TracingLine L)). MatchBool (is_unrecorded came.done) ((came.trouble ≡ no_trouble) × (s ≡ t.mid) × (new.recorder ≡ t.recorder)) (TakesTurns told new.clock t.mid t.recorder s new.recorder came.trouble)) (sym station)
      (subst (λ (w : WriterState). MatchBool (is_unrecorded came.done) ((came.trouble ≡ no_trouble) × (mid.station ≡ t.mid) × (w ≡ t.recorder)) (TakesTurns told new.clock t.mid t.recorder mid.station w came.trouble)) (sym recorder)
      (subst (λ (k : Moment). MatchBool (is_unrecorded came.done) ((came.trouble ≡ no_trouble) × (mid.station ≡ t.mid) × (mid.recorder ≡ t.recorder)) (TakesTurns told k t.mid t.recorder mid.station mid.recorder came.trouble)) (sym clock) t.serves));
}

-- the effect of what was done, and of the service behind it
pub behind_it : {L : Type 0} (told : Telling (TracingLine L)) (said : Option Command) (old mid new : PostData L) (done : Result (Unit {0}) Rejection) (came : LineResult)
    → came.done ≡ done → Obeys told old.source old.address said old.clock mid.clock old.station old.recorder mid.station mid.recorder done
    → mid.address ≡ old.address → mid.source ≡ old.source → IsAtSameTime mid new
    → MatchBool (is_unrecorded done) ((came.trouble ≡ no_trouble) × (new.station ≡ mid.station) × (new.recorder ≡ mid.recorder))
    (TakesTurns told mid.clock mid.station mid.recorder new.station new.recorder came.trouble)
    → TakesLine told said old new came
behind_it {L} told said old mid new done came same obeys address source time serves = record {
  mid = mid.station;
  recorder = mid.recorder;
  obeys =
      subst (λ (k : Moment). Obeys told old.source old.address said old.clock k old.station old.recorder mid.station mid.recorder came.done) (sym time.1)
      (subst (λ (d : Result (Unit {0}) Rejection). Obeys told old.source old.address said old.clock mid.clock old.station old.recorder mid.station mid.recorder d) (sym same) obeys);
  address = time.0 ∙ address;
  source = time.2 ∙ source;
  serves =
      subst (λ (k : Moment). MatchBool (is_unrecorded came.done) ((came.trouble ≡ no_trouble) × (new.station ≡ mid.station) × (new.recorder ≡ mid.recorder)) (TakesTurns told k mid.station mid.recorder new.station new.recorder came.trouble)) (sym time.1)
      (subst (λ (d : Result (Unit {0}) Rejection). MatchBool (is_unrecorded d) ((came.trouble ≡ no_trouble) × (new.station ≡ mid.station) × (new.recorder ≡ mid.recorder)) (TakesTurns told mid.clock mid.station mid.recorder new.station new.recorder came.trouble)) (sym same) serves);
}
