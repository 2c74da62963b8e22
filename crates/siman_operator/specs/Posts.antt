-- A POST takes lines of text (profile).
use Rattle.std.specs.Bool.{MatchBool}
use Rattle.std.specs.Prelude.{◌≡◌, ℕ, Bool, true, false, ◌||◌, [], Option, None, Result, Ok, Err, if◌then◌else◌}
use Rattle.dis_records.specs.declared.address.SiteApplication.{SiteApplication}
use Rattle.exercise_model.specs.Recording.{PlainRecording}
use Rattle.exercise_recording.specs.Writer.{WriterState}
use Rattle.siman_stations.specs.declared.turn.Node.{Node}
use Rattle.siman_stations.specs.Moments.{moment_of}
use Rattle.siman_lines.specs.declared.station_at_line.StationAtLine.{StationAtLine}
use Rattle.siman_lines.specs.AtLines.{Telling}
use Rattle.siman_scripts.specs.declared.command.Command.{Command}
use Rattle.siman_operator.specs.declared.clock.ClockSource.{ClockSource}
use Rattle.siman_operator.specs.declared.tracing_line.TracingLine.{TracingLine}
use Rattle.siman_operator.specs.declared.obeying.Rejection.{Rejection}
use Rattle.siman_operator.specs.declared.obeying.Rejection.TheVariants as undone
use Rattle.siman_operator.specs.declared.obeying.LineResult.{LineResult}
use Rattle.siman_operator.specs.declared.turns.Trouble.{Trouble}
use Rattle.siman_operator.specs.Deeds.{PostData}
use Rattle.siman_operator.specs.Noting.{datagrams_sent, datagrams_received}
use Rattle.siman_operator.specs.Obeying.{Obeys}
use Rattle.siman_operator.specs.Turns.{TakesTurns}

-- A STATION AT ITS LINK IN ITS INITIAL STATE: station 0 with this node, whose link was passed nothing and returned
-- nothing
pub record IsAtLink {L : Type 0} (node : Node) (station : StationAtLine (TracingLine L)) : Type 0 where
  pub index : station.index ≡ 0
  pub node_is : station.node ≡ node
  pub sent : datagrams_sent station.line ≡ []
  pub received : datagrams_received station.line ≡ []
  pub dropped : station.dropped ≡ 0

-- A POST IN ITS INITIAL STATE: printing has not failed, and its clock shows 0
abbrev pub begun_post : {L : Type 0} → (log : PlainRecording) → SiteApplication → StationAtLine (TracingLine L) → WriterState → ClockSource → PostData L
begun_post log address station w source = record { station = station; recorder = w; log = log; fault = None; address = address; clock = moment_of 0; source = source }

-- Results of lines.

abbrev pub is_unrecorded : Result (Unit {0}) Rejection → Bool
is_unrecorded (Err undone.Record) = true
is_unrecorded other = false

abbrev pub is_unremembered : Result (Unit {0}) Rejection → Bool
is_unremembered (Err undone.Memory) = true
is_unremembered other = false

abbrev pub is_rejected : Result (Unit {0}) Rejection → Bool
is_rejected (Ok x) = false
is_rejected (Err why) = true

-- an entry was not recorded
abbrev pub is_over : LineResult → Bool
is_over came = is_unrecorded came.done || came.trouble.recorder

-- the exit status of a line
abbrev pub worst : LineResult → ℕ
worst came =
    if is_unremembered came.done || came.trouble.memory then 3
    else if is_rejected came.done || (came.trouble.line || came.trouble.recorder) then 2
    else 0

abbrev pub no_trouble : Trouble
no_trouble = record { line = false; memory = false; recorder = false }

-- THE EFFECT OF A LINE at a post: it does what the line asks for, and is then served, unless an entry was not
-- recorded
pub record TakesLine {L : Type 0} (told : Telling (TracingLine L)) (said : Option Command) (old new : PostData L) (came : LineResult) : Type 0 where
  pub mid : StationAtLine (TracingLine L)
  pub recorder : WriterState
  pub obeys : Obeys told old.source old.address said old.clock new.clock old.station old.recorder mid recorder came.done
  pub address : new.address ≡ old.address
  pub source : new.source ≡ old.source
  pub serves : MatchBool (is_unrecorded came.done) ((came.trouble ≡ no_trouble) × (new.station ≡ mid) × (new.recorder ≡ recorder)) (TakesTurns told new.clock mid recorder new.station new.recorder came.trouble)
