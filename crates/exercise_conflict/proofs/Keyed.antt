-- No line that tells what contradicts what has a key twice.
use Rattle.std.proofs.Common.{◌≡◌, ℕ, true, List, [], ◌∷◌, codes, Option, Some, None, refl}
use Rattle.dis_records.specs.declared.entity_state.EntityState.{EntityState}
use Rattle.exercise_model.specs.declared.cause.Cause.{Cause}
use Rattle.exercise_model.specs.Recording.{PlainRecording}
use Rattle.exercise_conflict.specs.declared.clash.Clash.{Clash}
use Rattle.exercise_conflict.specs.declared.clash.Clash.TheVariants as clashes
use Rattle.exercise_conflict.specs.declared.blame.Blame.{Blame}
use Rattle.exercise_conflict.specs.declared.field.PduField.{PduField}
use Rattle.exercise_conflict.specs.declared.lacks.MissingSend.{MissingSend}
use Rattle.exercise_conflict.specs.declared.repair.Repair.{Repair}
use Rattle.exercise_conflict.specs.declared.step_clash.StepClash.{StepClash}
use Rattle.exercise_conflict.specs.declared.step_clash.StepClash.TheVariants as steps
use Rattle.exercise_conflict.specs.declared.waits.Wait.{Wait}
use Rattle.exercise_audit.specs.declared.blocks.Block.{Block}
use Rattle.exercise_check.specs.Report.{yes_line, no_line}
use Rattle.exercise_conflict.specs.Blocked.{explained_line, blocked_line, block_line}
use Rattle.siman_print.specs.Keys.{keys_under, has_no_key_twice}
use Rattle.exercise_conflict.specs.Lines.{entry_value, state_value, difference_value, rule_line, clash_line, step_clash_line, event_line, repair_line, wait_line, final_line, also_line, missing_line, fault_line, cycle_line}

-- a value that may not be there has one key
entry_key : (key : List ℕ) (o : Option ℕ) → keys_under key (entry_value o) ≡ key ∷ []
entry_key key None = refl
entry_key key (Some n) = refl

state_key : (key : List ℕ) (o : Option EntityState) → keys_under key (state_value o) ≡ key ∷ []
state_key key None = refl
state_key key (Some y) = refl

difference_key : (key : List ℕ) (o : Option PduField) → keys_under key (difference_value o) ≡ key ∷ []
difference_key key None = refl
difference_key key (Some field) = refl

pub clash_apart : (r : PlainRecording) (entry : ℕ) (clash : Clash) → has_no_key_twice (clash_line r entry clash) ≡ true
clash_apart r entry (clashes.WrongSender from s) = refl
clash_apart r entry (clashes.ReusedIdentifier earlier differs) = refl
clash_apart r entry (clashes.NoRequest later overheard sent) =
    rw (entry_key (codes "later") later, entry_key (codes "overheard") overheard, entry_key (codes "sent") sent) refl
clash_apart r entry (clashes.WrongAnswer earlier differs) = refl
clash_apart r entry (clashes.ChangedAnswer earlier) = refl
clash_apart r entry (clashes.Impossible earlier s n state change) = rw (state_key (codes "state") state, entry_key (codes "change") change) refl
clash_apart r entry (clashes.Stranger from) = refl
clash_apart r entry (clashes.NeverSent from sent near differs) =
    rw (entry_key (codes "sent") sent, entry_key (codes "near") near, difference_key (codes "differs") differs) refl
clash_apart r entry (clashes.WrongState s n state change) = rw (entry_key (codes "change") change) refl

pub rule_apart : (cause : Cause) → has_no_key_twice (rule_line cause) ≡ true
rule_apart cause = refl

pub wait_apart : (r : PlainRecording) (wait : Wait) → has_no_key_twice (wait_line r wait) ≡ true
wait_apart r wait = refl

pub final_apart : (entry : ℕ) → has_no_key_twice (final_line entry) ≡ true
final_apart entry = refl

pub also_apart : (r : PlainRecording) (entry s : ℕ) (cause : Cause) → has_no_key_twice (also_line r entry s cause) ≡ true
also_apart r entry s cause = refl

pub missing_apart : (r : PlainRecording) (lack : MissingSend) → has_no_key_twice (missing_line r lack) ≡ true
missing_apart r lack = rw (entry_key (codes "after") lack.missing.after) refl

pub fault_apart : (fault : Blame) → has_no_key_twice (fault_line fault) ≡ true
fault_apart fault = refl

pub cycle_apart : (r : PlainRecording) (stations : List ℕ) → has_no_key_twice (cycle_line r stations) ≡ true
cycle_apart r stations = refl

pub repair_apart : (repair : Repair) → has_no_key_twice (repair_line repair) ≡ true
repair_apart repair = refl

pub explained_apart : (steps : ℕ) → has_no_key_twice (explained_line steps) ≡ true
explained_apart steps = refl

pub yes_apart : (records others : ℕ) → has_no_key_twice (yes_line records others) ≡ true
yes_apart records others = refl

pub no_apart : (step : ℕ) (cause : Cause) → has_no_key_twice (no_line step cause) ≡ true
no_apart step cause = refl

pub blocked_apart : (count : ℕ) → has_no_key_twice (blocked_line count) ≡ true
blocked_apart count = refl

pub block_apart : (r : PlainRecording) (block : Block) → has_no_key_twice (block_line r block) ≡ true
block_apart r block = refl

event_apart : (r : PlainRecording) (entry : ℕ) (clash : Clash) (step : Option ℕ) → has_no_key_twice (event_line r entry clash step) ≡ true
event_apart r entry (clashes.WrongSender from s) step = refl
event_apart r entry (clashes.ReusedIdentifier earlier differs) step = refl
event_apart r entry (clashes.NoRequest later overheard sent) step =
    rw (entry_key (codes "later") later, entry_key (codes "overheard") overheard, entry_key (codes "sent") sent) refl
event_apart r entry (clashes.WrongAnswer earlier differs) step = refl
event_apart r entry (clashes.ChangedAnswer earlier) step = refl
event_apart r entry (clashes.Impossible earlier s n state change) step =
    rw (state_key (codes "state") state, entry_key (codes "change") change) refl
event_apart r entry (clashes.Stranger from) step = refl
event_apart r entry (clashes.NeverSent from sent near differs) step =
    rw (entry_key (codes "sent") sent, entry_key (codes "near") near, difference_key (codes "differs") differs, entry_key (codes "step") step) refl
event_apart r entry (clashes.WrongState s n state change) step = rw (entry_key (codes "change") change) refl

pub step_apart : (r : PlainRecording) (clash : StepClash) → has_no_key_twice (step_clash_line r clash) ≡ true
step_apart r (steps.CountDiffers count records missing twice) = rw (entry_key (codes "missing") missing, entry_key (codes "twice") twice) refl
step_apart r (steps.NoSuchRecord place records) = refl
step_apart r (steps.OutOfOrder place taken next) = rw (entry_key (codes "taken") taken, entry_key (codes "next") next) refl
step_apart r (steps.BadLink place link right) = rw (entry_key (codes "link") link, entry_key (codes "right") right) refl
step_apart r (steps.Event entry clash step) = event_apart r entry clash step
