-- The faults of a trial.
use Rattle.siman_scripts.specs.declared.script_fault.ScriptFault.{ScriptFault}
use Rattle.siman_scripts.specs.declared.script_fault.ScriptFault.TheVariants as scripts
use Rattle.siman_stations.specs.declared.world_fault.WorldFault.{WorldFault}
use Rattle.siman_stations.specs.declared.world_fault.WorldFault.TheVariants as worlds
use Rattle.siman_outside.specs.declared.input.InputFault.{InputFault}
use Rattle.siman_outside.specs.declared.input.InputFault.TheVariants as inputs
use Rattle.siman_outside.specs.declared.fault.Fault.{Fault}
use Rattle.siman_outside.specs.declared.fault.Fault.TheVariants as faults
use Rattle.std.specs.Prelude.{None}
use Rattle.siman_exercise_commands.specs.Refusals.{move_refusal}
use Rattle.siman_exercise_commands.specs.declared.trial_fault.TrialFault.{TrialFault}
use Rattle.siman_exercise_commands.specs.declared.trial_fault.TrialFault.TheVariants.{Read, Script, World, Write, Memory}

-- the trial's fault for a text that was not read whole, for the fault of a script, and for that of a world
abbrev pub unread : InputFault → TrialFault
unread (inputs.Unread failed) = Read failed
unread inputs.Memory = Memory

abbrev pub script_refused : ScriptFault → TrialFault
script_refused scripts.Memory = Memory
script_refused fault = Script fault

abbrev pub world_refused : WorldFault → TrialFault
world_refused worlds.Memory = Memory
world_refused fault = World fault

-- the fault of a command for that of a trial, whose reasons are not known
abbrev pub of_trial : TrialFault → Fault
of_trial (Read failed) = faults.ScriptRead failed
of_trial (Script (scripts.BadLine line)) = faults.BadLine line None
of_trial (Script (scripts.UnknownStation line)) = faults.UnknownStation line None
of_trial (Script scripts.Memory) = faults.Memory
of_trial (World worlds.Stations) = faults.WorldStations
of_trial (World (worlds.Move number fault)) = faults.Move number (move_refusal fault) None
of_trial (World worlds.Memory) = faults.Memory
of_trial Write = faults.Output
of_trial Memory = faults.Memory
