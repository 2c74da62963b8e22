use Rattle.exercise_conflict.proofs.Keyed.{rule_apart, clash_apart, wait_apart, final_apart, also_apart, missing_apart, fault_apart, cycle_apart, repair_apart, explained_apart, yes_apart, no_apart, blocked_apart, block_apart, step_apart}
use Rattle.exercise_conflict.proofs.told_laws.conflict_keys_come_once.Goals as goal

pub returns-clause-rules : goal.returns-clause-rules
returns-clause-rules c = rule_apart

pub returns-clause-clashes : goal.returns-clause-clashes
returns-clause-clashes c = clash_apart

pub returns-clause-waits : goal.returns-clause-waits
returns-clause-waits c = wait_apart

pub returns-clause-finals : goal.returns-clause-finals
returns-clause-finals c = final_apart

pub returns-clause-also : goal.returns-clause-also
returns-clause-also c = also_apart

pub returns-clause-missing : goal.returns-clause-missing
returns-clause-missing c = missing_apart

pub returns-clause-faults : goal.returns-clause-faults
returns-clause-faults c = fault_apart

pub returns-clause-cycles : goal.returns-clause-cycles
returns-clause-cycles c = cycle_apart

pub returns-clause-steps : goal.returns-clause-steps
returns-clause-steps c = step_apart

pub returns-clause-blocked : goal.returns-clause-blocked
returns-clause-blocked c = blocked_apart

pub returns-clause-blocks : goal.returns-clause-blocks
returns-clause-blocks c = block_apart

pub returns-clause-repairs : goal.returns-clause-repairs
returns-clause-repairs c = repair_apart

pub returns-clause-explained : goal.returns-clause-explained
returns-clause-explained c = explained_apart

pub returns-clause-yes : goal.returns-clause-yes
returns-clause-yes c = yes_apart

pub returns-clause-no : goal.returns-clause-no
returns-clause-no c = no_apart
