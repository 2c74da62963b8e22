use Rattle.siman_lines.proofs.Stations.{started, fresh, all_calls}
use Rattle.siman_lines.proofs.laws.calls_are_kept.Goals as goal

pub returns-clause-started : goal.returns-clause-started
returns-clause-started c = started

pub returns-clause-fresh : goal.returns-clause-fresh
returns-clause-fresh c = fresh

pub returns-clause-calls : goal.returns-clause-calls
returns-clause-calls c = λ before stations calls old new es has is are. (let r = all_calls before stations calls old new es has is are in (r.0, r.2))
