use Rattle.siman_tests.proofs.uses.archive.may_be_converted.Goals as goal

pub returns-clause-pairs : goal.returns-clause-pairs
returns-clause-pairs c = (c.conversion_keeps_runs.ensures.read c.args.recording.now).pairs

pub returns-clause-changes : goal.returns-clause-changes
returns-clause-changes c = (c.conversion_keeps_runs.ensures.read c.args.recording.now).changes
