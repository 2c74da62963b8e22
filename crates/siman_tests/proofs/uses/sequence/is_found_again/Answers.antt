use Rattle.siman_tests.proofs.Searches.{found_again}
use Rattle.siman_tests.proofs.uses.sequence.is_found_again.Goals as goal

pub returns : goal.returns
returns c =
    found_again c.args.recording.now c.args.found.now.steps.items c.audit.result c.entry_count-entries.ensures.limits c.requires.good c.requires.timely
    (c.time_determines_sequences.ensures.one c.args.recording.now) c.audit.ensures
