-- The status alone is answered.
use Rattle.siman_file_commands.proofs.pdus.pdus_command.Goals as goal

pub returns : goal.returns
returns g c =
    let ends = c.end_lines.ensures.ends in
    (ends.0, ends.1, (c.end_lines.result.ended.written, ends.2))
