use Rattle.command_io.proofs.ModedReadings.{after_line}
use Rattle.command_io.proofs.report_mode.after_mode_line.Goals as goal

pub returns : goal.returns
returns c = after_line c.args.text.now c.strip_prefix.result c.strip_prefix.ensures.cases
