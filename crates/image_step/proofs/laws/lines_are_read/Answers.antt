use Rattle.image_step.proofs.ReadBack.{line_read}
use Rattle.image_step.proofs.laws.lines_are_read.Goals as goal

pub returns : goal.returns
returns c = line_read
