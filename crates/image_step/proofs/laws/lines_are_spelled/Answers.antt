use Rattle.image_step.proofs.LineSpellings.{line_spelled}
use Rattle.image_step.proofs.laws.lines_are_spelled.Goals as goal

pub returns : goal.returns
returns c = line_spelled
