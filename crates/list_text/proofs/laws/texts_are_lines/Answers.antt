use Rattle.list_text.proofs.LineEnds.{texts_are_lines}
use Rattle.list_text.proofs.laws.texts_are_lines.Goals as goal

pub returns : goal.returns
returns c = texts_are_lines
