use Rattle.jump_form.proofs.JumpsInMemory.{one_spelling}
use Rattle.jump_form.proofs.laws.one_spelling.Goals as goal

pub returns : goal.returns
returns c = one_spelling
