use Rattle.list_text.proofs.ActionSpellings.{actions_are_spelled}
use Rattle.list_text.proofs.laws.actions_are_spelled.Goals as goal

pub returns : goal.returns
returns c = actions_are_spelled
