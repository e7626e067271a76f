use Rattle.site_turns.proofs.EachTurn.{each_turn_keeps}
use Rattle.site_turns.proofs.laws.each_turn_keeps.Goals as goal

pub returns : goal.returns
returns c = each_turn_keeps
