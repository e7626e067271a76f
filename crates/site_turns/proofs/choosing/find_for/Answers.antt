use Rattle.site_turns.proofs.choosing.find_for.Goals as goal

pub returns : goal.returns
returns c = rw (← c.new-here.ensures.turn, ← c.new-here.ensures.site) c.find.ensures
