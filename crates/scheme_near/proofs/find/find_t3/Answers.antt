use Rattle.scheme_near.proofs.find.find_t3.Goals as goal

pub returns : goal.returns
returns c = rw (← c.new.ensures.turn, ← c.new.ensures.site) c.plan_t3.ensures
