use Rattle.scheme_pad.proofs.find.find_t1.Goals as goal

pub returns : goal.returns
returns c = rw (← c.new.ensures.turn, ← c.new.ensures.site) c.plan_t1.ensures
