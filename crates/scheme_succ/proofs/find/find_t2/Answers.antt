use Rattle.scheme_succ.proofs.find.find_t2.Goals as goal

pub returns : goal.returns
returns c = rw (← c.new.ensures.turn, ← c.new.ensures.site) c.plan_t2.ensures
