use Rattle.scheme_pun.proofs.find.find_b2.Goals as goal

pub returns : goal.returns
returns c = rw (← c.new.ensures.turn, ← c.new.ensures.site) c.plan_b2.ensures
