use Rattle.scheme_search.proofs.UnservedValues.{whole}
use Rattle.scheme_search.proofs.shared.has_room.Goals as goal

pub returns-in-None : goal.returns-in-None
returns-in-None c = λ e y t low high f. c.in-None.ensures t (whole c.args.space.now.taken c.args.way c.args.from c.args.to y t low high f)
