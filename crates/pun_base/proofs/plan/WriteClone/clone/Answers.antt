use Rattle.std.proofs.Common.{Ok, sym, ap}
use Rattle.pun_base.proofs.EqualWrites.{same_write}
use Rattle.pun_base.proofs.plan.WriteClone.clone.Goals as goal

pub returns : goal.returns
returns c = ap Ok (same_write c.args.self.now _ _ (sym c.copied.ensures) (sym c.copied-2.ensures) _ _ _)
