use Rattle.std.proofs.Common.{subst, sym}
use Rattle.image_step.specs.Answers.{IsTextOf}
use Rattle.image_step.proofs.reading.read_world.Goals as goal

pub returns : goal.returns
returns c = subst (IsTextOf c.args.text.now) (sym c.script_of.ensures) c.in_ok-parts.ensures
