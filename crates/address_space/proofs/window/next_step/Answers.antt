use Rattle.std.proofs.Common.{arith}
use Rattle.address_space.proofs.NextSteps.{next_first, next_here, next_above}
use Rattle.address_space.proofs.window.next_step.Goals as goal

pub returns-then-low-from-clause-value : goal.returns-then-low-from-clause-value
returns-then-low-from-clause-value c = next_first c.args.from c.args.step c.args.width c.args.low c.requires.width (omega arith)

pub returns-then-above-width-clause-value : goal.returns-then-above-width-clause-value
returns-then-above-width-clause-value c = next_here c.args.from c.args.step c.args.width c.args.low (omega arith) (omega (arith, c.remainder-above.ensures))

pub returns-clause-value : goal.returns-clause-value
returns-clause-value c = rw (c.remainder-above.ensures)
    (next_above c.args.from c.args.step c.args.width c.args.low c.requires.width c.requires.step.0 (omega arith) (omega (arith, c.remainder-above.ensures)))
