use Rattle.std.proofs.Common.{◌≡◌, take}
use Rattle.insn_form.specs.Plan.{answered}
use Rattle.cpu_step.proofs.answering.answer_regs.Given as goal

abbrev pub invariant-loop-place : goal.invariant-loop-place
invariant-loop-place l = l.regs ≡ answered (take l.place l.given) l.fn.regs
