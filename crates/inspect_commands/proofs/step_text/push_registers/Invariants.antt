use Rattle.std.proofs.Common.{◌≡◌, ◌++◌, drop}
use Rattle.inspect_commands.specs.StepText.{register_lines}
use Rattle.inspect_commands.proofs.step_text.push_registers.Given as goal

abbrev pub invariant-loop-place : goal.invariant-loop-place
invariant-loop-place l =
    l.out.items ++ register_lines l.place (drop l.place l.regs) ≡ l.initial.out.items ++ register_lines 0 l.regs
