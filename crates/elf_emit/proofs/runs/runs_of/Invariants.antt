use Rattle.std.proofs.Common.{length, ◌-◌, ◌≡◌, ◌++◌, drop, ◌≤◌}
use Rattle.elf_emit.specs.Layout.{runs_of}
use Rattle.elf_emit.proofs.runs.runs_of.Given as goal

abbrev pub invariant-loop-at : goal.invariant-loop-at
invariant-loop-at l = (l.at ≤ length l.pages) × (l.runs.items ++ runs_of (drop l.at l.pages) ≡ runs_of l.pages)

abbrev pub decreases-loop-at : goal.decreases-loop-at
decreases-loop-at l = length l.pages - l.at
