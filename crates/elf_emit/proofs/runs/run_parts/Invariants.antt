use Rattle.std.proofs.Common.{◌≡◌, map, take}
use Rattle.elf_emit.specs.Layout.{part_of}
use Rattle.elf_emit.proofs.runs.run_parts.Given as goal

abbrev pub invariant-loop-run : goal.invariant-loop-run
invariant-loop-run l = l.parts.items ≡ map part_of (take l.run-index l.runs)
