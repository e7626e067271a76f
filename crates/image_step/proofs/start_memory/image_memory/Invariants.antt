use Rattle.std.proofs.Common.{drop}
use Rattle.image_runs.proofs.MemorySoFar.{LoadedSoFar}
use Rattle.image_step.proofs.start_memory.image_memory.Given as goal

abbrev pub invariant-loop-segment : goal.invariant-loop-segment
invariant-loop-segment l = LoadedSoFar l.elf.bytes l.memory (drop l.segment-index l.segment-items)
