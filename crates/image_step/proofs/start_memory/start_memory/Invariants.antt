use Rattle.std.proofs.Common.{drop}
use Rattle.image_runs.proofs.MemorySoFar.{AddedSoFar}
use Rattle.image_step.proofs.start_memory.start_memory.Given as goal

abbrev pub invariant-loop-region : goal.invariant-loop-region
invariant-loop-region l = AddedSoFar l.elf.bytes l.memory (drop l.region-index l.regions) l.regions
