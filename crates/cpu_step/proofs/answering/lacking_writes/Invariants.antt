use Rattle.std.proofs.Common.{◌≡◌, drop}
use Rattle.cpu_state.specs.Regions.{cell_at}
use Rattle.insn_form.specs.Plan.{lacking_writes}
use Rattle.cpu_step.proofs.answering.lacking_writes.Given as goal

abbrev pub invariant-loop-write : goal.invariant-loop-write
invariant-loop-write l = lacking_writes (cell_at l.memory) (drop l.write-index l.writes) ≡ lacking_writes (cell_at l.memory) l.writes
