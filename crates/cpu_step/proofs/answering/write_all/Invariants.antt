use Rattle.std.proofs.Common.{◌≡◌, drop}
use Rattle.cpu_state.specs.Regions.{cell_at, extents}
use Rattle.insn_form.specs.Machine.{put_all}
use Rattle.cpu_step.proofs.answering.write_all.Given as goal

abbrev pub invariant-loop-write : goal.invariant-loop-write
invariant-loop-write l = record {
  same : put_all (cell_at l.memory) (drop l.write-index l.writes) ≡ put_all (cell_at l.fn.memory) l.writes;
  extents : extents l.memory ≡ extents l.fn.memory;
}
