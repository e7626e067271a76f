use Rattle.std.proofs.Common.{◌≡◌, drop}
use Rattle.insn_form.specs.Machine.{avoids_writes}
use Rattle.image_runs.specs.Listed.{is_listed_byte}
use Rattle.image_step.proofs.quieting.avoid_writes.Given as goal

abbrev pub invariant-loop-write : goal.invariant-loop-write
invariant-loop-write l =
    avoids_writes (is_listed_byte l.starts) (drop l.write-index l.writes) ≡ avoids_writes (is_listed_byte l.starts) l.writes
