use Rattle.std.proofs.Common.{length, ◌-◌, ◌<◌, ◌≤◌}
use Rattle.elf_emit.proofs.RunsByPage.{Counted}
use Rattle.elf_emit.proofs.runs.run_len.Given as goal

abbrev pub invariant-loop-count : goal.invariant-loop-count
invariant-loop-count l = (0 < l.count) × (l.count ≤ length l.pages) × Counted l.pages l.count

abbrev pub decreases-loop-count : goal.decreases-loop-count
decreases-loop-count l = length l.pages - l.count
