use Rattle.std.proofs.Common.{◌≡◌, None, drop}
use Rattle.elf_read.specs.Refusals.{first_unordered}
use Rattle.elf_read.proofs.rules.first_unordered.Given as goal

abbrev pub invariant-loop-segment : goal.invariant-loop-segment
invariant-loop-segment l =
    (l.entry ≡ l.segment-index) × (first_unordered l.entry l.before (drop l.segment-index l.segments) ≡ first_unordered 0 None l.segments)
