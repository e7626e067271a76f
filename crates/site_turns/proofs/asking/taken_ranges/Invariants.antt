use Rattle.std.proofs.Common.{length, drop}
use Rattle.elf_read.specs.Entries.{segments, loads}
use Rattle.site_turns.proofs.TakenRanges.{IsTaking}
use Rattle.site_turns.proofs.asking.taken_ranges.Given as goal

abbrev pub invariant-loop-segment : goal.invariant-loop-segment
invariant-loop-segment l =
    IsTaking (length l.elf.bytes) (loads (segments l.elf.bytes)) l.taken.items (drop l.segment-index l.segment-items)
