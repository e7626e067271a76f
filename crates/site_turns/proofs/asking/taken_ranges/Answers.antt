use Rattle.std.proofs.Common.{length}
use Rattle.elf_read.specs.Entries.{segments, loads}
use Rattle.elf_read.proofs.AcceptedFiles.{is_accepted}
use Rattle.site_turns.proofs.TakenRanges.{nothing_taken}
use Rattle.site_turns.proofs.asking.taken_ranges.Goals as goal

pub loop-segment-init : goal.loop-segment-init
loop-segment-init c =
    nothing_taken (length c.args.elf.now.bytes) (loads (segments c.args.elf.now.bytes)) c.new-taken.result.items
    c.loads-segment-items.result.now c.new-taken.ensures.items c.loads-segment-items.ensures.value
    (is_accepted 0x10000 c.args.elf.now.bytes c.loads-segment-items.ensures.accepted).placed
