use Rattle.elf_emit.specs.Views.{patch_of}
use Rattle.elf_emit.proofs.IndexLookups.{past_written}
use Rattle.elf_emit.proofs.overlay.overlay_write.Goals as goal

pub returns-else-place-writes : goal.returns-else-place-writes
returns-else-place-writes c = past_written patch_of c.args.writes.now c.args.place c.args.lo c.args.bytes.now c.if-place-writes.false
