use Rattle.elf_emit.specs.Views.{piece_of}
use Rattle.elf_emit.proofs.IndexLookups.{past_written}
use Rattle.elf_emit.proofs.overlay.overlay_piece.Goals as goal

pub returns-else-place-built : goal.returns-else-place-built
returns-else-place-built c = past_written piece_of c.args.built.now c.args.place c.args.lo c.args.bytes.now c.if-place-built.false
