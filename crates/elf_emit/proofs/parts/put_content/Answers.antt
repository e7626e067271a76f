use Rattle.std.proofs.Common.{refl}
use Rattle.elf_emit.specs.Views.{patches_of}
use Rattle.elf_emit.proofs.PageContents.{part_put, content_missed}
use Rattle.elf_emit.proofs.parts.put_content.Goals as goal

pub returns-in-None : goal.returns-in-None
returns-in-None c = content_missed (patches_of c.args.writes.now) c.args.file.now c.args.page.now c.args.segment.now c.args.lo c.args.at c.requires.held (c.in-None.ensures.none refl)

pub returns-in-Some : goal.returns-in-Some
returns-in-Some c =
    part_put (patches_of c.args.writes.now) c.args.file.now c.args.page.now c.copy_from_slice.new.self c.overlay_writes.new.bytes _ c.args.segment.now c.args.lo c.args.at
    c.in-Some.common.start c.in-Some.common.skip c.in-Some.common.len c.requires.held c.in-Some.ensures.some c.copy_from_slice.ensures.after c.overlay_writes.ensures refl
