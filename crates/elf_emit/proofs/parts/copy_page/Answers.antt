use Rattle.elf_emit.proofs.PageContents.{copied}
use Rattle.elf_emit.proofs.parts.copy_page.Goals as goal

pub returns : goal.returns
returns c = copied 4096 _ c.window-part.result.now c.fill.new.self c.copy_from_slice.new.self _ c.copy_from_slice.ensures.after c.window-part.ensures.part (c.fill.ensures.after (λ y h. h)) c.requires
