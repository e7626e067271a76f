use Rattle.elf_emit.specs.Views.{pieces_of}
use Rattle.elf_emit.proofs.PageContents.{group_page_is}
use Rattle.elf_emit.proofs.parts.group_page.Goals as goal

pub returns : goal.returns
returns c = group_page_is (pieces_of c.args.built.now) c.args.pages.now c.args.group _ c.fill.new.self c.show_pages.new.bytes c.show_pages.ensures (c.fill.ensures.after (λ y h. h)) c.requires.page
