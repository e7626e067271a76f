use Rattle.std.proofs.Common.{◌∙◌, ap, sym, Some, option_map}
use Rattle.pun_base.specs.Memory.{Cell}
use Rattle.elf_read.proofs.HoldingSegments.{image_at}
use Rattle.elf_read.proofs.elf.Elf.perms.Goals as goal

pub returns-in-Some : goal.returns-in-Some
returns-in-Some c =
    ap Some c.perms.ensures
    ∙ sym (ap (option_map (λ (x : Cell). x.perms)) (image_at c.args.self.now.bytes c.args.addr _ _ c.segment_at.ensures.value c.in-Some.is))

pub returns-in-None : goal.returns-in-None
returns-in-None c =
    sym (ap (option_map (λ (x : Cell). x.perms)) (image_at c.args.self.now.bytes c.args.addr _ _ c.segment_at.ensures.value c.in-None.is))
