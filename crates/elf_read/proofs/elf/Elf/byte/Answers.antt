use Rattle.std.proofs.Common.{sym, ap, option_map}
use Rattle.pun_base.specs.Memory.{Cell}
use Rattle.elf_read.proofs.HoldingSegments.{held_at, inside_at, image_at, byte_at}
use Rattle.elf_read.proofs.elf.Elf.byte.Goals as goal

pub loaded_byte-requires-clause-inside : goal.loaded_byte-requires-clause-inside
loaded_byte-requires-clause-inside c =
    inside_at c.args.self.now.bytes _ c.args.addr _ c.in-Some.segment c.segment_at.ensures.accepted c.file.ensures.value c.segment_at.ensures.value c.in-Some.is

pub loaded_byte-requires-clause-above : goal.loaded_byte-requires-clause-above
loaded_byte-requires-clause-above c =
    (held_at c.args.self.now.bytes c.args.addr _ c.in-Some.segment c.segment_at.ensures.accepted c.segment_at.ensures.value c.in-Some.is).above

pub returns-in-Some : goal.returns-in-Some
returns-in-Some c =
    byte_at c.args.self.now.bytes _ c.args.addr _ _ c.in-Some.segment c.file.ensures.value c.segment_at.ensures.value c.in-Some.is c.loaded_byte.ensures

pub returns-in-None : goal.returns-in-None
returns-in-None c =
    sym (ap (option_map (λ (x : Cell). x.byte)) (image_at c.args.self.now.bytes c.args.addr _ _ c.segment_at.ensures.value c.in-None.is))
