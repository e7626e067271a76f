use Rattle.std.proofs.Common.{sym, ◌∙◌}
use Rattle.elf_read.proofs.HoldingSegments.{held_at, inside_at}
use Rattle.image_check.proofs.ByteStretches.{rest_low}
use Rattle.image_check.proofs.FileParts.{rest_stands}
use Rattle.image_check.proofs.standing.rest_at.Goals as goal

pub rest_of-requires-clause-inside : goal.rest_of-requires-clause-inside
rest_of-requires-clause-inside c =
    inside_at c.args.elf.now.bytes _ c.args.addr _ c.in-Some.segment c.segment_at.ensures.accepted c.file.ensures.value c.segment_at.ensures.value c.in-Some.is

pub rest_of-requires-clause-above : goal.rest_of-requires-clause-above
rest_of-requires-clause-above c =
    (held_at c.args.elf.now.bytes c.args.addr _ c.in-Some.segment c.segment_at.ensures.accepted c.segment_at.ensures.value c.in-Some.is).above

pub returns-in-Some-clause-low : goal.returns-in-Some-clause-low
returns-in-Some-clause-low c =
    rest_low c.args.elf.now.bytes c.args.addr c.in-Some.segment _ _ c.segment_at.ensures.accepted (sym c.segment_at.ensures.value ∙ c.in-Some.is) c.rest_of.ensures

pub returns-in-Some-clause-stands : goal.returns-in-Some-clause-stands
returns-in-Some-clause-stands c =
    rest_stands c.args.elf.now.bytes _ c.args.addr _ c.in-Some.segment _ _ c.segment_at.ensures.accepted c.file.ensures.value c.segment_at.ensures.value
    c.in-Some.is c.perms.ensures c.rest_of.ensures
