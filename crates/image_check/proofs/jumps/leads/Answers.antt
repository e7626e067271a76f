use Rattle.elf_read.specs.Image.{image_of}
use Rattle.image_check.proofs.FixedJumps.{leads_nowhere, leads_on}
use Rattle.image_check.proofs.jumps.leads.Goals as goal

pub returns-in-None : goal.returns-in-None
returns-in-None c = leads_nowhere c.jump_at.result (image_of c.args.elf.now.bytes) c.args.starts.now c.args.addr c.args.place c.jump_at.ensures c.in-None.is

pub returns-else-target-place : goal.returns-else-target-place
returns-else-target-place c = leads_on c.jump_at.result (image_of c.args.elf.now.bytes) c.args.starts.now c.args.addr c.args.place c.in-Some.target c.goes_on.result
    c.jump_at.ensures c.in-Some.is c.if-target-place.false c.goes_on.ensures
