use Rattle.elf_read.specs.Image.{image_of}
use Rattle.image_check.proofs.standing.stands.Goals as goal

pub returns-in-Some : goal.returns-in-Some
returns-in-Some c = c.perms_of_front.ensures (image_of c.args.elf.now.bytes) c.args.addr (rw c.in-Some.is at c.rest_at.ensures.stands)
