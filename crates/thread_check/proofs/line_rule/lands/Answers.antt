use Rattle.elf_read.specs.Image.{image_of}
use Rattle.thread_check.proofs.LandingJumps.{lands_nowhere, lands_there, lands_elsewhere}
use Rattle.thread_check.proofs.line_rule.lands.Goals as goal

pub returns-in-None : goal.returns-in-None
returns-in-None c = lands_nowhere c.jump_at.result (image_of c.args.orig.now.bytes) (image_of c.args.patched.now.bytes) c.args.start c.args.place c.jump_at.ensures c.in-None.is

pub returns-then-target-place : goal.returns-then-target-place
returns-then-target-place c = lands_there c.jump_at.result (image_of c.args.orig.now.bytes) (image_of c.args.patched.now.bytes) c.args.start c.args.place c.in-Some.target
    c.jump_at.ensures c.in-Some.is c.if-target-place.true

pub returns-else-target-place : goal.returns-else-target-place
returns-else-target-place c = lands_elsewhere c.jump_at.result (image_of c.args.orig.now.bytes) (image_of c.args.patched.now.bytes) c.args.start c.args.place c.in-Some.target
    c.is_loaded.result c.jump_at.ensures c.in-Some.is c.if-target-place.false c.is_loaded.ensures
