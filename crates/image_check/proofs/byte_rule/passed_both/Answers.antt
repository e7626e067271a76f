use Rattle.std.proofs.Common.{refl, arith}
use Rattle.elf_read.specs.Find.{segment_holding}
use Rattle.elf_read.proofs.HoldingSegments.{held_at, inside_at}
use Rattle.sound_images.specs.Cases.{case_of}
use Rattle.image_check.proofs.FileParts.{rest_stands}
use Rattle.image_check.proofs.ByteStretches.{rest_low, same_holds}
use Rattle.image_check.proofs.byte_rule.passed_both.Goals as goal

pub rest_of-old-requires-clause-inside : goal.rest_of-old-requires-clause-inside
rest_of-old-requires-clause-inside c = inside_at c.args.orig.now.bytes _ c.args.addr _ c.args.was.now c.file.ensures.accepted c.file.ensures.value refl c.requires.was

pub rest_of-old-requires-clause-above : goal.rest_of-old-requires-clause-above
rest_of-old-requires-clause-above c = (held_at c.args.orig.now.bytes c.args.addr _ c.args.was.now c.file.ensures.accepted refl c.requires.was).above

pub rest_of-new-requires-clause-inside : goal.rest_of-new-requires-clause-inside
rest_of-new-requires-clause-inside c = inside_at c.args.patched.now.bytes _ c.args.addr _ c.args.now.now c.file-then-perms.ensures.accepted c.file-then-perms.ensures.value refl c.requires.now

pub rest_of-new-requires-clause-above : goal.rest_of-new-requires-clause-above
rest_of-new-requires-clause-above c = (held_at c.args.patched.now.bytes c.args.addr _ c.args.now.now c.file-then-perms.ensures.accepted refl c.requires.now).above

pub same_to-requires-clause-old : goal.same_to-requires-clause-old
same_to-requires-clause-old c = rest_low c.args.orig.now.bytes c.args.addr c.args.was.now _ _ c.file.ensures.accepted c.requires.was c.rest_of-old.ensures

pub same_to-requires-clause-new : goal.same_to-requires-clause-new
same_to-requires-clause-new c = rest_low c.args.patched.now.bytes c.args.addr c.args.now.now _ _ c.file-then-perms.ensures.accepted c.requires.now c.rest_of-new.ensures

pub returns-then-perms-clause-holds : goal.returns-then-perms-clause-holds
returns-then-perms-clause-holds c es =
    let o = c.args.orig.now.bytes in
    let p = c.args.patched.now.bytes in
    let a = c.args.addr in
    let k = c.if-perms.true in
    same_holds (case_of o p es c.args.flat.now) a c.same_to.result c.perms.result c.perms-2.result c.rest_of-old.result.now c.rest_of-new.result.now
    (rest_stands o c.file.result.now a (segment_holding o a) c.args.was.now c.perms.result c.rest_of-old.result.now c.file.ensures.accepted
    c.file.ensures.value refl c.requires.was c.perms.ensures c.rest_of-old.ensures)
    (rest_stands p c.file-then-perms.result.now a (segment_holding p a) c.args.now.now c.perms-2.result c.rest_of-new.result.now
    c.file-then-perms.ensures.accepted c.file-then-perms.ensures.value refl c.requires.now c.perms-2.ensures c.rest_of-new.ensures)
    (omega arith) c.same_to.ensures.same
