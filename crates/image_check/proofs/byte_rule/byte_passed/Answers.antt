use Rattle.std.proofs.Common.{refl, sym, ◌∙◌}
use Rattle.sound_images.specs.Cases.{case_of}
use Rattle.image_check.proofs.ByteStretches.{gap_holds}
use Rattle.image_check.proofs.byte_rule.byte_passed.Goals as goal

pub next_begin-requires : goal.next_begin-requires
next_begin-requires c = c.loads.ensures.ascends

pub returns-in-None-clause-holds : goal.returns-in-None-clause-holds
returns-in-None-clause-holds c es =
    gap_holds (case_of c.args.orig.now.bytes c.args.patched.now.bytes es c.args.flat.now) c.args.orig.now.bytes c.args.addr c.next_begin.result
    c.loads.result.now c.segment_at.result refl c.loads.ensures.value c.segment_at.ensures.value c.in-None.is c.next_begin.ensures.apart

pub passed_in-requires : goal.passed_in-requires
passed_in-requires c = sym c.segment_at.ensures.value ∙ c.in-Some.is
