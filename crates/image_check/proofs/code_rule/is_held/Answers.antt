use Rattle.std.proofs.lemmas.Bool.{eqb-true}
use Rattle.sound_images.specs.Cases.{case_of}
use Rattle.image_check.proofs.SkippedSpans.{held_code}
use Rattle.image_check.proofs.code_rule.is_held.Goals as goal

pub returns-in-Some : goal.returns-in-Some
returns-in-Some c t o es =
    held_code (case_of o c.args.patched.now.bytes es c.args.flat.now) c.args.code.now _ c.in-Some.perms _ c.from-place.ensures c.as_slice-bytes.ensures.value
    c.in-Some.ensures (eqb-true c.in-Some.perms 5 t) (c.on_one_page.ensures c.if-on_one_page.true)
