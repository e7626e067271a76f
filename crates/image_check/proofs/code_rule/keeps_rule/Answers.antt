use Rattle.std.proofs.Common.{arith}
use Rattle.sound_images.specs.Cases.{case_of}
use Rattle.image_check.proofs.SkippedSpans.{code_keeps}
use Rattle.image_check.proofs.code_rule.keeps_rule.Goals as goal

pub returns-then-begin_from : goal.returns-then-begin_from
returns-then-begin_from c t at o es x f =
    let k = c.if-from-reached.false in
    code_keeps (case_of o c.args.patched.now.bytes es c.args.flat.now) c.args.codes.now c.args.place c.args.reached c.args.code.now at c.requires.below
    (omega arith) (λ i y m h. let w = c.begin_from.ensures c.if-begin_from.true i y m h in omega (arith, w, c.end_of.ensures)) (c.is_held.ensures t o es) x f
