use Rattle.std.proofs.Common.{◌∙◌}
use Rattle.sound_images.specs.Cases.{case_of}
use Rattle.image_check.proofs.NearCode.{code_near}
use Rattle.image_check.proofs.code_rule.code_fails.Goals as goal

pub returns : goal.returns
returns c = λ o es.
    c.breaks_rule.ensures o es
    ∙ code_near (case_of o c.args.patched.now.bytes es c.args.flat.now) c.args.addr c.near.result.now c.args.codes.now c.near.ensures.near
