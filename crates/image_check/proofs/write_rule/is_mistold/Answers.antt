use Rattle.std.proofs.Common.{◌∙◌, sym}
use Rattle.sound_images.specs.Cases.{case_of}
use Rattle.image_check.proofs.NearWrites.{mistold_near}
use Rattle.image_check.proofs.write_rule.is_mistold.Goals as goal

pub returns : goal.returns
returns c = λ es.
    let k = case_of c.args.orig.now.bytes c.args.patched.now.bytes es c.args.flat.now in
    c.are_mistold.ensures k (sym c.loaded_at-was.ensures) (sym c.loaded_at-now.ensures)
    ∙ mistold_near k c.args.addr c.near_runs.result.now c.near_runs.ensures
