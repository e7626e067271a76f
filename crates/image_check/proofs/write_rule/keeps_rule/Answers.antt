use Rattle.std.proofs.Common.{◌≡◌, ◌∙◌, Some, sym, ap, subst, arith}
use Rattle.std.specs.Prelude.{slice_get}
use Rattle.std.proofs.lemmas.Option.{get_or_from_slice_get}
use Rattle.pun_base.specs.declared.plan.Write.{Write}
use Rattle.image_check.specs.Stretches.{RunBroken}
use Rattle.sound_images.specs.Cases.{case_of}
use Rattle.image_check.proofs.OwnedRuns.{run_keeps}
use Rattle.image_check.proofs.write_rule.keeps_rule.Goals as goal

pub returns-then-is_told : goal.returns-then-is_told
returns-then-is_told c t w at x f =
    let o = c.args.orig.now.bytes in
    let p = c.args.patched.now.bytes in
    let k = case_of o p c.args.starts.now c.args.flat.now in
    let ws = c.args.runs.now in
    let run = c.index-runs-place.result in
    let same : run ≡ w = c.index-runs-place.is ∙ get_or_from_slice_get ws c.args.place w run at in
    let here : slice_get ws c.args.place ≡ Some run = at ∙ ap (λ (z : Write). Some z) (sym same) in
    run_keeps k ws c.args.place run c.requires.moved here (c.is_alone.ensures c.if-is_alone.true here) (c.is_told.ensures c.if-is_told.true)
    (λ y l m. c.are_owned.ensures t o p y (omega (arith, l, c.from.ensures)) (omega (arith, m, c.run_end.ensures))) x
    (subst (λ (z : Write). RunBroken k x z) (sym same) f)
