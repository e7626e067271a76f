use Rattle.std.proofs.Common.{◌≡◌, ◌+◌, ◌++◌, ◌∷◌, [], take, sym, ap, ◌∙◌}
use Rattle.std.proofs.lemmas.List.{take_more}
use Rattle.pun_base.specs.declared.pun.Pun.{Pun}
use Rattle.patch_report.specs.declared.line.Line.TheVariants as line
use Rattle.patch_report.proofs.PrintedLines.{each_line}
use Rattle.patch_report.proofs.printing.push_puns.Goals as goal

pub loop-pun-preserved : goal.loop-pun-preserved
loop-pun-preserved c =
    let x : Pun = c.pun-item.result in
    let t : take (c.loop-pun.pun-index + 1) c.args.puns.now ≡ take c.loop-pun.pun-index c.args.puns.now ++ x ∷ [] =
    take_more c.args.puns.now c.loop-pun.pun-index x c.loop-pun-test.true
    ∙ ap (λ (y : Pun). take c.loop-pun.pun-index c.args.puns.now ++ y ∷ []) (sym c.pun-item.is) in
    each_line (λ (y : Pun). line.Pun y) c.args.puns.now c.loop-pun.pun-index x c.args.out.now.items c.loop-pun.out.items
    c.push_pun.new.out.items c.push.new.self.items t c.loop-pun.invariant c.in_ok-push_pun.ensures c.in_ok-push.ensures.items
