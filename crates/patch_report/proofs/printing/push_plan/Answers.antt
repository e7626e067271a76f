use Rattle.std.proofs.Common.{◌++◌, map, ◌∙◌}
use Rattle.pun_base.specs.declared.tramp.Tramp.{Tramp}
use Rattle.pun_base.specs.declared.pun.Pun.{Pun}
use Rattle.patch_report.specs.declared.line.Line.TheVariants as line
use Rattle.patch_report.specs.Values.{write_value}
use Rattle.patch_report.specs.Spelling.{lines_text, write_line}
use Rattle.patch_report.proofs.PrintedLines.{three}
use Rattle.patch_report.proofs.printing.push_plan.Goals as goal

pub returns : goal.returns
returns c =
    let p = c.args.plan.now in
    three (map (λ (t : Tramp). line.Tramp t) p.tramps) (map write_line (map write_value p.writes)) (map (λ (u : Pun). line.Pun u) p.puns)
    c.args.out.now.items c.push_tramps.new.out.items c.push_writes.new.out.items c.push_puns.new.out.items
    (c.in_ok-push_tramps.ensures ∙ (λ i. c.args.out.now.items
    ++ lines_text (map (λ (t : Tramp). line.Tramp t) (c.as_slice.ensures.value i))))
    (c.in_ok-push_writes.ensures ∙ (λ i. c.push_tramps.new.out.items
    ++ lines_text (map write_line (map write_value (c.as_slice-2.ensures.value i)))))
    (c.in_ok-push_puns.ensures ∙ (λ i. c.push_writes.new.out.items
    ++ lines_text (map (λ (u : Pun). line.Pun u) (c.as_slice-3.ensures.value i))))
