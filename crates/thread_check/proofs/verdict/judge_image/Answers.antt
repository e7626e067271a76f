use Rattle.std.proofs.Common.{sym, subst}
use Rattle.image_check.specs.Verdict.{case_in}
use Rattle.image_check.specs.declared.verdict.Verdict.{Verdict}
use Rattle.thread_check.specs.LineParts.{IsImageVerdict}
use Rattle.thread_check.proofs.VerdictsOfLines.{image_verdict}
use Rattle.thread_check.proofs.verdict.judge_image.Goals as goal

pub returns : goal.returns
returns c =
    let k = case_in c.args.checked.now in
    subst (λ (z : Verdict). IsImageVerdict k z) (sym c.first_failure.ensures)
    (image_verdict k c.in_ok-byte.byte c.in_ok-write.write c.in_ok-range.range c.in_ok-site.site c.in_ok-entry.entry c.in_ok-byte.ensures c.in_ok-write.ensures
    c.in_ok-range.ensures c.in_ok-site.ensures c.in_ok-entry.ensures)
