use Rattle.std.proofs.Common.{take, refl, sym, subst, arith, Option, ◌+◌, ℕ, List}
use Rattle.std.proofs.lemmas.List.{take_all}
use Rattle.image_check.specs.declared.span.Span.{Span}
use Rattle.image_check.specs.Verdict.{case_in, IsLeastOf}
use Rattle.image_check.specs.Parts.{FailsAmong}
use Rattle.image_check.proofs.LeastAddresses.{least_of_both, one_more_span}
use Rattle.image_check.proofs.checked.Checked.least_in.Goals as goal

pub loop-span-preserved : goal.loop-span-preserved
loop-span-preserved c =
    let k = case_in c.args.self.now in
    let i = c.loop-span.span-index in
    let ss = c.args.spans.now in
    let P : Option ℕ → Type 0 = IsLeastOf (FailsAmong k c.args.rule (take (i + 1) ss)) in
    subst P (sym c.lesser-least.ensures) (least_of_both _ _ _ c.loop-span.least c.first_in.result (one_more_span k c.args.rule ss i _ _ c.loop-span-test.true refl) c.loop-span.invariant c.first_in.ensures)

pub returns : goal.returns
returns c =
    let P : List Span → Type 0 = λ z. IsLeastOf (FailsAmong (case_in c.args.self.now) c.args.rule z) c.loop-span.least in
    subst P (take_all c.loop-span.span-index c.args.spans.now (omega arith)) c.loop-span.invariant
