use Rattle.std.proofs.Common.{subst, List}
use Rattle.image_check.specs.declared.span.Span.{Span}
use Rattle.image_check.specs.Parts.{HaveAll}
use Rattle.image_check.specs.Verdict.{case_in}
use Rattle.image_check.proofs.LeastAddresses.{least_reached}
use Rattle.image_check.proofs.checked.Checked.least.Goals as goal

pub returns : goal.returns
returns c =
    let P : List Span → Type 0 = λ z. HaveAll c.in_ok-parts.parts.items z in
    least_reached (case_in c.args.self.now) c.args.rule c.in_ok-spans.spans.items c.in_ok-parts.parts.items c.least_in.result c.in_ok-spans.ensures
    (subst P c.deref.ensures.value c.in_ok-parts.ensures) (rw c.deref-2.ensures.value at c.least_in.ensures)
