use Rattle.std.proofs.Common.{map, ◌∙◌}
use Rattle.std.proofs.lemmas.Result.{IfOk-weaker}
use Rattle.image_check.specs.Parts.{private_span}
use Rattle.image_check.proofs.spans.held_spans.Goals as goal

pub returns : goal.returns
returns c = IfOk-weaker c.private_spans.result _ _
    (λ v h. h ∙ (λ i. map (private_span (c.private.ensures i).0 (c.private.ensures i).1) (c.loads.ensures.value i))) c.private_spans.ensures
