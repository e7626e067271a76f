use Rattle.std.proofs.Common.{subst, List}
use Rattle.std.proofs.lemmas.Result.{IfOk-weaker}
use Rattle.image_check.specs.declared.span.Span.{Span}
use Rattle.image_check.specs.Parts.{HaveAll}
use Rattle.image_check.proofs.CutSpans.{moved_all}
use Rattle.image_check.proofs.cutting.apart.Goals as goal

pub returns : goal.returns
returns c = IfOk-weaker c.cut_apart.result _ _ (λ v h.
    let P : List Span → Type 0 = λ z. HaveAll v.items z in
    moved_all c.args.spans.now c.in_ok-sorted.sorted.items v.items c.in_ok-sorted.ensures.moved (subst P c.deref.ensures.value h)) c.cut_apart.ensures
