use Rattle.std.proofs.Common.{◌++◌, ◌∙◌}
use Rattle.std.proofs.lemmas.Result.{IfOk-weaker}
use Rattle.image_check.specs.Parts.{kind_spans, fixed_spans, report_pages, segment_pages}
use Rattle.image_check.proofs.RangeEdges.{ranges_are}
use Rattle.image_check.proofs.spans.range_spans.Goals as goal

pub returns-clause-value : goal.returns-clause-value
returns-clause-value c =
    let v = c.args.report.now.body in
    let o = c.args.orig.now.bytes in
    let p = c.args.patched.now.bytes in
    IfOk-weaker c.joined-3.result _ _ (λ z h. ranges_are (kind_spans o p v.private.0 v.private.1) (fixed_spans v) (report_pages v) (segment_pages o)
    c.in_ok-spans.spans.items c.deref.result.now c.in_ok-joined.field-0.items c.deref-2.result.now z.items
    (c.in_ok-spans.ensures ∙ (λ i. c.in_ok-kinds.ensures i ++ c.fixed_spans.ensures i)) (c.deref.ensures.value ∙ c.in_ok-pages.ensures) c.in_ok-joined.ensures
    (c.deref-2.ensures.value ∙ c.in_ok-edges.ensures) h) c.joined-3.ensures
