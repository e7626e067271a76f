use Rattle.std.proofs.Common.{refl, arith}
use Rattle.image_check.specs.declared.span.Span.{Span}
use Rattle.image_check.proofs.CutSpans.{cut_past, cut_more}
use Rattle.image_check.proofs.cutting.cut_apart.Goals.{in-Some+in_ok-push, in_default}
use Rattle.image_check.proofs.cutting.cut_apart.Goals as goal

pub loop-span-preserved : goal.loop-span-preserved
loop-span-preserved c =
    let ss = c.args.spans.now in
    let i = c.loop-span.span-index in
    let d : Span = record { first = 0; last = 0 } in
    elim c.match-cut.branch [
      | in-Some+in_ok-push w ↦ rw (w.parts-is, w.next-is) (cut_more ss i c.loop-span.next c.loop-span.parts.items _ d _ w.in-Some.part _
          c.requires c.loop-span-test.true refl w.in-Some.ensures w.in_ok-push.ensures.items (let n = w.saturating_add-next.ensures in omega (arith, n))
          c.loop-span.invariant)
      | in_default w ↦ rw (w.parts-is, w.next-is) (cut_past ss i c.loop-span.next c.loop-span.parts.items d _
          c.requires c.loop-span-test.true refl w.in_default.ensures c.loop-span.invariant)
    ]
