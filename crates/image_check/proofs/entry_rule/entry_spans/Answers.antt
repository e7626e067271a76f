use Rattle.std.proofs.Common.{◌+◌, List, get_or, false, refl, sym, subst, arith}
use Rattle.std.specs.Prelude.{not}
use Rattle.image_check.specs.declared.flat.ReportLine.{ReportLine}
use Rattle.image_check.specs.declared.span.Span.{Span}
use Rattle.image_check.specs.Stretches.{CoversFirst, LineBroken}
use Rattle.sound_images.specs.Cases.{case_of}
use Rattle.image_check.proofs.SkippedSpans.{covers_more, line_keeps, line_has}
use Rattle.image_check.proofs.entry_rule.entry_spans.Goals as goal

pub loop-line-preserved : goal.loop-line-preserved
loop-line-preserved c = λ o.
    let k = case_of o c.args.patched.now.bytes c.args.starts.now c.args.flat.now in
    let i = c.loop-line.line-index in
    let ls = c.args.lines.now in
    let d : ReportLine = record { number = 0; tramp = record { place = 0; start = 0; event = false } } in
    let y = get_or ls i d in
    subst (λ (z : List Span). CoversFirst (LineBroken k) ls (i + 1) z) (sym c.in_ok-push_unless.ensures)
    (covers_more (LineBroken k) ls i d y (not c.line_fails-fails.result) c.single.result c.loop-line.spans.items c.loop-line-test.true refl
    (λ a t x f. line_keeps k y c.from-start.result c.line_fails-fails.result c.from-start.ensures (c.line_fails-fails.ensures o) t x f)
    (λ x f. line_has k y c.from-start.result c.single.result c.from-start.ensures c.single.ensures x f) (c.loop-line.invariant o))

pub returns : goal.returns
returns c = λ o i y m. let n = c.loop-line-test.false in c.loop-line.invariant o i y (omega (arith, m, n))
