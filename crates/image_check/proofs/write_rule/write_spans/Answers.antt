use Rattle.std.proofs.Common.{◌≡◌, ◌+◌, ◌∙◌, ℕ, List, get_or, sym, ap, subst, arith}
use Rattle.image_check.specs.declared.span.Span.{Span}
use Rattle.image_check.specs.Parts.{in_span}
use Rattle.image_check.specs.Stretches.{CoversFirst, RunBroken, run_end}
use Rattle.sound_images.specs.Cases.{case_of}
use Rattle.image_check.proofs.SkippedSpans.{covers_more, ends_more}
use Rattle.image_check.proofs.FailureSpans.{run_has}
use Rattle.image_check.proofs.write_rule.write_spans.Goals as goal

pub loop-run-preserved : goal.loop-run-preserved
loop-run-preserved c =
    let h = c.loop-run.invariant in
    let n = c.loop-run.place in
    let ws = c.runs-runs.result.now in
    let y = c.run-item.result in
    let k = case_of c.args.orig.now.bytes c.args.patched.now.bytes c.args.starts.now c.args.flat.now in
    let e : y ≡ get_or ws n y = c.run-item.is ∙ ap (λ (i : ℕ). get_or ws i y) (sym h.0) in (
      ap (λ (i : ℕ). i + 1) h.0,
      ends_more run_end ws n c.loop-run.reached c.farther-reached.result c.run_end.result y y e c.run_end.ensures c.farther-reached.ensures.one
          c.farther-reached.ensures.other h.1,
      subst (λ (z : List Span). CoversFirst (RunBroken k) ws (n + 1) z) (sym c.in_ok-push_unless.ensures)
          (covers_more (RunBroken k) ws n y y c.keeps_rule-holds.result c.run_span.result c.loop-run.spans.items
          (let l = c.loop-run-test.true in omega (arith, l, h.0)) e (λ a t x f. c.keeps_rule-holds.ensures t y a x f)
          (λ x f. ap (in_span x) c.run_span.ensures ∙ run_has k x y f) h.2),
    )

pub returns : goal.returns
returns c = (
  c.runs-runs.result.now,
  c.runs-runs.ensures.moved,
  λ i y m. let h = c.loop-run.invariant in let n = c.loop-run-test.false in h.2 i y (omega (arith, h.0, m, n)),
)
