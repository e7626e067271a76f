use Rattle.std.proofs.Common.{◌≡◌, ◌+◌, ◌∙◌, ℕ, List, get_or, sym, ap, subst, arith}
use Rattle.image_check.specs.declared.span.Span.{Span}
use Rattle.image_check.specs.Parts.{in_span}
use Rattle.image_check.specs.Stretches.{CoversFirst, CodeBroken, code_end}
use Rattle.sound_images.specs.Cases.{case_of}
use Rattle.image_check.proofs.SkippedSpans.{covers_more, ends_more, code_has}
use Rattle.image_check.proofs.code_rule.code_spans.Goals as goal

pub loop-code-preserved : goal.loop-code-preserved
loop-code-preserved c =
    let h = c.loop-code.invariant in
    let n = c.loop-code.place in
    let ps = c.args.codes.now in
    let y = c.code-item.result in
    let e : y ≡ get_or ps n y = c.code-item.is ∙ ap (λ (k : ℕ). get_or ps k y) (sym h.0) in (
      ap (λ (k : ℕ). k + 1) h.0,
      ends_more code_end ps n c.loop-code.reached c.farther-reached.result c.end_of.result y y e c.end_of.ensures c.farther-reached.ensures.one
          c.farther-reached.ensures.other h.1,
      λ o es. let k = case_of o c.args.patched.now.bytes es c.args.flat.now in
          subst (λ (z : List Span). CoversFirst (CodeBroken k ps) ps (n + 1) z) (sym c.in_ok-push_unless.ensures)
          (covers_more (CodeBroken k ps) ps n y y c.keeps_rule-holds.result c.code_span.result c.loop-code.spans.items
          (let l = c.loop-code-test.true in omega (arith, l, h.0)) e (λ a t x f. c.keeps_rule-holds.ensures t a o es x f)
          (λ x f. ap (in_span x) c.code_span.ensures ∙ code_has k ps x y f) (h.2 o es)),
    )

pub returns : goal.returns
returns c = λ o es i y m. let h = c.loop-code.invariant in let n = c.loop-code-test.false in h.2 o es i y (omega (arith, h.0, m, n))
