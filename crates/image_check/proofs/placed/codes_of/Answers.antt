use Rattle.std.proofs.Common.{List, map, false, refl, sym, ap, ◌∙◌, subst, arith}
use Rattle.std.specs.List.{AllByRecursion}
use Rattle.std.proofs.lemmas.List.{take_all}
use Rattle.list_text.proofs.WordParts.{all_appended}
use Rattle.image_check.specs.declared.placed_code.PlacedCode.{PlacedCode}
use Rattle.image_check.specs.CodeParts.{IsPlaced}
use Rattle.image_check.specs.Parts.{line_of}
use Rattle.sound_images.specs.Cases.{case_of}
use Rattle.sound_images.specs.Reports.{Line}
use Rattle.patch_report.proofs.LongerFronts.{mapped_more}
use Rattle.image_check.proofs.CodeAtStarts.{line_low}
use Rattle.image_check.proofs.placed.codes_of.Goals as goal

pub code_of-bytes-requires-clause-low : goal.code_of-bytes-requires-clause-low
code_of-bytes-requires-clause-low c =
    line_low c.args.flat.now c.lines-line-items.result.now c.loop-line.line-index _ c.requires.report c.lines-line-items.ensures
    c.loop-line-test.true

pub loop-line-preserved : goal.loop-line-preserved
loop-line-preserved c =
    let f : PlacedCode → Line = λ p. line_of p.line in (
      mapped_more f line_of c.loop-line.codes.items c.push.new.self.items _ c.lines-line-items.result.now c.loop-line.line-index
          (record { number = 0; tramp = record { place = 0; start = 0; event = false } }) c.loop-line-test.true
          c.in_ok-push.ensures.items c.loop-line.invariant.0 refl,
      λ p. let P : PlacedCode → Type 0 = IsPlaced (case_of c.args.orig.now.bytes p c.args.starts.now c.args.flat.now) in
          subst (λ (z : List PlacedCode). AllByRecursion P z) (sym c.in_ok-push.ensures.items)
          (all_appended P c.loop-line.codes.items _ (c.loop-line.invariant.1 p) (c.code_of-bytes.ensures p, tt)),
    )

pub returns : goal.returns
returns c = λ p. record {
  lines_are = c.loop-line.invariant.0
      ∙ ap (map line_of)
      (take_all c.loop-line.line-index c.lines-line-items.result.now (let n = c.loop-line-test.false in omega (arith, n)))
      ∙ c.lines-line-items.ensures;
  codes_are = c.loop-line.invariant.1 p;
}
