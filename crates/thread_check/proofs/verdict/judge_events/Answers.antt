use Rattle.std.proofs.Common.{List, false, inl, inr, refl, sym, ap, ◌∙◌, subst}
use Rattle.std.specs.List.{AllByRecursion}
use Rattle.std.proofs.lemmas.Bool.{true≢false}
use Rattle.list_text.proofs.WordParts.{all_appended}
use Rattle.patch_report.proofs.LongerFronts.{mapped_more}
use Rattle.sound_images.specs.Reports.{Line}
use Rattle.image_check.specs.Parts.{line_of}
use Rattle.sound_images.specs.Cases.{case_of}
use Rattle.image_check.specs.declared.placed_code.PlacedCode.{PlacedCode}
use Rattle.image_check.specs.declared.verdict.Verdict.TheVariants.{No}
use Rattle.site_turns.specs.Modes.{is_shared}
use Rattle.thread_check.specs.LineParts.{IsSoundCode}
use Rattle.thread_check.proofs.BuiltCode.{line_low, line_settles}
use Rattle.thread_check.proofs.verdict.judge_events.Goals as goal

pub returns-then-not-is_shared : goal.returns-then-not-is_shared
returns-then-not-is_shared c = inr (
  λ s. true≢false (sym s ∙ sym (c.is_shared.ensures ∙ ap is_shared c.action-action.ensures) ∙ c.if-not-is_shared.true),
  ap (λ z. No z 6) (c.from-low.ensures ∙ ap (λ x. x.0) c.private.ensures),
)

pub judge-requires-clause-shared : goal.judge-requires-clause-shared
judge-requires-clause-shared c = sym (c.is_shared.ensures ∙ ap is_shared c.action-action.ensures) ∙ c.if-not-is_shared.false

pub judge-requires-clause-low : goal.judge-requires-clause-low
judge-requires-clause-low c =
    (line_low c.args.report.now.body c.args.lines.now c.loop-line.line-index _ c.keeps.ensures.told c.requires.lines c.loop-line-test.true).1

pub returns-in-Err : goal.returns-in-Err
returns-in-Err c = inl (
  sym (c.is_shared.ensures ∙ ap is_shared c.action-action.ensures) ∙ c.if-not-is_shared.false,
  line_settles (case_of c.args.orig.now.bytes c.args.patched.now.bytes c.args.starts.now c.args.report.now.body) _ c.in-Err.verdict
      (line_low c.args.report.now.body c.args.lines.now c.loop-line.line-index _ c.keeps.ensures.told c.requires.lines c.loop-line-test.true).0 c.in-Err.ensures,
)

pub loop-line-preserved : goal.loop-line-preserved
loop-line-preserved c =
    let f : PlacedCode → Line = λ p. line_of p.line in
    let P : PlacedCode → Type 0 = IsSoundCode (case_of c.args.orig.now.bytes c.args.patched.now.bytes c.args.starts.now c.args.report.now.body) in (
      mapped_more f line_of c.loop-line.codes.items c.push.new.self.items _ c.args.lines.now c.loop-line.line-index
          (record { number = 0; tramp = record { place = 0; start = 0; event = false } }) c.loop-line-test.true
          c.in_ok-push-in-Ok.ensures.items c.loop-line.invariant.0 refl,
      subst (λ (z : List PlacedCode). AllByRecursion P z) (sym c.in_ok-push-in-Ok.ensures.items)
          (all_appended P c.loop-line.codes.items _ c.loop-line.invariant.1 (c.in-Ok.ensures, tt)),
    )
