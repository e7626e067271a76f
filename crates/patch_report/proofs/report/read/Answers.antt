use Rattle.std.proofs.Common.{◌≡◌, false, sym, ◌∙◌}
use Rattle.std.proofs.lemmas.Result.{err_from_is_err_and}
use Rattle.patch_report.specs.Answers.{has_other_version}
use Rattle.patch_report.specs.Views.{parts_value}
use Rattle.patch_report.proofs.ExactReading.{is_read}
use Rattle.patch_report.proofs.ReadAnswers.{another, not_another, refused, not_refused, one_report, whole_report}
use Rattle.patch_report.proofs.report.read.Goals as goal

pub returns-then-has_other_version-clause-answer : goal.returns-then-has_other_version-clause-answer
returns-then-has_other_version-clause-answer c = another c.args.text.now (sym c.has_other_version.ensures ∙ c.if-has_other_version.true)

pub returns-then-has_other_version-clause-whole : goal.returns-then-has_other_version-clause-whole
returns-then-has_other_version-clause-whole c = not_another c.args.text.now (sym c.has_other_version.ensures ∙ c.if-has_other_version.true)

pub returns-in_err-parts-clause-answer : goal.returns-in_err-parts-clause-answer
returns-in_err-parts-clause-answer c =
    let p = err_from_is_err_and c.from_residual.result c.from_residual.ensures.1 in
    let b : has_other_version c.args.text.now ≡ false = sym c.has_other_version.ensures ∙ c.if-has_other_version.false in
    rw (p.1, p.2) (refused c.in_err-parts.field-0.0 c.args.text.now b c.in_err-parts.ensures)

pub returns-in_err-parts-clause-whole : goal.returns-in_err-parts-clause-whole
returns-in_err-parts-clause-whole c =
    let p = err_from_is_err_and c.from_residual.result c.from_residual.ensures.1 in
    rw (p.1, p.2) (not_refused c.in_err-parts.field-0.0 c.args.text.now c.in_err-parts.ensures)

pub invariant_of-result : goal.invariant_of-result
invariant_of-result c = (is_read c.args.text.now (parts_value c.in_ok-parts.parts) c.in_ok-parts.ensures).0

pub returns-clause-answer : goal.returns-clause-answer
returns-clause-answer c =
    let b : has_other_version c.args.text.now ≡ false = sym c.has_other_version.ensures ∙ c.if-has_other_version.false in
    whole_report c.args.text.now (parts_value c.in_ok-parts.parts) b c.in_ok-parts.ensures

pub returns-clause-whole : goal.returns-clause-whole
returns-clause-whole c = one_report c.args.text.now (parts_value c.in_ok-parts.parts) c.in_ok-parts.ensures
