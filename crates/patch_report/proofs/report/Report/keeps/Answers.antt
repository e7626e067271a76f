use Rattle.std.proofs.Common.{subst}
use Rattle.patch_report.specs.Grammar.{IsTold}
use Rattle.patch_report.specs.Values.{ReportValue}
use Rattle.patch_report.specs.Views.{parts_value}
use Rattle.patch_report.proofs.ReportBounds.{told}
use Rattle.patch_report.proofs.report.Report.keeps.Goals as goal

pub returns-clause-told : goal.returns-clause-told
returns-clause-told c =
    subst (λ (v : ReportValue). IsTold v.body) c.self.view_is (told (parts_value c.self.inside.parts) c.self.invariant)
