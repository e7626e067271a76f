use Rattle.guest_findings.proofs.FindingsUniqueness.{findings_one}
use Rattle.guest_findings.proofs.laws.findings_are_one.Goals as goal

pub returns : goal.returns
returns c = findings_one
