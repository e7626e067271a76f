use Rattle.guest_findings.proofs.GuestAcceptance.{guest_out_accepted, guest_tables_short}
use Rattle.guest_findings.proofs.laws.guest_outs_are_accepted.Goals as goal

pub returns-clause-accepted : goal.returns-clause-accepted
returns-clause-accepted c = guest_out_accepted

pub returns-clause-short : goal.returns-clause-short
returns-clause-short c = guest_tables_short
