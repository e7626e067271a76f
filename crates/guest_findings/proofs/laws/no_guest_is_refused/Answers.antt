use Rattle.guest_findings.proofs.GuestStarts.{guest_starts_stand}
use Rattle.guest_findings.proofs.GuestAcceptance.{no_guest_refused}
use Rattle.guest_findings.proofs.laws.no_guest_is_refused.Goals as goal

pub returns-clause-none : goal.returns-clause-none
returns-clause-none c = no_guest_refused

pub returns-clause-starts : goal.returns-clause-starts
returns-clause-starts c = guest_starts_stand
