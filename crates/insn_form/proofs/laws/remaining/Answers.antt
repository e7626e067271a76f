use Rattle.insn_form.proofs.TouchedMemory.{keeps_permissions, guarded, unwritten, hidden}
use Rattle.insn_form.proofs.laws.remaining.Goals as goal

pub returns-clause-permissions : goal.returns-clause-permissions
returns-clause-permissions c = keeps_permissions

pub returns-clause-guarded : goal.returns-clause-guarded
returns-clause-guarded c = guarded

pub returns-clause-unwritten : goal.returns-clause-unwritten
returns-clause-unwritten c = unwritten

pub returns-clause-hidden : goal.returns-clause-hidden
returns-clause-hidden c = hidden
