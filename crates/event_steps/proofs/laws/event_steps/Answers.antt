use Rattle.event_steps.proofs.ListedCode.{step_told, step_goes, step_leads, code_long}
use Rattle.event_steps.proofs.laws.event_steps.Goals as goal

pub returns-clause-told : goal.returns-clause-told
returns-clause-told c = step_told

pub returns-clause-goes : goal.returns-clause-goes
returns-clause-goes c = step_goes

pub returns-clause-leads : goal.returns-clause-leads
returns-clause-leads c = step_leads

pub returns-clause-long : goal.returns-clause-long
returns-clause-long c = code_long
