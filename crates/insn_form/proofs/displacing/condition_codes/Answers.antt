use Rattle.insn_form.proofs.ConditionCodes.{condition_code}
use Rattle.insn_form.proofs.displacing.condition_codes.Goals as goal

pub returns : goal.returns
returns c = condition_code
