use Rattle.thread_runs.proofs.EffectSteps.{effect_step}
use Rattle.thread_runs.proofs.laws.effect_steps.Goals as goal

pub returns : goal.returns
returns c = effect_step
