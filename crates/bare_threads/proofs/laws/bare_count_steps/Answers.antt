use Rattle.bare_threads.proofs.BareCount.{bare_count_step, bare_count_goes, bare_count_bytes}
use Rattle.bare_threads.proofs.laws.bare_count_steps.Goals as goal

pub returns-clause-step : goal.returns-clause-step
returns-clause-step c = bare_count_step

pub returns-clause-goes : goal.returns-clause-goes
returns-clause-goes c = bare_count_goes

pub returns-clause-bytes : goal.returns-clause-bytes
returns-clause-bytes c = bare_count_bytes
