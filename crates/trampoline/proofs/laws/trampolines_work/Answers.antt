use Rattle.trampoline.proofs.TrampolineRuns.{trampolines}
use Rattle.trampoline.proofs.laws.trampolines_work.Goals as goal

pub returns : goal.returns
returns c = trampolines
