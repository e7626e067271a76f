use Rattle.settled_runs.proofs.StubRuns.{stub_tells}
use Rattle.settled_runs.proofs.laws.stub_tells.Goals as goal

pub returns : goal.returns
returns c = stub_tells
