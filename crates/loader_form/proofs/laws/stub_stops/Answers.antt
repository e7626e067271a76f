use Rattle.loader_form.proofs.StubFailures.{stub_stops}
use Rattle.loader_form.proofs.laws.stub_stops.Goals as goal

pub returns : goal.returns
returns c = stub_stops
