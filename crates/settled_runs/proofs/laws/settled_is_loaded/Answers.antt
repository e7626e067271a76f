use Rattle.settled_runs.proofs.LoadedVectors.{loaders_keep_vectors, settled_is_loaded}
use Rattle.settled_runs.proofs.laws.settled_is_loaded.Goals as goal

pub returns-clause-vectors : goal.returns-clause-vectors
returns-clause-vectors c = loaders_keep_vectors

pub returns-clause-loaded : goal.returns-clause-loaded
returns-clause-loaded c = settled_is_loaded
