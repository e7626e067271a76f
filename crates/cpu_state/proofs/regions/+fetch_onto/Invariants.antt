use Rattle.cpu_state.proofs.regions.+fetch_onto.Given as goal

abbrev pub decreases-fetch_onto : goal.decreases-fetch_onto
decreases-fetch_onto l = l.count
