use Rattle.cpu_state.proofs.regions.+number.Given as goal

abbrev pub decreases-number : goal.decreases-number
decreases-number l = l.size
