use Rattle.event_steps.proofs.writing.+size_of_first.Given as goal

abbrev pub decreases-size_of_first : goal.decreases-size_of_first
decreases-size_of_first l = l.count
