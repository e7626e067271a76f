use Rattle.settle.proofs.sections.+push_moved.Given as goal

abbrev pub decreases-push_moved : goal.decreases-push_moved
decreases-push_moved l = l.count
