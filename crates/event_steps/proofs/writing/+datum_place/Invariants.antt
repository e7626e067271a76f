use Rattle.event_steps.proofs.writing.+datum_place.Given as goal

abbrev pub decreases-datum_place : goal.decreases-datum_place
decreases-datum_place l = l.named
