use Rattle.std.proofs.Common.{◌≡◌, ◌-◌}
use Rattle.image_step.specs.Reading.{place_from}
use Rattle.image_step.proofs.word_reading.read_name.Given as goal

abbrev pub invariant-loop-place : goal.invariant-loop-place
invariant-loop-place l = place_from (19 - l.place) l.place l.text ≡ place_from 19 0 l.text
