use Rattle.std.proofs.Common.{◌≡◌, true, false}
use Rattle.std.specs.Str.{bytes_eq}
use Rattle.image_step.specs.Spelling.{name}
use Rattle.image_step.proofs.Places.{found_here, not_here}
use Rattle.image_step.proofs.word_reading.read_name.Goals as goal

pub returns-then-is_word : goal.returns-then-is_word
returns-then-is_word c =
    let e : bytes_eq c.args.text.now (name c.loop-place.place) ≡ true = cc in
    found_here c.loop-place.place c.args.text.now c.loop-place-test.true c.loop-place.invariant e

pub loop-place-preserved : goal.loop-place-preserved
loop-place-preserved c =
    let e : bytes_eq c.args.text.now (name c.loop-place.place) ≡ false = cc in
    not_here c.loop-place.place c.args.text.now c.loop-place-test.true c.loop-place.invariant e
