use Rattle.image_check.proofs.FixedJumps.{known_begins, unknown_begins, not_unknown, not_short}
use Rattle.image_check.proofs.jumps.read_front.Goals as goal

pub returns-in-Known : goal.returns-in-Known
returns-in-Known c = known_begins c.args.window.now c.in-Known.parts c.front_form.result ((c.decode.ensures.known c.in-Known.parts).0 c.in-Known.is) c.front_form.ensures

pub returns-in-Unknown : goal.returns-in-Unknown
returns-in-Unknown c = unknown_begins c.args.window.now c.decode.result c.decode.ensures.known (λ p h. not_unknown c.decode.result p c.in-Unknown.is h)

pub returns-in-Short : goal.returns-in-Short
returns-in-Short c = unknown_begins c.args.window.now c.decode.result c.decode.ensures.known (λ p h. not_short c.decode.result p c.in-Short.is h)
