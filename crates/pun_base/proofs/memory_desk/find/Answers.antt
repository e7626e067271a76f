use Rattle.std.proofs.Common.{Some, ap, ◌∙◌}
use Rattle.pun_base.proofs.TextMaps.{held_by-found, held_by-missing}
use Rattle.pun_base.proofs.memory_desk.find.Goals as goal

pub returns-in-Some : goal.returns-in-Some
returns-in-Some c =
    ap Some c.as_slice.ensures.value ∙ held_by-found c.args.name.now c.args.files.now c.in-Some.bytes.now c.in-Some.ensures.value

pub returns-in-None : goal.returns-in-None
returns-in-None c = held_by-missing c.args.name.now c.args.files.now c.in-None.ensures.value
