use Rattle.std.proofs.Common.{[], ◌∷◌, refl}
use Rattle.cpu_step.specs.Stepping.{world_after}
use Rattle.guest_gen.proofs.answering.answer.Goals as goal

pub unreachable-requires : goal.unreachable-requires
unreachable-requires c = c.in-Err.ensures.steps (c.args.entry.now ∷ []) refl c.requires.0 c.requires.1

pub returns : goal.returns
returns c = (
  world_after c.in-Ok.field-0.used (c.args.entry.now ∷ []),
  c.in-Ok.ensures.steps (c.args.entry.now ∷ []) refl,
)
