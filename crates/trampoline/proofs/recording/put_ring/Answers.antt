use Rattle.std.proofs.Common.{◌+◌, [], ◌∷◌, ◌++◌, ◌∙◌}
use Rattle.event_steps.specs.EventSteps.{code}
use Rattle.trampoline.specs.EventLists.{slots_at, ring_list}
use Rattle.trampoline.proofs.recording.put_ring.Goals as goal

pub returns : goal.returns
returns c =
    let slots = slots_at (c.args.private + 68) c.args.len in
    c.put_steps.ensures
    ∙ (λ j. c.args.code.now ++ code (c.at.ensures j ∷ c.at-2.ensures j ∷ c.at-3.ensures j ∷ slots ∷ []) (ring_list c.args.len c.args.private c.args.number).steps)
