use Rattle.std.proofs.Common.{refl, sym}
use Rattle.image_step.proofs.Entries.{nineteen_of}
use Rattle.image_step.proofs.scenario_draft.core_of.Goals as goal

pub returns : goal.returns
returns c = sym (nineteen_of c.args.values.now c.copy_from_slice.new.self _ _ _ c.requires c.copy_from_slice.ensures.after c.flags_of.ensures refl refl)
