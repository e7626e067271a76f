use Rattle.sound_images.specs.Cases.{case_of}
use Rattle.image_check.proofs.OwnedRuns.{owned}
use Rattle.image_check.proofs.write_rule.owned_to.Goals as goal

pub returns-in-Some-clause-owned : goal.returns-in-Some-clause-owned
returns-in-Some-clause-owned c o p x l m =
    owned (case_of o p c.args.starts.now c.args.flat.now) c.in-Some.entry.now x c.requires c.in-Some.ensures (c.end_if_owner.ensures.owned x l m)
