use Rattle.std.proofs.Common.{refl}
use Rattle.image_runs.specs.Starting.{regions_memory}
use Rattle.image_runs.proofs.RegionsOutsideImages.{both_apart}
use Rattle.image_step.proofs.laws.start_pair.Goals as goal

pub returns : goal.returns
returns c =
    let s = c.args.script.now in
    record {
      sized = record { core = c.start_registers.ensures; world = c.world_words.ensures };
      core = refl;
      world = refl;
      original_at = refl;
      patched_at = c.requires.entry;
      further = regions_memory s.regions;
      apart = both_apart c.args.original.now c.args.patched.now s.regions c.requires.original c.requires.patched;
      original = refl;
      patched = refl;
    }
