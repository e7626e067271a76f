use Rattle.std.proofs.Common.{◌∙◌}
use Rattle.std.specs.Prelude.{◌==◌}
use Rattle.sound_images.proofs.FoundElements.{any_found}
use Rattle.image_check.proofs.NearStarts.{start_near}
use Rattle.image_check.proofs.jumps.is_listed.Goals as goal

pub returns : goal.returns
returns c =
    c.has_start.ensures ∙ start_near c.args.addr c.near_entries.result.now c.args.starts.now c.near_entries.ensures.near
    ∙ any_found (λ e. e.addr == c.args.addr) c.args.starts.now
