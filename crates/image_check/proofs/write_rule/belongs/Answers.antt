use Rattle.std.proofs.Common.{◌∙◌}
use Rattle.image_check.proofs.NearStarts.{belongs_near}
use Rattle.image_check.proofs.write_rule.belongs.Goals as goal

pub returns : goal.returns
returns c = λ o p.
    c.belongs_among.ensures
    ∙ belongs_near c.args.flat.now c.args.addr c.near_entries.result.now c.args.starts.now c.requires c.near_entries.ensures.near c.near_entries.ensures.part
