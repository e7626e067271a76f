use Rattle.sound_images.specs.Cases.{case_of}
use Rattle.image_check.proofs.NearLines.{any_line_near}
use Rattle.image_check.proofs.RowRule.{both_ways}
use Rattle.image_check.proofs.entry_rule.entry_fails.Goals as goal

pub returns : goal.returns
returns c = λ o. both_ways (c.lines_fail.ensures o)
    (any_line_near (case_of o c.args.patched.now.bytes c.args.starts.now c.args.flat.now) c.args.addr c.near_lines.result.now c.near_lines.ensures)
