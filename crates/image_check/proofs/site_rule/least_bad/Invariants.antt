use Rattle.std.proofs.Common.{◌≡◌, map, drop, option_map, None}
use Rattle.patch_report.specs.Values.{row_value}
use Rattle.image_check.specs.Parts.{least_bad}
use Rattle.image_check.proofs.site_rule.least_bad.Given as goal

abbrev pub invariant-loop-row : goal.invariant-loop-row
invariant-loop-row l =
    least_bad l.starts l.least (option_map (λ r. row_value r.now) l.before) (map row_value (drop l.row-index l.row-items))
    ≡ least_bad l.starts None None l.report.body.rows
