use Rattle.std.proofs.Common.{◌≡◌, map, drop, option_map, None}
use Rattle.patch_report.specs.Values.{row_value}
use Rattle.image_check.specs.Parts.{any_row_bad}
use Rattle.image_check.proofs.site_rule.row_fails.Given as goal

abbrev pub invariant-loop-row : goal.invariant-loop-row
invariant-loop-row l =
    any_row_bad l.starts (option_map (λ r. row_value r.now) l.before) (map row_value (drop l.row-index l.row-items)) l.addr
    ≡ any_row_bad l.starts None l.report.body.rows l.addr
