use Rattle.std.proofs.Common.{◌≡◌, ◌++◌, map, take}
use Rattle.std.specs.List.{flat_map}
use Rattle.patch_report.specs.Spelling.{lines_text, row_lines}
use Rattle.patch_report.specs.Values.{row_value}
use Rattle.patch_report.proofs.printing.push_rows.Given as goal

abbrev pub invariant-loop-row : goal.invariant-loop-row
invariant-loop-row l = l.out.items ≡ l.fn.out.items ++ lines_text (flat_map row_lines (map row_value (take l.row-index l.rows)))
