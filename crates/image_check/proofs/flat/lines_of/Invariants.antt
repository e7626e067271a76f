use Rattle.std.proofs.Common.{◌≡◌, map, take}
use Rattle.std.specs.List.{flat_map}
use Rattle.patch_report.specs.Values.{row_value}
use Rattle.image_check.specs.Parts.{line_of}
use Rattle.sound_images.specs.Reports.{row_lines}
use Rattle.image_check.proofs.flat.lines_of.Given as goal

abbrev pub invariant-loop-row : goal.invariant-loop-row
invariant-loop-row l = map line_of l.lines.items ≡ flat_map row_lines (map row_value (take l.row-index l.row-items))
