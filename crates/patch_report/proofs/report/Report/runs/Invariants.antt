use Rattle.std.proofs.Common.{◌≡◌, map, take}
use Rattle.std.specs.List.{flat_map}
use Rattle.patch_report.specs.Runs.{runs_of}
use Rattle.patch_report.specs.Values.{row_value, write_value}
use Rattle.patch_report.proofs.report.Report.runs.Given as goal

abbrev pub invariant-loop-row : goal.invariant-loop-row
invariant-loop-row l = map write_value l.runs.items ≡ flat_map (λ r. runs_of r.outcome) (map row_value (take l.row-index l.row-items))
