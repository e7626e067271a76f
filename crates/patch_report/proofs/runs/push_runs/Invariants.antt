use Rattle.std.proofs.Common.{◌≡◌, ◌++◌, map, take}
use Rattle.patch_report.specs.Values.{write_value}
use Rattle.patch_report.proofs.runs.push_runs.Given as goal

abbrev pub invariant-loop-run : goal.invariant-loop-run
invariant-loop-run l =
    map write_value l.runs.items ≡ map write_value l.initial.runs.items ++ map write_value (take l.run-index l.run-items)
