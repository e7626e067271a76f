use Rattle.std.proofs.Common.{◌≡◌, ◌++◌, drop, map}
use Rattle.std.specs.List.{AllByRecursion}
use Rattle.loader_form.specs.Stub.{records_of}
use Rattle.loader_form.specs.Laid.{run_of, RecordFits}
use Rattle.loader_form.proofs.stub.push_records.Given as goal

abbrev pub invariant-loop-run : goal.invariant-loop-run
invariant-loop-run l =
    AllByRecursion (RecordFits l.at) (drop l.run-index l.runs) × (l.out.items ++ records_of (map (run_of l.at) (drop l.run-index l.runs)) ≡ l.initial.out.items ++ records_of (map (run_of l.at) l.runs))
