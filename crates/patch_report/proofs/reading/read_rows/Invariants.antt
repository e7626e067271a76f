use Rattle.std.proofs.Common.{◌≡◌, ◌-◌, [], map}
use Rattle.patch_report.specs.Reading.{rows_at}
use Rattle.patch_report.specs.Values.{row_value}
use Rattle.patch_report.specs.Views.{at_value}
use Rattle.patch_report.proofs.reading.read_rows.Given as goal

abbrev pub invariant-loop-turn : goal.invariant-loop-turn
invariant-loop-turn l = rows_at l.version (l.count - l.turn) (map row_value l.rows) (at_value l.later)
    ≡ rows_at l.version l.count [] (at_value l.fn.at)
