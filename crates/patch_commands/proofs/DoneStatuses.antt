-- Statuses of patches that did their work.
use Rattle.std.proofs.Common.{◌≤◌, Bool, true, false, if◌then◌else◌, List, arith}
use Rattle.patch_report.specs.Values.{RowValue}
use Rattle.patch_commands.specs.Answers.{IsDone}
use Rattle.command_io.specs.Summary.{done_status}

either_low : (b : Bool) → (if b then 0 else 1) ≤ 1
either_low true = omega arith
either_low false = omega arith

-- a patch that did its work is done
pub end_done : (rows : List RowValue) → IsDone (done_status rows)
end_done rows = either_low _
