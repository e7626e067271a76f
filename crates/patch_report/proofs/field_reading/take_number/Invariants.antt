use Rattle.std.proofs.Common.{◌≡◌, length}
use Rattle.patch_report.specs.Fields.{number_before, rest_before}
use Rattle.patch_report.proofs.field_reading.take_number.Given as goal

abbrev pub invariant-loop-digit : goal.invariant-loop-digit
invariant-loop-digit l = rest_before l.mark l.number l.left ≡ number_before l.mark l.fn.text

abbrev pub decreases-loop-digit : goal.decreases-loop-digit
decreases-loop-digit l = length l.left
