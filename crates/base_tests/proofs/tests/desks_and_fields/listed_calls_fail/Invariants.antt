use Rattle.std.proofs.Common.{◌≡◌, None}
use Rattle.base_tests.proofs.tests.desks_and_fields.listed_calls_fail.Given as goal

abbrev pub invariant-loop-bytes : goal.invariant-loop-bytes
invariant-loop-bytes g l = l.desk.writing ≡ None
