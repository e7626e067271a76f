use Rattle.std.proofs.Common.{◌≡◌, ◌<◌, ◌^◌, drop, map, None, IfSome}
use Rattle.patch_report.specs.Values.{write_value}
use Rattle.unpatch.specs.Refusals.{least_from, new_bytes}
use Rattle.unpatch.proofs.missing.least_missing.Given as goal

abbrev pub invariant-loop-run : goal.invariant-loop-run
invariant-loop-run l =
    (least_from l.patched.bytes (new_bytes (map write_value (drop l.run-index l.runs))) l.least
    ≡ least_from l.patched.bytes (new_bytes (map write_value l.runs)) None)
    × IfSome l.least (λ a. a < 2 ^ 32)
