use Rattle.std.proofs.Common.{◌≡◌, ◌≤◌, length, take}
use Rattle.patch_report.proofs.row.copied_tramps.Given as goal

abbrev pub invariant-loop-tramp : goal.invariant-loop-tramp
invariant-loop-tramp l = (l.list ≡ take l.tramp-index l.items) × (length l.list ≡ l.tramp-index) × (length l.items ≤ 2)
