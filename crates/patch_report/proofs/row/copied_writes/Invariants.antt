use Rattle.std.proofs.Common.{◌≡◌, ◌≤◌, length, take}
use Rattle.patch_report.proofs.row.copied_writes.Given as goal

abbrev pub invariant-loop-write : goal.invariant-loop-write
invariant-loop-write l = (l.list ≡ take l.write-index l.items) × (length l.list ≡ l.write-index) × (length l.items ≤ 3)
