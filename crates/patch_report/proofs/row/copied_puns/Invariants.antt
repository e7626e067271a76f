use Rattle.std.proofs.Common.{◌≡◌, ◌≤◌, length, take}
use Rattle.patch_report.proofs.row.copied_puns.Given as goal

abbrev pub invariant-loop-pun : goal.invariant-loop-pun
invariant-loop-pun l = (l.list ≡ take l.pun-index l.items) × (length l.list ≡ l.pun-index) × (length l.items ≤ 3)
