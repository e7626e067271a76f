use Rattle.std.proofs.Common.{◌≡◌, ℕ, ◌<◌, ◌≤◌, bit_and, get_or}
use Rattle.page_group.proofs.bitmap.share_bit.Given as goal

abbrev pub invariant-loop-index : goal.invariant-loop-index
invariant-loop-index l = (k : ℕ) → l.first ≤ k → k < l.index → bit_and (get_or l.words k 0) (get_or l.others k 0) ≡ 0
