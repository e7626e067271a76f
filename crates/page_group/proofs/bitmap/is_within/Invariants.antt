use Rattle.std.proofs.Common.{◌≡◌, ℕ, ◌<◌, bit_or, get_or}
use Rattle.page_group.proofs.bitmap.is_within.Given as goal

abbrev pub invariant-loop-index : goal.invariant-loop-index
invariant-loop-index l = (k : ℕ) → k < l.index → bit_or (get_or l.words k 0) (get_or l.others k 0) ≡ get_or l.others k 0
