use Rattle.std.proofs.Common.{◌≡◌, ℕ, ◌<◌, ◌≤◌, bit_or, get_or}
use Rattle.page_group.proofs.bitmap.join.Given as goal

abbrev pub invariant-loop-place : goal.invariant-loop-place
invariant-loop-place l = record {
  joined : (k : ℕ) → k < l.place → get_or l.words k 0 ≡ bit_or (get_or l.initial.words k 0) (get_or l.others k 0);
  kept : (k : ℕ) → l.place ≤ k → get_or l.words k 0 ≡ get_or l.initial.words k 0;
}
