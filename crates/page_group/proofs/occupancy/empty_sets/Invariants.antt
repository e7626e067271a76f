use Rattle.std.proofs.Common.{◌≡◌, ℕ, ◌<◌, false, length, get_or}
use Rattle.page_group.specs.declared.offsets.Offsets.{Offsets}
use Rattle.page_group.specs.Occupancy.{has}
use Rattle.page_group.proofs.occupancy.empty_sets.Given as goal

abbrev pub invariant-loop : goal.invariant-loop
invariant-loop l = record {
  size : length l.sets.items ≡ l.counter;
  empty : (place k : ℕ) (d : Offsets) → place < l.counter → has (get_or l.sets.items place d) k ≡ false;
}
