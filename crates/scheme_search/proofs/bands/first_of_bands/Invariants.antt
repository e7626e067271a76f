use Rattle.std.proofs.Common.{◌≡◌, ℕ, ◌+◌, ◌-◌, ◌*◌, ◌<◌, ◌≤◌}
use Rattle.scheme_search.specs.Bands.{IsOpenAt}
use Rattle.scheme_search.specs.Shared.{FitsWay}
use Rattle.scheme_search.proofs.bands.first_of_bands.Given as goal

abbrev pub invariant-loop-band : goal.invariant-loop-band
invariant-loop-band l = record {
  some : l.x < l.best;
  top : l.best ≤ l.to;
  near : l.best ≤ l.x + l.way.step;
  found : l.best < l.to → (t : ℕ) × FitsWay l.space.taken l.way l.best t;
  whole : (i : ℕ) × (l.band ≡ i * l.way.step);
  none : (k y : ℕ) → k * l.way.step < l.band → l.x ≤ y → y < l.best → IsOpenAt l.space.taken l.way (k * l.way.step + y) → ⊥;
}

abbrev pub decreases-loop-band : goal.decreases-loop-band
decreases-loop-band l = l.end - l.band
