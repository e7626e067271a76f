-- Shared values that are marked. Contracts of private functions alone cite it.
use Rattle.std.specs.Prelude.{ℕ, ◌*◌, ◌<◌, ◌≤◌, ◌^◌, List, length}
use Rattle.address_space.specs.declared.extent.Extent.{Extent}
use Rattle.address_space.specs.Marks.{IsMarked}
use Rattle.scheme_search.specs.declared.shared.Way.{Way}
use Rattle.scheme_search.specs.declared.marked.Marks.{Marks}
use Rattle.scheme_search.specs.Shared.{FitsWay, IsWay}

-- From the value x up to and without `next`, which is at most `to`, no marked value leaves the jump a free target.
pub record PassesMarked (taken : List Extent) (w : Way) (words : List ℕ) (x to next : ℕ) : Type 0 where
  pub least : x ≤ next
  pub most : next ≤ to
  pub none : (y t : ℕ) → x ≤ y → y < next → FitsWay taken w y t → IsMarked words y → ⊥

-- Each value before `to` that leaves both jumps a free target is marked, and leaves the jump that the marks don't tell of one.
pub record AreMarks (taken : List Extent) (a b : Way) (to : ℕ) (m : Marks) : Type 0 where
  pub way : IsWay m.way to
  pub few : (to ≤ 64 * length m.words.now) × (to ≤ 2 ^ 32)
  pub both : (y t u : ℕ) → y < to → FitsWay taken a y t → FitsWay taken b y u → ((v : ℕ) × FitsWay taken m.way y v) × IsMarked m.words.now y
