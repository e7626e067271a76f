-- The first pick by its shared value: at a value that has one, or after a value that has none.
use Rattle.std.proofs.Common.{◌≡◌, ℕ, ◌+◌, ◌<◌, ◌≤◌, inl, inr, List, Option, Some, None, arith}
use Rattle.std.proofs.lemmas.Bool.{cases_lt}
use Rattle.address_space.specs.declared.extent.Extent.{Extent}
use Rattle.scheme_search.specs.declared.shared.Way.{Way}
use Rattle.scheme_search.specs.declared.shared.Pick.{Pick}
use Rattle.scheme_search.specs.Order.{IsFirstBy, FirstBy, by, then_by}
use Rattle.scheme_search.specs.Shared.{FitsWay, IsPick, IsPickIn, x_of, first_of, second_of, pick_order}
use Rattle.scheme_search.proofs.FirstChoice.{first_at}

module _ (taken : List Extent) (a b : Way) (x : ℕ) where
  -- A pick with the shared value x.
  abbrev pub PickAt : Pick → Type 0
  PickAt p = IsPick taken a b p × (x_of p ≡ x)

-- No good pick has a value that a step of the search passes over.
pub passed : (taken : List Extent) (a b : Way) (x n : ℕ) → ((y t u : ℕ) → x ≤ y → y < n → FitsWay taken a y t → FitsWay taken b y u → ⊥)
    → (q : Pick) → IsPick taken a b q → x ≤ q.x → n ≤ q.x
passed taken a b x n none q good low = elim (cases_lt q.x n) [
  | inl lt ↦ absurd (none q.x q.first q.second low lt good.first good.second)
  | inr ge ↦ ge
]

-- Where the value x has no pick, picks have a greater one.
pub one_more : (taken : List Extent) (a b : Way) (x : ℕ) → ((q : Pick) → IsPick taken a b q × (x_of q ≡ x) → ⊥) → (q : Pick)
    → IsPick taken a b q → x ≤ q.x → x + 1 ≤ q.x
one_more taken a b x none q good low = elim (cases_lt x q.x) [
  | inl lt ↦ omega arith
  | inr ge ↦ absurd (none q (good, omega arith))
]

module _ (taken : List Extent) (a b : Way) (from to x : ℕ) (low : from ≤ x) (high : x < to)
    (below : (q : Pick) → IsPickIn taken a b from to q → x ≤ q.x) where
  -- Where no pick has a lesser value, the first pick of a value is the first of all.
  pub pick_here : (p : Pick) → IsFirstBy (then_by first_of (by second_of)) (PickAt taken a b x) p
      → IsFirstBy pick_order (IsPickIn taken a b from to) p
  pick_here p h = first_at x_of (then_by first_of (by second_of)) (IsPickIn taken a b from to) x p below (record {
    good = (
      record { pick = h.good.0; above = omega (arith, low, h.good.1); below = omega (arith, high, h.good.1) },
      h.good.1,
    );
    first = λ q g. h.first q (g.0.pick, g.1);
  })

  module _ (none : (q : Pick) → PickAt taken a b x q → ⊥) where
    -- Where that value has none either, each pick has a later one.
    later : (q : Pick) → IsPickIn taken a b from to q → IsPickIn taken a b (x + 1) to q
    later q g = record { pick = g.pick; above = one_more taken a b x none q g.pick (below q g); below = g.below }

    -- Where a value has no pick, the first one after it is the first of all.
    pub pick_behind : (answer : Option Pick) → FirstBy pick_order (IsPickIn taken a b (x + 1) to) answer
        → FirstBy pick_order (IsPickIn taken a b from to) answer
    pick_behind None f = λ q g. f q (later q g)
    pick_behind (Some p) f = record {
      good = record { pick = f.good.pick; above = omega (arith, low, f.good.above); below = f.good.below };
      first = λ q g. f.first q (later q g);
    }
