-- Where stub and save page stand, and how many runs the stub maps, as clauses see it. Theorems cite it.
use Rattle.std.specs.Prelude.{ℕ}
use Rattle.pun_base.specs.declared.range.Range.{Range}

-- the ranges of stub and save page, and the number of runs
pub record LoaderState : Type 0 where
  pub stub : Range
  pub save : Range
  pub runs : ℕ
