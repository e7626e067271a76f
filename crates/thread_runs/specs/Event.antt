-- The comparisons under which an event of guest threads marks, and the bytes with which it does. Theorems cite it.
use Rattle.std.specs.Prelude.{ℕ, ◌+◌, ◌%◌, ◌^◌, ◌≤◌, List, [], ◌∷◌, length}
use Rattle.pun_base.specs.Memory.{Bytes}
use Rattle.pun_base.specs.declared.action.Base.{Base}
use Rattle.pun_base.specs.declared.action.Base.TheVariants.{Cover, Count}
use Rattle.pun_base.specs.declared.action.Comparison.{Comparison}
use Rattle.pun_base.specs.Actions.{AreComparisons}
use Rattle.cpu_state.specs.Bytes.{number_at, bytes_of}

-- the comparisons of a condition, or none: up to three that can be asked for
pub record AreFew (cs : List Comparison) : Type 0 where
  pub asked : AreComparisons cs
  pub few : length cs ≤ 3

-- the bytes that are marked: the counter rises by one, or the site's byte is 1
abbrev pub marks_with : Base → ℕ → Bytes → List ℕ
marks_with Cover a m = 1 ∷ []
marks_with Count a m = bytes_of 8 ((number_at m a 8 + 1) % 2 ^ 64)
