-- Actions: which can be asked for, and how many bytes of the private range each needs. Theorems cite it.
use Rattle.std.specs.Prelude.{ℕ, ◌+◌, ◌*◌, ◌^◌, ◌<◌, ◌≤◌, List, [], ◌∷◌}
use Rattle.pun_base.specs.declared.action.Action.{Action}
use Rattle.pun_base.specs.declared.action.Action.TheVariants.{Cover, Count, Ring, When}
use Rattle.pun_base.specs.declared.action.Base.{Base}
use Rattle.pun_base.specs.declared.action.Base.TheVariants as base
use Rattle.pun_base.specs.declared.action.Comparison.{Comparison}
use Rattle.pun_base.specs.declared.action.Comparisons.{Comparisons}
use Rattle.pun_base.specs.declared.action.Comparisons.TheVariants.{One, Two, Three}

-- the comparisons in order
abbrev pub listed : Comparisons → List Comparison
listed (One a) = a ∷ []
listed (Two a b) = a ∷ b ∷ []
listed (Three a b c) = a ∷ b ∷ c ∷ []

-- comparisons that can be asked for: of one of the sixteen registers with a number of 31 bits, which as an
-- immediate operand of 32 bits is its own sign extension
abbrev pub AreComparisons : List Comparison → Type 0
AreComparisons [] = Unit {0}
AreComparisons (c ∷ cs) = (c.reg < 16) × (c.value < 2 ^ 31) × AreComparisons cs

-- an action that can be asked for
abbrev pub IsAction : Action → Type 0
IsAction Cover = Unit {0}
IsAction Count = Unit {0}
IsAction (Ring len) = (1 ≤ len) × (len ≤ 65536)
IsAction (When b list) = AreComparisons (listed list)

-- how many bytes the private range needs for n sites: 64 in front, and a byte for each site, or eight
abbrev pub base_len : Base → ℕ → ℕ
base_len base.Cover n = 64 + n
base_len base.Count n = 64 + 8 * n

-- or four for a ring's position and for each of its slots
abbrev pub private_len : Action → ℕ → ℕ
private_len Cover n = 64 + n
private_len Count n = 64 + 8 * n
private_len (Ring len) n = 68 + 4 * len
private_len (When b list) n = base_len b n

-- those in front are always there
abbrev pub HasFront : Type 0
HasFront = (action : Action) (n : ℕ) → 64 ≤ private_len action n
