-- What a processor's registers are, and what the world gives to them: numbers of 64 bits. Theorems cite it.
-- (Intel SDM, volume 1, section 3.4.1.1.)
use Rattle.std.specs.Prelude.{◌≡◌, ℕ, ◌^◌, ◌<◌, List, [], ◌∷◌, length, Option, IfSome, slice_index}
use Rattle.cpu_state.specs.declared.state.Core.{Core}
use Rattle.cpu_state.specs.declared.world.Entry.{Entry}

-- sixteen registers of 64 bits
pub record IsProcessorCore (c : Core) : Type 0 where
  pub count : length c.regs ≡ 16
  pub small : (r : ℕ) → slice_index c.regs r < 2 ^ 64

-- each number that is given has 64 bits
abbrev pub AreWords : List (Option ℕ) → Type 0
AreWords [] = Unit {0}
AreWords (o ∷ os) = IfSome o (λ v. v < 2 ^ 64) × AreWords os

-- so has each that an answer gives to a register
abbrev pub GiveWords : List Entry → Type 0
GiveWords [] = Unit {0}
GiveWords (e ∷ es) = AreWords e.answer.regs × GiveWords es
