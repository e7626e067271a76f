-- JMP rel32, E9 cd, with REX prefixes before it, which change nothing. Theorems cite it.
-- (Intel SDM volume 2, JMP, and section 2.2.1.)
use Rattle.std.specs.Prelude.{◌≡◌, ℕ, ℤ, pos, ◌+◌, ◌<◌, ◌≤◌, ◌^◌, ◌+ℤ◌, ◌-ℤ◌, nat_lt, if◌then◌else◌, List, ◌∷◌, ◌++◌, length, replicate}
use Rattle.std.specs.List.{AllByRecursion}
use Rattle.pun_base.specs.Field.{field}

-- A number of 32 bits with its sign: two's complement.
abbrev pub signed : ℕ → ℤ
signed n = if nat_lt n (2 ^ 31) then pos n else pos n -ℤ pos (2 ^ 32)

-- Each is a number of eight bits.
abbrev pub AreBytes : List ℕ → Type 0
AreBytes bytes = AllByRecursion (λ b. b < 256) bytes

-- Four bytes, the lowest first, are the displacement from the address of the next instruction to the target.
pub record IsDisplacement (next : ℕ) (target : ℤ) (bytes : List ℕ) : Type 0 where
  pub four : length bytes ≡ 4
  pub small : AreBytes bytes
  pub leads : target ≡ pos next +ℤ signed (field 4 0 bytes)

-- The bytes spell a jump to the target where they stand at an address: so many pads, E9 and the displacement.
pub record IsJump (at pads pad : ℕ) (target : ℤ) (bytes : List ℕ) : Type 0 where
  pub few : pads ≤ 10
  pub rex : (0x40 ≤ pad) × (pad ≤ 0x4F)
  pub displacement : List ℕ
  pub spelled : bytes ≡ replicate pads pad ++ 0xE9 ∷ displacement
  pub leads : IsDisplacement (at + pads + 5) target displacement
