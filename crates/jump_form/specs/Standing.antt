-- Jumps that stand in memory. Theorems cite it.
-- Memory is what stands at each address, as far as bytes stand there.
use Rattle.std.specs.Prelude.{◌≡◌, ℕ, ℤ, pos, ◌+◌, ◌/◌, ◌%◌, ◌^◌, ◌<◌, ◌+ℤ◌, ◌↔◌, List, [], ◌∷◌, Option, Some}
use Rattle.jump_form.specs.Jumps.{signed, IsJump}

-- The bytes stand from an address on.
abbrev pub Stands : (ℕ → Option ℕ) → ℕ → List ℕ → Type 0
Stands memory at [] = Unit {0}
Stands memory at (b ∷ bs) = (memory at ≡ Some b) × Stands memory (at + 1) bs

-- A jump to the target stands at an address: the pads, then E9, then the bytes of a displacement, the lowest first.
pub record JumpStands (memory : ℕ → Option ℕ) (at pads pad : ℕ) (target : ℤ) : Type 0 where
  pub padded : (k : ℕ) → k < pads → memory (at + k) ≡ Some pad
  pub opcode : memory (at + pads) ≡ Some 0xE9
  pub displacement : ℕ
  pub fits : displacement < 2 ^ 32
  pub bytes : (k : ℕ) → k < 4 → memory (at + pads + 1 + k) ≡ Some (displacement / 256 ^ k % 256)
  pub leads : target ≡ pos (at + pads + 5) +ℤ signed displacement

-- A spelled jump stands at its address exactly where its bytes stand.
abbrev pub JumpsStand : Type 0
JumpsStand =
    (memory : ℕ → Option ℕ) (at pads pad : ℕ) (target : ℤ) (bytes : List ℕ) → IsJump at pads pad target bytes
    → Stands memory at bytes ↔ JumpStands memory at pads pad target

-- One list of bytes spells a jump.
abbrev pub OneSpelling : Type 0
OneSpelling =
    (at pads pad : ℕ) (target : ℤ) (xs ys : List ℕ) → IsJump at pads pad target xs → IsJump at pads pad target ys → xs ≡ ys
