-- Where jumps can lead when some bytes of their displacement are given. Theorems cite it.
use Rattle.std.specs.Prelude.{◌≡◌, ℕ, ℤ, zero, suc, pos, ◌+◌, ◌*◌, ◌^◌, ◌<◌, ◌≤◌, ◌+ℤ◌, ◌↔◌, List, [], ◌∷◌, ◌++◌, length, replicate}
use Rattle.pun_base.specs.Field.{field}
use Rattle.jump_form.specs.Jumps.{AreBytes, signed, IsDisplacement, IsJump}

-- The target is allowed: some bytes in place of the free ones, between the fixed low and high ones, lead to it.
abbrev pub IsAllowed : ℕ → List ℕ → ℕ → List ℕ → ℤ → Type 0
IsAllowed next low free high target = (bytes : List ℕ) × (length bytes ≡ free) × IsDisplacement next target (low ++ (bytes ++ high))

-- A target is allowed exactly where some bytes in place of the free ones make the whole a spelled jump to it.
abbrev pub AllowedJumps : Type 0
AllowedJumps =
    (at pads pad free : ℕ) (low high : List ℕ) (target : ℤ) → pads ≤ 10 → (0x40 ≤ pad) × (pad ≤ 0x4F)
    → IsAllowed (at + pads + 5) low free high target
    ↔ ((bytes : List ℕ) × (length bytes ≡ free) × IsJump at pads pad target (replicate pads pad ++ 0xE9 ∷ (low ++ (bytes ++ high))))

-- The free bytes of the lowest displacement: zeros, but 0x80 where the sign stands in a free byte.
abbrev pub filler : ℕ → List ℕ → List ℕ
filler zero high = []
filler (suc n) [] = replicate n 0 ++ 0x80 ∷ []
filler (suc n) (b ∷ bs) = replicate (suc n) 0

-- The lowest displacement between fixed low and high bytes.
abbrev pub lowest_displacement : List ℕ → ℕ → List ℕ → ℤ
lowest_displacement low free high = signed (field 4 0 (low ++ (filler free high ++ high)))

-- The allowed targets begin with the lowest, lie 256 to the number of low bytes apart, and are as many as the free bytes have
-- values.
abbrev pub AllowedTargets : Type 0
AllowedTargets =
    (next free : ℕ) (low high : List ℕ) (target : ℤ) → length low + free + length high ≡ 4 → AreBytes low → AreBytes high
    → IsAllowed next low free high target
    ↔ ((k : ℕ) × (k < 256 ^ free) × (target ≡ (pos next +ℤ lowest_displacement low free high) +ℤ pos (k * 256 ^ length low)))
