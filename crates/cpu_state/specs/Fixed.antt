-- Code that stays: it is executable and can't be written. Theorems cite it.
use Rattle.std.specs.Prelude.{◌≡◌, ℕ, true, false, List, [], ◌∷◌}
use Rattle.pun_base.specs.Memory.{Bytes}
use Rattle.cpu_state.specs.Bytes.{advanced, allows, byte_of}

-- from an address on these bytes stand, each of them executable and not writable
abbrev pub IsFixed : Bytes → ℕ → List ℕ → Type 0
IsFixed m a [] = Unit {0}
IsFixed m a (b ∷ bs) = (allows 1 (m a) ≡ true) × (allows 2 (m a) ≡ false) × (byte_of (m a) ≡ b) × IsFixed m (advanced a 1) bs
