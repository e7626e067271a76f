-- Bytes that are held one after the other. Contracts of private functions alone cite it.
use Rattle.std.specs.Prelude.{◌≡◌, ℕ, true, List, [], ◌∷◌}
use Rattle.pun_base.specs.Memory.{Bytes}
use Rattle.cpu_state.specs.Bytes.{advanced, allows, byte_of}

-- from an address on these bytes are held, each with a permission
abbrev pub AreHeld : ℕ → Bytes → ℕ → List ℕ → Type 0
AreHeld p m a [] = Unit {0}
AreHeld p m a (b ∷ bs) = (allows p (m a) ≡ true) × (byte_of (m a) ≡ b) × AreHeld p m (advanced a 1) bs
