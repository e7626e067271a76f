-- States that are worked out: registers, and a private range.
use Rattle.std.proofs.Common.{◌≡◌, ℕ, zero, suc, ◌<◌, ◌^◌, Bool, cond, Option, true, ◌∷◌, replicate, None, Some, ap, ◌∙◌, arith}
use Rattle.std.specs.Prelude.{slice_index}
use Rattle.pun_base.specs.Memory.{Cell, or_else}
use Rattle.cpu_state.specs.Bytes.{allows}

-- A register that is zero has 64 bits.
pub small_zeros : (n r : ℕ) → slice_index (replicate n 0) r < 2 ^ 64
small_zeros zero r = omega arith
small_zeros (suc n) zero = omega arith
small_zeros (suc n) (suc r) = small_zeros n r

-- So have sixteen registers, of which the first is 7 and the others are zero.
pub small_registers : (r : ℕ) → slice_index (7 ∷ replicate 15 0) r < 2 ^ 64
small_registers zero = omega arith
small_registers (suc r) = small_zeros 15 r

-- A range of memory allows what its permissions do.
pub range_allows : (p : ℕ) (c : Cell) → allows p (Some c) ≡ true → (b : Bool) → b ≡ true → (rest : Option Cell)
    → allows p (or_else (cond b (Some c) None) rest) ≡ true
range_allows p c h b k rest = ap (λ (z : Bool). allows p (or_else (cond z (Some c) None) rest)) k ∙ h
