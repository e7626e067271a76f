-- When a condition holds of registers. Theorems cite it.
use Rattle.std.specs.Prelude.{ℕ, ◌<◌, Bool, true, not, nat_le, nat_lt, ◌&&◌, ◌==◌, List, [], ◌∷◌, slice_index}
use Rattle.pun_base.specs.declared.action.CompareOp.{CompareOp}
use Rattle.pun_base.specs.declared.action.CompareOp.TheVariants.{Eq, Ne, Lt, Le, Gt, Ge}
use Rattle.pun_base.specs.declared.action.Comparison.{Comparison}
use Rattle.pun_base.specs.declared.action.Comparisons.{Comparisons}
use Rattle.pun_base.specs.Actions.{listed}

-- numbers without sign
abbrev pub compares : CompareOp → ℕ → ℕ → Bool
compares Eq x n = x == n
compares Ne x n = not (x == n)
compares Lt x n = nat_lt x n
compares Le x n = nat_le x n
compares Gt x n = nat_lt n x
compares Ge x n = nat_le n x

-- all of them hold of the registers, which are listed by their codes
abbrev pub all_hold : List Comparison → List ℕ → Bool
all_hold [] regs = true
all_hold (c ∷ cs) regs = compares c.op (slice_index regs c.reg) c.value && all_hold cs regs

-- a condition holds of the registers
abbrev pub holds : Comparisons → List ℕ → Bool
holds list regs = all_hold (listed list) regs

-- each names one of the sixteen registers
abbrev pub NameRegisters : List Comparison → Type 0
NameRegisters [] = Unit {0}
NameRegisters (c ∷ cs) = (c.reg < 16) × NameRegisters cs
