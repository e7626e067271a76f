-- The jump behind a comparison is taken exactly where the comparison fails.
use Rattle.std.proofs.Common.{◌≡◌, ℕ, ◌%◌, ◌^◌, ◌<◌, ◌≤◌, not, eqb, ◌&&◌, ◌||◌, ap, ◌∙◌, arith}
use Rattle.std.specs.Prelude.{nat_lt}
use Rattle.std.proofs.lemmas.Bool.Decides.{nat_tests}
use Rattle.pun_base.specs.declared.action.CompareOp.{CompareOp}
use Rattle.pun_base.specs.declared.action.CompareOp.TheVariants.{Eq, Ne, Lt, Le, Gt, Ge}
use Rattle.cpu_alu.specs.declared.operation.Width.TheVariants.{W64, W32}
use Rattle.cpu_alu.specs.declared.flag_word.Flags.{Flags}
use Rattle.cpu_alu.proofs.DifferenceFlags.{compared}
use Rattle.insn_form.specs.Conditions.{is_met}
use Rattle.cond_action.specs.Conditions.{compares}
use Rattle.cond_action.specs.Codes.{failing}
use Rattle.cpu_alu.specs.declared.operation.AluOp.TheVariants.{Sub}
use Rattle.cpu_alu.specs.Arithmetic.{arithmetic}

-- the flags of a difference
abbrev pub flags_32 : ℕ → ℕ → Flags → Flags
flags_32 x n f = (arithmetic Sub W32 (x % 2 ^ 32) n f).flags

-- the same of numbers of 64 bits
abbrev pub flags_64 : ℕ → ℕ → Flags → Flags
flags_64 x n f = (arithmetic Sub W64 (x % 2 ^ 64) n f).flags

-- The jump is taken exactly where the comparison fails, by the flags of a difference,
fails_by : (op : CompareOp) (x n : ℕ) (f : Flags) → f.cf ≡ nat_lt x n → f.zf ≡ eqb x n → is_met (failing op) f ≡ not (compares op x n)
unfolding is_met
fails_by Eq x n f b e = ap not e
fails_by Ne x n f b e = e ∙ grind (arith, nat_tests)
fails_by Lt x n f b e = ap not b
fails_by Le x n f b e = (λ j. not (b j) && not (e j)) ∙ grind (arith, nat_tests)
fails_by Gt x n f b e = (λ j. b j || e j) ∙ grind (arith, nat_tests)
fails_by Ge x n f b e = b ∙ grind (arith, nat_tests)

-- which CMP leaves.
pub fails : (op : CompareOp) (x n : ℕ) (f : Flags) → x < 2 ^ 64 → n < 2 ^ 31 → is_met (failing op) (flags_64 x n f) ≡ not (compares op x n)
fails op x n f h k =
    let a : x % 2 ^ 64 % 2 ^ 64 ≡ x = omega (arith, h) in
    let b : n % 2 ^ 64 ≡ n = omega (arith, k) in
    let q = compared W64 (x % 2 ^ 64) n f in
    fails_by op x n (flags_64 x n f) (q.below ∙ λ j. nat_lt (a j) (b j)) (q.equal ∙ λ j. eqb (a j) (b j))

-- the condition code of the jump behind a comparison is one of six
pub failing_low : (op : CompareOp) → (2 ≤ failing op) × (failing op < 8)
failing_low Eq = (omega arith, omega arith)
failing_low op = (omega arith, omega arith)
