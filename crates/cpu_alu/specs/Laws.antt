-- Laws of arithmetic and of the flags word. Theorems cite it.
use Rattle.std.specs.Prelude.{◌≡◌, ℕ, ◌<◌, ◌^◌, true, false, ◌==◌, nat_lt, int_lt, bit_and}
use Rattle.cpu_alu.specs.declared.operation.Width.{Width}
use Rattle.cpu_alu.specs.declared.operation.AluOp.{AluOp}
use Rattle.cpu_alu.specs.declared.operation.AluOp.TheVariants.{Sub, Xor, Inc, Dec, Neg}
use Rattle.cpu_alu.specs.declared.flag_word.Flags.{Flags}
use Rattle.cpu_alu.specs.declared.outcome.AluOut.{AluOut}
use Rattle.cpu_alu.specs.Widths.{bits, cut, signed}
use Rattle.cpu_alu.specs.Arithmetic.{arithmetic, differ}
use Rattle.cpu_alu.specs.FlagWord.{places, is_set, packed, unpacked}

-- the value is of the width, and the mask has six bits
pub record Fits (w : Width) (o : AluOut) : Type 0 where
  pub value : o.value < 2 ^ bits w
  pub undefined : o.undefined < 2 ^ 6

-- so it is of each operation
abbrev pub AllFit : Type 0
AllFit = (op : AluOp) (w : Width) (a b : ℕ) (f : Flags) → Fits w (arithmetic op w a b f)

-- a flag in the mask is false
pub record Hides (o : AluOut) : Type 0 where
  pub cf : is_set o.undefined 0 ≡ true → o.flags.cf ≡ false
  pub pf : is_set o.undefined 1 ≡ false
  pub af : is_set o.undefined 2 ≡ true → o.flags.af ≡ false
  pub zf : is_set o.undefined 3 ≡ false
  pub sf : is_set o.undefined 4 ≡ false
  pub of : is_set o.undefined 5 ≡ true → o.flags.of ≡ false

-- so it is of each operation
abbrev pub AllHide : Type 0
AllHide = (op : AluOp) (w : Width) (a b : ℕ) (f : Flags) → Hides (arithmetic op w a b f)

-- the word's other bits stay
abbrev pub KeepsRest : Type 0
KeepsRest = (op : AluOp) (w : Width) (a b : ℕ) (f : Flags) → (arithmetic op w a b f).flags.rest ≡ f.rest

-- of the operands the low bits count, and of the second nothing for inc, dec and neg
pub record ReadsLowBits : Type 0 where
  pub both : (op : AluOp) (w : Width) (a b : ℕ) (f : Flags) → arithmetic op w (cut w a) (cut w b) f ≡ arithmetic op w a b f
  pub inc : (w : Width) (a b c : ℕ) (f : Flags) → arithmetic Inc w a b f ≡ arithmetic Inc w a c f
  pub dec : (w : Width) (a b c : ℕ) (f : Flags) → arithmetic Dec w a b f ≡ arithmetic Dec w a c f
  pub neg : (w : Width) (a b c : ℕ) (f : Flags) → arithmetic Neg w a b f ≡ arithmetic Neg w a c f

-- a number xor itself: 0, whatever the number
abbrev pub IsCleared : Type 0
IsCleared = (w : Width) (a : ℕ) (f : Flags) → arithmetic Xor w a a f ≡ record {
  value = 0;
  flags = record { cf = false; pf = true; af = false; zf = true; sf = false; of = false; rest = f.rest };
  undefined = 4;
}

-- what the flags of a difference tell of its operands (Intel SDM, volume 1, appendix B, conditions B, E and L)
pub record Compares (w : Width) (a b : ℕ) (o : AluOut) : Type 0 where
  pub below : o.flags.cf ≡ nat_lt (cut w a) (cut w b)
  pub equal : o.flags.zf ≡ (cut w a == cut w b)
  pub less : differ o.flags.sf o.flags.of ≡ int_lt (signed w (cut w a)) (signed w (cut w b))

-- so they do of each difference
abbrev pub AllCompare : Type 0
AllCompare = (w : Width) (a b : ℕ) (f : Flags) → Compares w a b (arithmetic Sub w a b f)

-- a packed word has the six flags from the fields, and every other bit from rest
pub record HasBits (f : Flags) (word : ℕ) : Type 0 where
  pub cf : is_set word 0 ≡ f.cf
  pub pf : is_set word 2 ≡ f.pf
  pub af : is_set word 4 ≡ f.af
  pub zf : is_set word 6 ≡ f.zf
  pub sf : is_set word 7 ≡ f.sf
  pub of : is_set word 11 ≡ f.of
  pub others : (place : ℕ) → place < 64 → is_set places place ≡ false → is_set word place ≡ is_set f.rest place

-- so has each packed word
abbrev pub AllPacked : Type 0
AllPacked = (f : Flags) → HasBits f (packed f)

-- what was packed is unpacked where rest has none of the six bits
abbrev pub IsUnpackedBack : Type 0
IsUnpackedBack = (f : Flags) → f.rest < 2 ^ 64 → bit_and f.rest places ≡ 0 → unpacked (packed f) ≡ f

-- what was unpacked is packed
abbrev pub IsPackedBack : Type 0
IsPackedBack = (word : ℕ) → word < 2 ^ 64 → packed (unpacked word) ≡ word
