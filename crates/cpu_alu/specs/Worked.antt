-- Values and flags computed from the definitions. Worked examples alone cite it.
use Rattle.std.specs.Prelude.{◌≡◌, Bool, true, false}
use Rattle.cpu_alu.specs.declared.operation.Width.TheVariants.{W8, W32, W64}
use Rattle.cpu_alu.specs.declared.operation.AluOp.TheVariants.{Add, Shl, Shr}
use Rattle.cpu_alu.specs.declared.flag_word.Flags.{Flags}
use Rattle.cpu_alu.specs.Arithmetic.{arithmetic}

-- the six flags, with no other bit
abbrev pub flags : Bool → Bool → Bool → Bool → Bool → Bool → Flags
flags cf pf af zf sf of = record { cf = cf; pf = pf; af = af; zf = zf; sf = sf; of = of; rest = 0 }

-- no flag is set
abbrev pub none : Flags
none = flags false false false false false false

-- a carry into the sign, a sign that is shifted out, a shift by the width, and a count that is masked to zero
pub record AreComputed : Type 0 where
  pub carry_into_the_sign : arithmetic Add W8 0x7f 1 none ≡ record { value = 0x80; flags = flags false false true false true true; undefined = 0 }
  pub sign_shifted_out : arithmetic Shl W32 0x8000_0001 1 none ≡ record { value = 2; flags = flags true false false false false true; undefined = 0x04 }
  pub shifted_by_the_width : arithmetic Shl W8 1 8 none ≡ record { value = 0; flags = flags false true false true false false; undefined = 0x25 }
  pub masked_count_is_zero : arithmetic Shr W64 1 64 (flags true false false false false false) ≡ record { value = 1; flags = flags true false false false false false; undefined = 0 }
