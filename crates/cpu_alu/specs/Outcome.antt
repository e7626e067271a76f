-- The value, flags and undefined flags that an operation leaves (Intel SDM, volume 1, section 3.4.3.1). Theorems cite it.
use Rattle.std.specs.Prelude.{ℕ, ◌+◌, ◌%◌, ◌^◌, Bool, false, ◌==◌, Option, Some, None, count_ones}
use Rattle.cpu_alu.specs.declared.operation.Width.{Width}
use Rattle.cpu_alu.specs.declared.outcome.AluOut.{AluOut}
use Rattle.cpu_alu.specs.Widths.{is_negative}

-- PF: the low eight bits have an even number of ones
unfoldable pub is_even : ℕ → Bool
is_even v = count_ones (v % 256) % 2 == 0

-- a flag, an undefined one being false
abbrev pub told : Option Bool → Bool
told None = false
told (Some b) = b

-- a flag's bit in the mask of undefined flags: 0 for CF, 2 for AF, 5 for OF
abbrev pub missing : ℕ → Option Bool → ℕ
missing place None = 2 ^ place
missing place (Some b) = 0

-- the value with PF, ZF and SF of it, and CF, AF and OF, which may be undefined
abbrev pub outcome : Width → ℕ → Option Bool → Option Bool → Option Bool → ℕ → AluOut
outcome w v carry half over rest = record {
  value = v;
  flags = record { cf = told carry; pf = is_even v; af = told half; zf = v == 0; sf = is_negative w v; of = told over; rest = rest };
  undefined = missing 0 carry + missing 2 half + missing 5 over;
}
