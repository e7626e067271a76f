-- Flags that an event has saved in ax. Theorems cite it.
use Rattle.std.specs.Prelude.{◌≡◌, ℕ, ◌/◌, ◌%◌}
use Rattle.cpu_alu.specs.declared.flag_word.Flags.{Flags}
use Rattle.cpu_state.specs.declared.state.Core.{Core}
use Rattle.insn_form.specs.Operands.{with_reg, with_flags, rax}
use Rattle.insn_form.specs.FlagMoves.{low_flags}

-- between ADD and SAHF: OF is back, and AH still has the five others
pub record IsGivingBack (c d : Core) : Type 0 where
  pub value : ℕ
  pub flags : Flags
  pub high : value / 256 % 256 ≡ low_flags c.flags
  pub over : flags.of ≡ c.flags.of
  pub rest : flags.rest ≡ c.flags.rest
  pub core : d ≡ with_flags (with_reg c rax value) flags
