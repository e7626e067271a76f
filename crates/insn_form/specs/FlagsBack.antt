-- The six flags kept in ax and given back: LAHF and SETO al, later ADD al, 7F and SAHF (Intel SDM, volume 2). Theorems cite it.
use Rattle.std.specs.Prelude.{◌≡◌, ℕ, ◌%◌, ◌^◌, true}
use Rattle.cpu_alu.specs.declared.flag_word.Flags.{Flags}
use Rattle.cpu_alu.specs.declared.operation.Width.TheVariants.{W8}
use Rattle.cpu_alu.specs.declared.operation.AluOp.TheVariants.{Add}
use Rattle.cpu_state.specs.declared.state.Core.{Core}
use Rattle.cpu_state.specs.Processor.{IsProcessorCore}
use Rattle.insn_form.specs.declared.form.Op.{Op}
use Rattle.insn_form.specs.declared.form.Op.TheVariants.{Alu, Set, Sahf, Lahf}
use Rattle.insn_form.specs.declared.form.Spot.TheVariants.{Reg}
use Rattle.insn_form.specs.declared.form.Value.TheVariants as value
use Rattle.insn_form.specs.Operands.{reg, rax}
use Rattle.insn_form.specs.FlagMoves.{low_flags, flags_from}
use Rattle.insn_form.specs.Meaning.{effect}

-- registers and flags after an operation that reads no memory
abbrev pub core_after : Op → ℕ → Core → Core
core_after op next c = ((effect op next c).out 0).core

-- SETO al; ADD al, 7F
abbrev pub seto_al : Op
seto_al = Set 0 (Reg rax)

-- ADD al, 7F
abbrev pub add_al : Op
add_al = Alu Add W8 (Reg rax) (value.Imm 0x7f) true

-- SAHF sets five flags to what LAHF stored of others
abbrev pub GivesFiveBack : Type 0
GivesFiveBack = (f g : Flags) → flags_from (low_flags f) g ≡ record { cf = f.cf; pf = f.pf; af = f.af; zf = f.zf; sf = f.sf; of = g.of; rest = g.rest }

-- LAHF and SETO al: all six are in ax. The address after an operation matters to none of the four.
abbrev pub kept_in_ax : Core → Core
kept_in_ax c = core_after seto_al 0 (core_after Lahf 0 c)

-- ADD al, 7F and SAHF
abbrev pub given_back : Core → Core
given_back c = core_after Sahf 0 (core_after add_al 0 c)

-- all six come back where ax does
abbrev pub GivesFlagsBack : Type 0
GivesFlagsBack = (c d : Core) → IsProcessorCore c → IsProcessorCore d → reg d rax % 2 ^ 16 ≡ reg (kept_in_ax c) rax % 2 ^ 16 → d.flags.rest ≡ c.flags.rest → (given_back d).flags ≡ c.flags
