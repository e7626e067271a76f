-- Operations on flags alone (Intel SDM, volume 2: CMC, CLC, STC, SAHF, LAHF). Theorems cite it.
use Rattle.std.specs.Prelude.{ℕ, ◌+◌, Bool}
use Rattle.cpu_alu.specs.declared.operation.Width.TheVariants.{W8}
use Rattle.cpu_alu.specs.declared.flag_word.Flags.{Flags}
use Rattle.cpu_alu.specs.FlagWord.{placed, is_set}
use Rattle.cpu_state.specs.declared.state.Core.{Core}
use Rattle.insn_form.specs.declared.form.Spot.{Spot}
use Rattle.insn_form.specs.declared.form.Spot.TheVariants.{High}
use Rattle.insn_form.specs.Operands.{rax, with_flags, spot_number, with_spot}
use Rattle.insn_form.specs.Effect.{Effect, in_core}

-- AH, bits 8 to 15 of rax
abbrev pub ah : Spot
ah = High rax

-- CMC, CLC, STC: CF alone
abbrev pub with_carry : Bool → Flags → Flags
with_carry b f = record { cf = b; pf = f.pf; af = f.af; zf = f.zf; sf = f.sf; of = f.of; rest = f.rest }

-- the effect of these three
abbrev pub set_carry : Bool → Core → Effect
set_carry b c = in_core (with_flags c (with_carry b c.flags))

-- SAHF: SF, ZF, AF, PF and CF are bits 7, 6, 4, 2 and 0 of AH
abbrev pub flags_from : ℕ → Flags → Flags
flags_from n f = record { cf = is_set n 0; pf = is_set n 2; af = is_set n 4; zf = is_set n 6; sf = is_set n 7; of = f.of; rest = f.rest }

-- the effect of SAHF
abbrev pub flags_from_ah : Core → Effect
flags_from_ah c = in_core (with_flags c (flags_from (spot_number c W8 0 ah) c.flags))

-- LAHF: AH is SF, ZF, 0, AF, 0, PF, 1, CF from bit 7 to bit 0
abbrev pub low_flags : Flags → ℕ
low_flags f = placed f.sf 7 + placed f.zf 6 + placed f.af 4 + placed f.pf 2 + 2 + placed f.cf 0

-- the effect of LAHF
abbrev pub flags_into_ah : Core → Effect
flags_into_ah c = in_core (with_spot c W8 ah (low_flags c.flags))
