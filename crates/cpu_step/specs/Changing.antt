-- What an operation changes of registers and flags. Contracts of private functions alone cite it.
use Rattle.std.specs.Prelude.{ℕ, List, Option, Some, None, unwrap_or, slice_set, Result, Ok, Err}
use Rattle.cpu_alu.specs.declared.flag_word.Flags.{Flags}
use Rattle.cpu_state.specs.declared.state.Core.{Core}
use Rattle.insn_form.specs.declared.effect.Out.{Out}
use Rattle.cpu_step.specs.declared.going.Put.{Put}
use Rattle.cpu_step.specs.declared.going.Changes.{Changes}
use Rattle.cpu_step.specs.declared.stop.Stop.{Stop}

-- registers after one of them got its number
abbrev pub put_regs : Option Put → List ℕ → List ℕ
put_regs None rs = rs
put_regs (Some p) rs = slice_set rs p.code p.value

-- the same with flags and bases
abbrev pub put_into : Option Put → Core → Core
put_into p c = record { regs = put_regs p c.regs; flags = c.flags; fs = c.fs; gs = c.gs }

-- registers after these changes, and flags, where some are given
abbrev pub changed_with : Changes → Option Flags → Core → Core
changed_with x f c = record { regs = put_regs x.second (put_regs x.first c.regs); flags = unwrap_or f c.flags; fs = c.fs; gs = c.gs }

-- what an operation that changes this leaves
abbrev pub left_by : Changes → Core → Out
left_by x c = record { core = changed_with x x.flags c; target = x.target; value = x.value; undefined = x.undefined }

-- registers and flags with the flags that the world completed, unless there is a stop
abbrev pub core_or_stop : Changes → Core → Result (Option Flags) Stop → Result Core Stop
core_or_stop x c (Ok f) = Ok (changed_with x f c)
core_or_stop x c (Err stop) = Err stop
