-- The effect of each operation, where next is the address of the instruction after it. Theorems cite it.
-- The operation names no address relative to that one: its RIP operands and targets are absolute, as `resolved` makes them.
use Rattle.std.specs.Prelude.{ℕ, true, false, not}
use Rattle.cpu_state.specs.declared.state.Core.{Core}
use Rattle.insn_form.specs.declared.form.Op.{Op}
use Rattle.insn_form.specs.declared.form.Op.TheVariants.{Mov, Extend, Lea, Xchg, Nop, Push, Pop, Alu, Not, Cmov, Set, Widen, Leave, Cmc, Clc, Stc, Sahf, Lahf, Jcc, Loop, Jmp, Call, Ret}
use Rattle.insn_form.specs.Effect.{Effect, in_core}
use Rattle.insn_form.specs.Conditions.{is_met}
use Rattle.insn_form.specs.Moves.{mov, movx, lea, xchg, cmov, setcc, widen}
use Rattle.insn_form.specs.Stack.{push, pop, leave_frame}
use Rattle.insn_form.specs.Computing.{computing, invert}
use Rattle.insn_form.specs.FlagMoves.{set_carry, flags_from_ah, flags_into_ah}
use Rattle.insn_form.specs.Branches.{jcc, loopcc, jmp, call, ret}

unfoldable pub effect : Op → ℕ → Core → Effect
effect (Mov w dst src) next c = mov w dst src c
effect (Extend sign from w dst src) next c = movx sign from w dst src c
effect (Lea w dst mem) next c = lea w dst mem c
effect (Xchg w a b) next c = xchg w a b c
effect (Nop disp) next c = in_core c
effect (Push src) next c = push src c
effect (Pop dst) next c = pop dst c
effect (Alu op w dst src keep) next c = computing op w dst src keep c
effect (Not w dst) next c = invert w dst c
effect (Cmov cc w dst src) next c = cmov cc w dst src c
effect (Set cc dst) next c = setcc cc dst c
effect (Widen w high) next c = widen w high c
effect Leave next c = leave_frame c
effect Cmc next c = set_carry (not c.flags.cf) c
effect Clc next c = set_carry false c
effect Stc next c = set_carry true c
effect Sahf next c = flags_from_ah c
effect Lahf next c = flags_into_ah c
effect (Jcc cc target) next c = jcc (is_met cc c.flags) target c
effect (Loop kind target short) next c = loopcc kind target short c
effect (Jmp target) next c = jmp target c
effect (Call target) next c = call target next c
effect (Ret extra) next c = ret extra c
