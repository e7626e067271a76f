use Rattle.std.proofs.Common.{◌+◌, List, drop, get_or, subst, arith, length-drop}
use Rattle.std.proofs.lemmas.List.{drop_more}
use Rattle.guest_gen.specs.declared.instruction.GuestInsn.{GuestInsn}
use Rattle.guest_gen.specs.declared.instruction.GuestInsn.TheVariants.{Ret}
use Rattle.guest_gen.proofs.TextGrowth.{Appended, appended_one, appended_all}
use Rattle.guest_gen.proofs.draft.Text.push_all.Goals as goal

pub loop-insn-preserved : goal.loop-insn-preserved
loop-insn-preserved c =
    let is = c.args.insns.now in
    let i = c.loop-insn.insn-index in
    let a = subst (λ (z : List GuestInsn). Appended is z c.args.self.now c.loop-insn.self)
    (drop_more is i Ret c.loop-insn-test.true) c.loop-insn.invariant in
    appended_one is (drop (i + 1) is) (get_or is i Ret) c.args.self.now c.loop-insn.self c.push.new.self a
    c.in_ok-push.ensures.grown c.in_ok-push.ensures.few

pub returns-clause-grown : goal.returns-clause-grown
returns-clause-grown c =
    let is = c.args.insns.now in
    let i = c.loop-insn.insn-index in
    appended_all is (drop i is) c.args.self.now c.loop-insn.self (omega (arith, length-drop i is)) c.loop-insn.invariant
