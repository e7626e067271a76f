use Rattle.std.proofs.Common.{◌≡◌, ℕ, ◌+◌, ◌-◌, ◌%◌, ◌^◌, ℤ, ap, refl, subst, rules}
use Rattle.std.specs.Int.{cast_signed, cast_unsigned, w32}
use Rattle.cpu_state.specs.Parts.{core_of}
use Rattle.insn_form.specs.Branches.{jcc}
use Rattle.insn_form.specs.Operands.{with_reg}
use Rattle.insn_form.specs.Resolving.{absolute}
use Rattle.cpu_step.specs.Changing.{left_by}
use Rattle.cpu_step.proofs.LoopKinds.{loops_if_empty, loops_round}
use Rattle.cpu_step.proofs.branches.loopcc.Goals as goal

pub returns-then-kind-eq3 : goal.returns-then-kind-eq3
returns-then-kind-eq3 c = λ v.
    let s = core_of c.args.state.now in
    let r : cast_signed w32 (cast_unsigned w32 c.args.rel) ≡ c.args.rel = search rules in
    let b = subst (λ (z : ℤ). left_by c.jcc.result s ≡ (jcc c.is_empty.result (absolute c.args.next z) s).out v) r c.jcc.ensures in
    loops_if_empty c.args.kind (absolute c.args.next c.args.rel) c.args.short s v c.reg.result c.is_empty.result (left_by c.jcc.result s) c.if-kind-eq3.true c.reg.ensures c.is_empty.ensures b

pub returns : goal.returns
returns c = λ v.
    let s = core_of c.args.state.now in
    let n = (c.reg-count.result + (2 ^ 64 - 1)) % 2 ^ 64 in
    let r : cast_signed w32 (cast_unsigned w32 c.args.rel) ≡ c.args.rel = search rules in
    let b = subst (λ (z : ℤ). left_by c.jcc-2.result s ≡ (jcc c.goes_round-taken.result (absolute c.args.next z) (with_reg s 1 n)).out v) r c.jcc-2.ensures in
    loops_round c.args.kind (absolute c.args.next c.args.rel) c.args.short s (with_reg s 1 n) v c.reg-count.result n c.goes_round-taken.result (left_by c.jcc-2.result s) c.if-kind-eq3.false
    (ap (λ (r : ℕ). (r + (2 ^ 64 - 1)) % 2 ^ 64) c.reg-count.ensures) c.goes_round-taken.ensures refl b
