use Rattle.std.proofs.Common.{sym, ◌∙◌, arith}
use Rattle.settle.specs.Settled.{settled}
use Rattle.settle.specs.Refusals.{settle_refusal}
use Rattle.settle.proofs.Undoing.{short_out, wide_base, told_other, readable_behind}
use Rattle.settle.proofs.unsettling.unsettle.Goals as goal

pub returns-then-out-lt-LEAST-clause-refused : goal.returns-then-out-lt-LEAST-clause-refused
returns-then-out-lt-LEAST-clause-refused c = short_out c.args.out.now c.if-out-lt-LEAST.true

pub returns-then-base-from-clause-refused : goal.returns-then-base-from-clause-refused
returns-then-base-from-clause-refused c =
    let out = c.args.out.now in
    let wide = c.if-base-from.true in let most = c.from.ensures in let base = c.get_u64-base.ensures.value in
    wide_base out (readable_behind out (record { bytes = λ k. (c.type_inv.out k).fits; len = omega arith })) (omega (arith, wide, most, base))

pub returns-in-Ok-clause-refused : goal.returns-in-Ok-clause-refused
returns-in-Ok-clause-refused c =
    let out = c.args.out.now in
    let base = c.get_u64-base.ensures.value in let file = c.behind_front-file.ensures in
    let none = (λ i. settle_refusal (sym base i) (sym file i)) ∙ c.in-Ok.ensures.accepted in
    told_other (λ v. v.items) c.compared.result out c.deref.result.now c.behind_front-file.result.now none
    (c.deref.ensures.value ∙ c.in-Ok.ensures.settled ∙ (λ i. settled (base i) (file i))) c.compared.ensures
