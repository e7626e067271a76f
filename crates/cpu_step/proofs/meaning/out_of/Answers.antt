use Rattle.std.proofs.Common.{◌≡◌, ℤ, sym, ap, ◌∙◌, subst, rules}
use Rattle.std.specs.Int.{cast_signed, cast_unsigned, w32}
use Rattle.cpu_state.specs.Parts.{core_of}
use Rattle.insn_form.specs.declared.form.Op.{Op}
use Rattle.insn_form.specs.Branches.{loopcc}
use Rattle.insn_form.specs.Meaning.{effect}
use Rattle.insn_form.specs.Resolving.{absolute, resolved}
use Rattle.cpu_step.specs.Changing.{left_by}
use Rattle.cpu_step.proofs.meaning.out_of.Goals as goal

pub returns-in-Loop : goal.returns-in-Loop
unfolding effect
returns-in-Loop c =
    let s = core_of c.args.state.now in
    let r : cast_signed w32 (cast_unsigned w32 c.in-Loop.rel) ≡ c.in-Loop.rel = search rules in
    subst (λ (z : ℤ). left_by c.loopcc.result s ≡ (loopcc c.in-Loop.kind (absolute c.args.next z) c.in-Loop.short s).out c.args.read) r (c.loopcc.ensures c.args.read)
    ∙ ap (λ (o : Op). (effect (resolved c.args.next o) c.args.next s).out c.args.read) (sym c.in-Loop.is)
