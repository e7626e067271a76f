use Rattle.std.proofs.Common.{Result, ap, ◌∙◌, subst, option_copied}
use Rattle.cpu_step.specs.declared.stop.Stop.{Stop}
use Rattle.cpu_step.specs.Stepping.{Taken}
use Rattle.cpu_step.specs.Steps.{told, Moved}
use Rattle.cpu_step.proofs.JudgedTasks.{judged_front, whole_spelling}
use Rattle.cpu_step.proofs.step.step_read.Goals as goal

pub returns-clause-told : goal.returns-clause-told
returns-clause-told c =
    let k = c.args.insn.now in
    let h = whole_spelling k.bytes k.parts k.read k.whole in
    c.step_known.ensures.told h.fields h.is h.spelled
    ∙ ap told (judged_front k.bytes k.parts c.args.state.now (option_copied c.args.next) h c.requires)

pub returns-clause-moved : goal.returns-clause-moved
returns-clause-moved c =
    let k = c.args.insn.now in
    let h = whole_spelling k.bytes k.parts k.read k.whole in
    subst (λ (r : Result Taken Stop). Moved r c.args.state.now c.step_known.new.state) (judged_front k.bytes k.parts c.args.state.now (option_copied c.args.next) h c.requires)
    (c.step_known.ensures.moved h.fields h.is h.spelled)
