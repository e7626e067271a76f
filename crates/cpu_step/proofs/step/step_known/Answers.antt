use Rattle.std.proofs.Common.{Result, refl, sym, ap, ◌∙◌, subst, option_copied}
use Rattle.insn_form.specs.declared.form.Insn.TheVariants.{Exact, Asked, Ending}
use Rattle.cpu_step.specs.declared.stop.Stop.{Stop}
use Rattle.cpu_step.specs.Stepping.{Taken}
use Rattle.cpu_step.specs.Steps.{told, Moved}
use Rattle.cpu_step.proofs.JudgedTasks.{kept_task}
use Rattle.cpu_step.proofs.step.step_known.Goals as goal

pub returns-in-Exact-clause-told : goal.returns-in-Exact-clause-told
returns-in-Exact-clause-told c = λ f i b.
    let k = c.args.insn.now in
    let same = kept_task f (Exact c.in-Exact.op) k.bytes c.args.state.now (option_copied c.args.next) c.len.result i b
    (sym c.in-Exact.is ∙ k.classified f i b) c.len.ensures.value in
    c.step_exact.ensures.told ∙ ap told same

pub returns-in-Exact-clause-moved : goal.returns-in-Exact-clause-moved
returns-in-Exact-clause-moved c = λ f i b.
    let k = c.args.insn.now in
    let same = kept_task f (Exact c.in-Exact.op) k.bytes c.args.state.now (option_copied c.args.next) c.len.result i b
    (sym c.in-Exact.is ∙ k.classified f i b) c.len.ensures.value in
    subst (λ (r : Result Taken Stop). Moved r c.args.state.now c.step_exact.new.state) same c.step_exact.ensures.moved

pub returns-in-Asked-clause-told : goal.returns-in-Asked-clause-told
returns-in-Asked-clause-told c = λ f i b.
    let k = c.args.insn.now in
    let same = kept_task f (Asked c.in-Asked.form) k.bytes c.args.state.now (option_copied c.args.next) c.len.result i b
    (sym c.in-Asked.is ∙ k.classified f i b) c.len.ensures.value in
    c.step_asked.ensures.told ∙ ap told same

pub returns-in-Asked-clause-moved : goal.returns-in-Asked-clause-moved
returns-in-Asked-clause-moved c = λ f i b.
    let k = c.args.insn.now in
    let same = kept_task f (Asked c.in-Asked.form) k.bytes c.args.state.now (option_copied c.args.next) c.len.result i b
    (sym c.in-Asked.is ∙ k.classified f i b) c.len.ensures.value in
    subst (λ (r : Result Taken Stop). Moved r c.args.state.now c.step_asked.new.state) same c.step_asked.ensures.moved

pub returns-in-Ending-clause-told : goal.returns-in-Ending-clause-told
returns-in-Ending-clause-told c = λ f i b.
    let k = c.args.insn.now in
    let same = kept_task f Ending k.bytes c.args.state.now (option_copied c.args.next) c.len.result i b
    (sym c.in-Ending.is ∙ k.classified f i b) c.len.ensures.value in
    ap told same

pub returns-in-Ending-clause-moved : goal.returns-in-Ending-clause-moved
returns-in-Ending-clause-moved c = λ f i b.
    let k = c.args.insn.now in
    let same = kept_task f Ending k.bytes c.args.state.now (option_copied c.args.next) c.len.result i b
    (sym c.in-Ending.is ∙ k.classified f i b) c.len.ensures.value in
    subst (λ (r : Result Taken Stop). Moved r c.args.state.now c.args.state.now) same refl
