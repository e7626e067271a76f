use Rattle.std.proofs.Common.{◌^◌, ◌<◌, ap, ◌∙◌, subst}
use Rattle.std.specs.Prelude.{option_copied}
use Rattle.thread_runs.specs.ThreadJudging.{xadd_address, Exchanges}
use Rattle.thread_runs.proofs.LockXaddStep.{xadd_steps}
use Rattle.thread_runs.proofs.single_step.step_xadd.Goals as goal

pub returns : goal.returns
returns c =
    let named = c.exchanged_address-addr.ensures ∙ ap xadd_address (c.as_slice.ensures.value ∙ c.fetch-code.ensures) in
    xadd_steps c.args.state.now c.exchange.new.state (option_copied c.args._next) c.exchange.result c.requires (subst (λ z. z < 2 ^ 64) named c.exchanged_address-addr.type_inv)
    (subst (λ z. Exchanges z c.args.state.now c.exchange.new.state c.exchange.result) named c.exchange.ensures)
