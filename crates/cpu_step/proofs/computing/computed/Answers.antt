use Rattle.std.proofs.Common.{ap, None}
use Rattle.cpu_state.specs.declared.state.Core.{Core}
use Rattle.insn_form.specs.Operands.{with_flags}
use Rattle.cpu_step.proofs.computing.computed.Goals as goal

pub returns : goal.returns
returns c = λ next.
    let o = c.args.out in
    ap (λ (z : Core). record { core = with_flags z o.flags; target = None; value = o.value; undefined = o.undefined }) (c.stored.ensures next)
