use Rattle.std.proofs.Common.{ℕ, List, take, drop, ap, ◌∙◌}
use Rattle.std.proofs.lemmas.Result.{on_ok_weaker}
use Rattle.pun_base.specs.Memory.{joined}
use Rattle.cpu_state.specs.Adding.{laid}
use Rattle.cpu_state.specs.Parts.{core_of}
use Rattle.cpu_state.specs.Regions.{cell_at}
use Rattle.insn_form.specs.Operands.{reg}
use Rattle.loader_form.specs.Kernel as kernel
use Rattle.loader_form.proofs.CallReplies.{rest_all, shows}
use Rattle.loader_form.proofs.replying.map.Goals as goal

pub returns-clause-memory : goal.returns-clause-memory
returns-clause-memory c =
    let s = core_of c.args.state.now in
    let m = cell_at c.args.state.now.mem in
    let n = reg s kernel.rsi in
    let k = reg s kernel.r9 in
    let e = rest_all k c.file.result.now ∙ ap (λ (z : List ℕ). drop k z) c.file.ensures.value in
    on_ok_weaker c.show.result
    (λ d. d ∙ ap (λ (z : List ℕ). joined m (laid (reg s kernel.rdi) 5 (take n z))) e
    ∙ shows c.args.file.now.bytes (reg s kernel.rdi) n k m c.requires.inside c.requires.free) c.show.ensures
