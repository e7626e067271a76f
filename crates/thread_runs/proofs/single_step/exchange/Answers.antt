use Rattle.std.proofs.Common.{◌≡◌, ◌%◌, ◌^◌, set, refl, sym, ap, ◌∙◌}
use Rattle.cpu_alu.specs.declared.operation.Width.TheVariants.{W32}
use Rattle.cpu_alu.specs.declared.operation.AluOp.TheVariants.{Add}
use Rattle.cpu_alu.specs.declared.outcome.AluOut.{AluOut}
use Rattle.cpu_alu.specs.Arithmetic.{arithmetic}
use Rattle.cpu_state.specs.Bytes.{advanced, put_number}
use Rattle.cpu_state.specs.Regions.{cell_at}
use Rattle.cpu_state.specs.Parts.{core_of}
use Rattle.insn_form.specs.Operands.{reg, rax}
use Rattle.thread_runs.specs.ThreadJudging.{sum_at}
use Rattle.thread_runs.proofs.LockXaddStep.{load_told}
use Rattle.thread_runs.proofs.single_step.exchange.Goals as goal

pub returns-in-Ok-store : goal.returns-in-Ok-store
returns-in-Ok-store c =
    let old = c.args.state.now in
    let a = c.args.addr in
    let read = load_told (cell_at old.mem) a 4 c.in-Ok.number (sym c.load.ensures ∙ c.in-Ok.is) in
    let sum : c.alu-sum.result ≡ sum_at a old = c.alu-sum.ensures ∙ ap (λ z. arithmetic Add W32 z (reg (core_of old) rax) old.flags) read.1 in
    let kept = c.store.ensures.core in
    let n = read.1 in
    record {
      unused = refl;
      read = read.0;
      written = c.in-Ok-store.ensures.memory.0;
      mem = c.in-Ok-store.ensures.memory.1 ∙ ap (λ (o : AluOut). put_number (cell_at old.mem) a 4 o.value) sum;
      core = λ i. record { regs = set (kept i).regs 0 (n i % 2 ^ 32); flags = (sum i).flags; fs = (kept i).fs; gs = (kept i).gs };
      rip = ap (λ z. advanced z 9) c.store.ensures.rip;
    }
