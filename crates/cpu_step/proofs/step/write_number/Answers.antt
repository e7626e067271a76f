use Rattle.std.proofs.Common.{◌≤◌, Option, IfSome, take, sym, ap, ◌∙◌, subst}
use Rattle.cpu_state.specs.Bytes.{put_list}
use Rattle.cpu_state.specs.Regions.{cell_at}
use Rattle.insn_form.specs.declared.effect.Span.{Span}
use Rattle.insn_form.specs.Machine.{put_all}
use Rattle.insn_form.specs.Plan.{writes_in}
use Rattle.cpu_step.proofs.LowBytes.{low_bytes}
use Rattle.cpu_step.proofs.step.write_number.Goals as goal

pub returns-in-Some-clause-value : goal.returns-in-Some-clause-value
returns-in-Some-clause-value c =
    let m = cell_at c.args.memory.now in
    let s = c.in-Some.span in
    let small = subst (λ (o : Option Span). IfSome o (λ (x : Span). x.size ≤ 8)) c.in-Some.is c.requires in
    let n = c.from.ensures in
    let b = c.to_le_bytes-bytes.ensures in
    c.write.ensures.value ∙ ap (put_list m s.addr) ((λ i. take (n i) (b i)) ∙ low_bytes s.size c.args.value small) ∙ ap (λ (o : Option Span). put_all m (writes_in o c.args.value)) (sym c.in-Some.is)
