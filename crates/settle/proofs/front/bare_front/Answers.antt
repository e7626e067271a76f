use Rattle.std.proofs.Common.{ℕ, ◌≤◌, List, length, sym, ap, ◌∙◌, subst}
use Rattle.settle.specs.Stub.{stub_code}
use Rattle.settle.proofs.FilledFronts.{written, long_parts}
use Rattle.settle.proofs.front.bare_front.Goals as goal

pub returns : goal.returns
returns c =
    let ss = c.args.entries.now in let at = c.stub_at-at.ensures.value in
    let is =
    written c.args.base ss c.args.phdr c.args.entry _ _ _ c.in_ok-out.out.items (c.from.ensures ∙ at) (c.deref.ensures.value ∙ c.in_ok-table.ensures)
    (c.deref-2.ensures.value ∙ c.in_ok-code.ensures ∙ ap (λ (q : ℕ). stub_code q c.args.phdr (length ss) c.args.entry) at) c.in_ok-out.ensures in
    record { value = is; long = subst (λ (z : List ℕ). 64 ≤ length z) (sym is) (long_parts c.args.base ss c.args.phdr c.args.entry) }
