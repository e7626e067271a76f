use Rattle.std.proofs.Common.{◌≡◌, ℕ, ◌-◌, ◌/◌, ◌∙◌, List, ap, subst, arith}
use Rattle.elf_emit.specs.declared.runs.Page.{Page}
use Rattle.elf_emit.specs.Layout.{group_page}
use Rattle.elf_emit.specs.Views.{pieces_of}
use Rattle.elf_emit.proofs.PlanPages.{group_is}
use Rattle.elf_emit.proofs.patched_file.Plan.group_page.Goals as goal

pub group_at-group-requires : goal.group_at-group-requires
group_at-group-requires c =
    let e = c.requires.plan.pages_at in
    let f = c.requires.first in
    let l = c.requires.last in
    record { first = omega (arith, e, f); last = omega (arith, e, l) }

pub returns : goal.returns
returns c =
    let p = c.args.self.now in
    let n : ℕ = c.group_at-group.result in
    group_is p c.args.at n c.group_page.new.page c.requires.plan c.requires.whole
    (c.group_at-group.ensures ∙ ap (λ (z : ℕ). (c.args.at - z) / 4096) c.requires.plan.pages_at) c.requires.first c.requires.last
    (subst (λ (z : List Page). c.group_page.new.page ≡ group_page (pieces_of p.changes.built.now) z n) c.deref.ensures.value c.group_page.ensures)
