use Rattle.std.proofs.Common.{ℕ, replicate, ap, ◌∙◌}
use Rattle.elf_emit.specs.Plans.{planned}
use Rattle.elf_emit.proofs.PlanPages.{in_private}
use Rattle.elf_emit.proofs.patched_file.Plan.page_at.Goals as goal

pub returns-then-at-self-3 : goal.returns-then-at-self-3
returns-then-at-self-3 c =
    let h = c.requires.plan in
    in_private (planned c.args.self.now) c.args.at _ _ _ c.fill.new.self h.table_at h.private_at h.pages_at c.if-at-self.false c.if-at-self-2.false c.if-at-self-3.true
    (c.fill.ensures.after (λ y e. e) ∙ ap (λ (n : ℕ). replicate n 0) c.requires.page)
