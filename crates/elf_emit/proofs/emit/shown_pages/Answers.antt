use Rattle.std.proofs.Common.{◌∙◌, List, ap, sym, subst}
use Rattle.std.specs.List.{AllByRecursion}
use Rattle.std.proofs.lemmas.List.{take_all}
use Rattle.elf_emit.specs.declared.runs.Page.{Page}
use Rattle.elf_emit.specs.Emits.{pages_of}
use Rattle.elf_emit.specs.Windows.{IsCodePage}
use Rattle.elf_emit.proofs.JobConditions.{whole_pages_of}
use Rattle.elf_emit.proofs.emit.shown_pages.Goals as goal

pub returns-clause-whole : goal.returns-clause-whole
returns-clause-whole c =
    let shown = c.loop-addr.invariant
    ∙ ap pages_of (take_all c.loop-addr.addr-index c.deref-addr-items.result.now c.loop-addr-test.false ∙ c.deref-addr-items.ensures.value ∙ c.in_ok-homes.ensures.homes) in
    subst (λ (z : List Page). AllByRecursion IsCodePage z) (sym shown) (whole_pages_of _ _ c.in_ok-homes.ensures.grouping)
