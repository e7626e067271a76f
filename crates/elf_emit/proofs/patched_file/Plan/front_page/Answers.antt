use Rattle.std.proofs.Common.{List, length, sym, ap, ◌∙◌, subst}
use Rattle.elf_read.specs.declared.segment.Segment.{Segment}
use Rattle.elf_emit.specs.Layout.{rewritten}
use Rattle.elf_emit.specs.Views.{patches_of}
use Rattle.elf_emit.specs.PageByPage.{place_field, count_field, contents}
use Rattle.elf_emit.specs.Windows.{AreHeld}
use Rattle.elf_emit.proofs.PageContents.{front_put}
use Rattle.elf_emit.proofs.PlanPages.{front_is, plan_held}
use Rattle.elf_emit.proofs.patched_file.Plan.front_page.Goals as goal

pub put_contents-requires-clause-held : goal.put_contents-requires-clause-held
put_contents-requires-clause-held c =
    let p = c.args.self.now in
    subst (λ z. AreHeld (length p.file.now) p.loads.now z) (sym c.deref.ensures.value) (plan_held p c.requires.plan)

pub returns : goal.returns
returns c =
    let p = c.args.self.now in
    let at = c.args.at in
    let put = λ (news : List Segment). contents (patches_of p.changes.writes.now) p.file.now p.loads.now news in
    front_is p at _ c.requires.plan
    (front_put p.changes.tail.start (place_field p.places.table_at) (count_field p.count) (put p.news.items) at _ c.original_page.new.page _ c.original_page.ensures
    (c.put_contents.ensures ∙ ap (λ (news : List Segment). rewritten (put news) at c.original_page.new.page) c.deref.ensures.value))
