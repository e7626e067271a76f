use Rattle.std.proofs.Common.{length, ◌∙◌, inl, inr}
use Rattle.elf_read.proofs.SegmentSearch.{no_segment}
use Rattle.elf_emit.specs.Views.{patches_of}
use Rattle.elf_emit.proofs.PageContents.{held_later, contents_more, contents_done}
use Rattle.elf_emit.proofs.parts.put_contents.Goals as goal

pub loop-place-preserved : goal.loop-place-preserved
loop-place-preserved c =
    let file = c.args.file.now in
    let ss = c.args.loads.now in
    let ns = c.args.news.now in
    let i = c.loop-place.place in
    let inv = c.loop-place.invariant in
    record {
      page = c.put_content.auto.page ∙ inv.page;
      held = held_later (length file) ss ns i no_segment c.loop-place-test.true c.if-place-news.true inv.held;
      put = contents_more (patches_of c.args.writes.now) file ss ns i c.args.lo no_segment c.loop-place.page c.put_content.new.page _ c.loop-place-test.true c.if-place-news.true c.put_content.ensures inv.put;
    }

pub returns-else-place-news : goal.returns-else-place-news
returns-else-place-news c =
    contents_done (patches_of c.args.writes.now) c.args.file.now c.args.loads.now c.args.news.now c.loop-place.place c.args.lo c.loop-place.page _ (inr c.if-place-news.false) c.loop-place.invariant.put

pub returns-after-loop-place : goal.returns-after-loop-place
returns-after-loop-place c =
    contents_done (patches_of c.args.writes.now) c.args.file.now c.args.loads.now c.args.news.now c.loop-place.place c.args.lo c.loop-place.page _ (inl c.loop-place-test.false) c.loop-place.invariant.put
