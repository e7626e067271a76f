use Rattle.std.proofs.Common.{◌≡◌, ◌-◌, ◌∷◌, ◌++◌, List, map, ap, refl, subst, arith}
use Rattle.elf_read.specs.declared.segment.Segment.{Segment}
use Rattle.elf_read.specs.Entries.{table}
use Rattle.elf_read.specs.Writing.{load_entry}
use Rattle.elf_emit.specs.declared.runs.Page.{Page}
use Rattle.elf_emit.specs.declared.patched_file.Places.{Places}
use Rattle.elf_emit.specs.Job.{Frame}
use Rattle.elf_emit.specs.Frames.{padded, with_table, part_load, in_order}
use Rattle.elf_emit.specs.Views.{frame_in}
use Rattle.elf_emit.specs.Index.{Finds, shows}
use Rattle.elf_emit.proofs.PlanNumbers.{moved_low, table_place_is, parts_fit, count_is, pages_place_is, plan_is}
use Rattle.elf_emit.proofs.patched_file.plan_of.Goals as goal

pub renewed-requires : goal.renewed-requires
renewed-requires c =
    let j : Frame = frame_in c.args.file.now c.args.changes in
    let l = moved_low j c.args.sources.now.loads.now c.up.result c.requires.frame c.requires.few c.requires.sources.loads c.up.ensures in
    record { low = omega arith }

pub places_of-places-requires : goal.places_of-places-requires
places_of-places-requires c =
    let j : Frame = frame_in c.args.file.now c.args.changes in
    let l = moved_low j c.args.sources.now.loads.now c.up.result c.requires.frame c.requires.few c.requires.sources.loads c.up.ensures in
    let e = c.in_ok-news.ensures.end in omega arith

pub table_part-requires : goal.table_part-requires
table_part-requires c =
    let j : Frame = frame_in c.args.file.now c.args.changes in
    let s = c.requires.sources in
    let t = table_place_is j c.args.sources.now.loads.now c.up.result c.in_ok-news.table_at c.requires.frame c.requires.few s.loads c.up.ensures c.in_ok-news.ensures.end in
    let k = count_is j c.count-count.result c.args.sources.now c.count-count.ensures s in
    record {
      fits = parts_fit j _ c.places_of-places.result.pages_at c.requires.frame c.requires.few s.parts
          (pages_place_is j _ _ _ t k (ap (λ (p : Places). p.pages_at) c.places_of-places.ensures));
    }

pub returns-clause-plan : goal.returns-clause-plan
returns-clause-plan c =
    let s = c.args.sources.now in
    let q = c.places_of-places.result in
    let lo = c.args.changes.private.lo in
    let hi = c.args.changes.private.hi in
    plan_is _ s c.up.result c.in_ok-news.table_at c.requires.frame c.requires.pages c.requires.few c.requires.sources c.up.ensures refl c.in_ok-news.ensures.segments c.in_ok-news.ensures.end
    c.places_of-places.ensures c.count-count.ensures
    (subst (λ (z : List Segment). c.in_ok-table.table.items ≡ padded (table (map (with_table q.table_at q.table_len) s.others.items
    ++ in_order (load_entry 4 q.table_at 0x10000 q.table_len ∷ load_entry 6 q.private_at lo (hi - lo) ∷ (map (part_load q.pages_at) s.parts.now ++ z))))) c.deref.ensures.value c.in_ok-table.ensures)
    c.in_ok-written.ensures c.in_ok-code.ensures
    (subst (λ (z : List Page). Finds shows z c.in_ok-shown.shown.items) c.deref-2.ensures.value c.in_ok-shown.ensures)
