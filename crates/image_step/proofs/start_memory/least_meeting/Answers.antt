use Rattle.std.proofs.Common.{◌≡◌, true, false, List, ap, sym, ◌∙◌}
use Rattle.elf_read.specs.Entries.{loads, segments}
use Rattle.elf_read.specs.declared.segment.Segment.{Segment}
use Rattle.image_runs.specs.Starting.{meets_image}
use Rattle.image_step.proofs.FirstMeetingRegion.{sought_all, sought_item, sought_here, sought_later}
use Rattle.image_step.proofs.start_memory.least_meeting.Goals as goal

pub loop-region-init : goal.loop-region-init
loop-region-init c = sought_all c.args.elf.now.bytes c.args.regions.now c.requires

pub returns-then-meets_image : goal.returns-then-meets_image
returns-then-meets_image c =
    let r = c.region-item.result in
    let s = sought_item c.args.elf.now.bytes c.args.regions.now c.loop-region.region-index r c.loop-region-test.true c.region-item.is
    c.loop-region.invariant in
    let m : meets_image (loads (segments c.args.elf.now.bytes)) r ≡ true = ap (λ (ss : List Segment). meets_image ss r) (sym c.loads.ensures.value) ∙ (sym c.meets_image.ensures ∙ c.if-meets_image.true) in
    sought_here _ r _ _ s m

pub loop-region-preserved : goal.loop-region-preserved
loop-region-preserved c =
    let r = c.region-item.result in
    let s = sought_item c.args.elf.now.bytes c.args.regions.now c.loop-region.region-index r c.loop-region-test.true c.region-item.is
    c.loop-region.invariant in
    let m : meets_image (loads (segments c.args.elf.now.bytes)) r ≡ false = ap (λ (ss : List Segment). meets_image ss r) (sym c.loads.ensures.value) ∙ (sym c.meets_image.ensures ∙ c.if-meets_image.false) in
    sought_later _ r _ _ s m
