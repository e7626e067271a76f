use Rattle.std.proofs.Common.{◌≡◌, ℕ, ◌+◌, ◌∷◌, [], List, drop, get_or, ap, sym, subst, ◌∙◌, arith, length-drop}
use Rattle.pun_base.specs.Memory.{joined}
use Rattle.cpu_state.specs.Regions.{cell_at}
use Rattle.cpu_state.specs.declared.regions.MemoryRegion.{MemoryRegion}
use Rattle.elf_read.specs.declared.segment.Segment.{Segment}
use Rattle.elf_read.specs.Image.{chunk_of, image}
use Rattle.elf_read.proofs.AcceptedFiles.{is_accepted}
use Rattle.elf_read.proofs.SegmentSearch.{no_segment}
use Rattle.std.proofs.lemmas.List.{drop_more}
use Rattle.image_runs.proofs.MemorySoFar.{LoadedSoFar, loaded_all, loaded_more, loaded_none, segment_free}
use Rattle.image_step.proofs.start_memory.image_memory.Goals as goal

pub loop-segment-init : goal.loop-segment-init
loop-segment-init c =
    let file = c.args.elf.now.bytes in
    let l = c.loads-segment-items.ensures in
    subst (λ (m : List MemoryRegion). LoadedSoFar file m c.loads-segment-items.result.now) (sym c.empty-memory.ensures)
    (loaded_none file c.loads-segment-items.result.now l.value (is_accepted 0x10000 file l.accepted))

pub add_segment-requires-clause-placed : goal.add_segment-requires-clause-placed
add_segment-requires-clause-placed c =
    let file = c.args.elf.now.bytes in
    let i = c.loop-segment.segment-index in
    let items = c.loads-segment-items.result.now in
    let l = subst (λ (ss : List Segment). LoadedSoFar file c.loop-segment.memory ss) (drop_more items i no_segment c.loop-segment-test.true) c.loop-segment.invariant in
    rw c.file.ensures.value l.placed.0

pub add_segment-requires-clause-free : goal.add_segment-requires-clause-free
add_segment-requires-clause-free c =
    let file = c.args.elf.now.bytes in
    let i = c.loop-segment.segment-index in
    let items = c.loads-segment-items.result.now in
    let l = subst (λ (ss : List Segment). LoadedSoFar file c.loop-segment.memory ss) (drop_more items i no_segment c.loop-segment-test.true) c.loop-segment.invariant in
    segment_free file c.loop-segment.memory (get_or items i no_segment) (drop (i + 1) items) l

pub loop-segment-preserved : goal.loop-segment-preserved
loop-segment-preserved c =
    let file = c.args.elf.now.bytes in
    let i = c.loop-segment.segment-index in
    let items = c.loads-segment-items.result.now in
    let l = subst (λ (ss : List Segment). LoadedSoFar file c.loop-segment.memory ss) (drop_more items i no_segment c.loop-segment-test.true) c.loop-segment.invariant in
    let s = get_or items i no_segment in
    let e : cell_at c.add_segment.new.memory ≡ joined (cell_at c.loop-segment.memory) (image (chunk_of file s ∷ [])) = c.in_ok-add_segment.ensures ∙ ap (λ (f : List ℕ). joined (cell_at c.loop-segment.memory) (image (chunk_of f s ∷ []))) c.file.ensures.value in
    loaded_more file c.loop-segment.memory c.add_segment.new.memory s (drop (i + 1) items) l e

pub returns : goal.returns
returns c =
    let items = c.loads-segment-items.result.now in
    let left = drop c.loop-segment.segment-index items in
    loaded_all c.args.elf.now.bytes c.loop-segment.memory left c.loop-segment.invariant (omega (arith, length-drop c.loop-segment.segment-index items))
