use Rattle.std.proofs.Common.{◌+◌, List, drop, subst, arith, length-drop}
use Rattle.cpu_state.specs.declared.script_regions.Region.{Region}
use Rattle.image_step.proofs.Entries.{left_from}
use Rattle.image_runs.proofs.MemorySoFar.{AddedSoFar, added_all, added_bounded, added_more, added_none, region_free}
use Rattle.image_step.proofs.start_memory.start_memory.Goals as goal

pub loop-region-init : goal.loop-region-init
loop-region-init c = added_none c.args.elf.now.bytes c.in_ok-memory.memory c.args.regions.now c.requires.regions c.requires.apart c.in_ok-memory.ensures

pub add_region-requires-clause-bounded : goal.add_region-requires-clause-bounded
add_region-requires-clause-bounded c =
    let file = c.args.elf.now.bytes in
    let rs = c.args.regions.now in
    let i = c.loop-region.region-index in
    let r = c.region-item.result in
    let a = subst (λ (l : List Region). AddedSoFar file c.loop-region.memory l rs) (left_from rs i r c.loop-region-test.true c.region-item.is) c.loop-region.invariant in
    added_bounded file c.loop-region.memory r (drop (i + 1) rs) rs a

pub add_region-requires-clause-free : goal.add_region-requires-clause-free
add_region-requires-clause-free c =
    let file = c.args.elf.now.bytes in
    let rs = c.args.regions.now in
    let i = c.loop-region.region-index in
    let r = c.region-item.result in
    let a = subst (λ (l : List Region). AddedSoFar file c.loop-region.memory l rs) (left_from rs i r c.loop-region-test.true c.region-item.is) c.loop-region.invariant in
    region_free file c.loop-region.memory r (drop (i + 1) rs) rs a

pub loop-region-preserved : goal.loop-region-preserved
loop-region-preserved c =
    let file = c.args.elf.now.bytes in
    let rs = c.args.regions.now in
    let i = c.loop-region.region-index in
    let r = c.region-item.result in
    let a = subst (λ (l : List Region). AddedSoFar file c.loop-region.memory l rs) (left_from rs i r c.loop-region-test.true c.region-item.is) c.loop-region.invariant in
    added_more file c.loop-region.memory c.add_region.new.memory r (drop (i + 1) rs) rs a c.in_ok-add_region.ensures

pub returns : goal.returns
returns c =
    let rs = c.args.regions.now in
    added_all c.args.elf.now.bytes c.loop-region.memory (drop c.loop-region.region-index rs) rs c.loop-region.invariant (omega (arith, length-drop c.loop-region.region-index rs))
