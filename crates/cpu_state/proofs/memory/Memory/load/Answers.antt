use Rattle.std.proofs.Common.{List, ◌∙◌, subst}
use Rattle.cpu_state.specs.declared.regions.MemoryRegion.{MemoryRegion}
use Rattle.cpu_state.specs.Held.{AreHeld}
use Rattle.cpu_state.specs.Regions.{cell_at}
use Rattle.cpu_state.proofs.RegionSpans.{loaded_held}
use Rattle.cpu_state.proofs.memory.Memory.load.Goals as goal

pub returns-in-Some : goal.returns-in-Some
returns-in-Some c =
    let held =
    subst (λ (rs : List MemoryRegion). AreHeld 4 (cell_at rs) c.args.addr c.in-Some.bytes.now)
    (c.deref.ensures.value ∙ c.self.view_is) c.in-Some.ensures.held in
    loaded_held (cell_at c.args.self.now) c.args.addr c.args.size c.number_of.result c.in-Some.bytes.now
    (c.in-Some.ensures.count ∙ c.from.ensures) held c.number_of.ensures.value
