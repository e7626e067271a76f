use Rattle.std.proofs.Common.{◌*◌, None, arith}
use Rattle.address_space.specs.declared.window.Window.{Window}
use Rattle.address_space.specs.Ranges.{gaps}
use Rattle.address_space.specs.Blocks.{flat}
use Rattle.address_space.proofs.EquivalentSearches.{least_free, least_of_pages}
use Rattle.address_space.proofs.space.Space.least_pages.Goals as goal

pub returns : goal.returns
returns c =
    let found = rw (c.deref.ensures.value, c.from.ensures) at c.least.ensures in
    let window : Window = record { from = 0x20000; top = 0x7FFF0000; step = 4096; width = 1; size = c.args.pages * 4096; avoid = None } in
    let free = least_free window (flat c.self.inside.blocks.items) c.least.result (omega arith) c.self.invariant.0 found in
    rw (← c.self.view_is) (least_of_pages (gaps 0x20000 (flat c.self.inside.blocks.items)) c.args.pages c.least.result c.requires free)
