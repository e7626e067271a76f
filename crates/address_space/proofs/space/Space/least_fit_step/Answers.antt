use Rattle.std.proofs.Common.{◌≡◌, ℕ, ℤ, subst, arith, to_z, of_z, w64}
use Rattle.std.proofs.lemmas.Int.{ints}
use Rattle.address_space.specs.Windows.{IsStart, IsTop}
use Rattle.address_space.specs.declared.window.Window.{Window}
use Rattle.address_space.specs.Ranges.{gaps}
use Rattle.address_space.specs.Blocks.{flat}
use Rattle.address_space.proofs.EquivalentSearches.{least_free, least_of_steps}
use Rattle.address_space.proofs.space.Space.least_fit_step.Goals as goal

pub returns : goal.returns
returns c =
    let low : to_z w64 (of_z w64 c.args.lo) ≡ c.args.lo = omega (arith, ints) in
    let high : to_z w64 (of_z w64 c.args.hi) ≡ c.args.hi = omega (arith, ints) in
    let Lo : ℤ → Type 0 = λ z. IsStart z c.from-step.result c.start.result in
    let Step : ℕ → Type 0 = λ k. IsStart c.args.lo k c.start.result in
    let Hi : ℤ → Type 0 = λ z. IsTop z c.top.result in
    let start = subst Step c.from-step.ensures (subst Lo low c.start.ensures) in
    let end = subst Hi high c.top.ensures.value in
    let found = rw c.deref.ensures.value at c.least.ensures in
    let window : Window = record { from = c.start.result; top = c.top.result; step = c.from-step.result; width = 1; size = c.from.result; avoid = c.args.avoid } in
    let free = rw (c.from-step.ensures, c.from.ensures) at (least_free window (flat c.self.inside.blocks.items) c.least.result (omega (arith, c.from.ensures, c.requires.size)) c.self.invariant.0 found) in
    rw (← c.self.view_is) (least_of_steps (gaps 0x20000 (flat c.self.inside.blocks.items)) c.args.lo c.args.hi c.args.step c.args.size c.args.avoid c.start.result c.top.result c.least.result start c.top.ensures.bound end free)
