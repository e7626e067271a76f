use Rattle.std.proofs.Common.{◌≡◌, ℤ, None, length, subst, arith, to_z, of_z, w64}
use Rattle.std.proofs.lemmas.Int.{ints}
use Rattle.address_space.specs.declared.window.Window.{Window}
use Rattle.address_space.specs.Fit.{FitsAside}
use Rattle.address_space.specs.Ranges.{IsPlaceAmong, gaps}
use Rattle.address_space.specs.Blocks.{flat}
use Rattle.address_space.specs.Windows.{IsStart, IsTop}
use Rattle.address_space.proofs.MarkedPlaces.{fits_aside, place_aside}
use Rattle.address_space.proofs.MarkedWords.{marked_as}
use Rattle.address_space.proofs.space.Space.mark_places.Goals as goal

pub returns : goal.returns
returns c =
    let low : to_z w64 (of_z w64 c.args.lo) ≡ c.args.lo = omega (arith, ints) in
    let high : to_z w64 (of_z w64 c.args.hi) ≡ c.args.hi = omega (arith, ints) in
    let Lo : ℤ → Type 0 = λ z. IsStart z 1 c.start.result in
    let Hi : ℤ → Type 0 = λ z. IsTop z c.top.result in
    let start = subst Lo low c.start.ensures in
    let end = subst Hi high c.top.ensures.value in
    let value = rw low at c.shift_of-shift.ensures.value in
    let marks = rw c.deref.ensures.value at c.mark_blocks.ensures in
    let free = flat c.self.inside.blocks.items in
    let shift = c.shift_of-shift.result in
    let up = c.self.invariant.0 in
    let window : Window = record {
      from = c.start.result;
      top = c.top.result;
      step = c.args.step;
      width = 1;
      size = c.args.size;
      avoid = None;
    } in
    rw (← c.self.view_is)
    (marked_as c.args.words.now c.mark_blocks.new.words (IsPlaceAmong window shift free (length free)) (FitsAside (gaps 0x20000 free) c.args.lo c.args.hi c.args.step c.args.size) marks
    (λ y. (
      fits_aside free c.args.lo c.args.hi window shift y c.requires.size c.requires.step.0 up start end value,
      place_aside free c.args.lo c.args.hi window shift y c.requires.size c.requires.step.0 up start end value,
    )))
