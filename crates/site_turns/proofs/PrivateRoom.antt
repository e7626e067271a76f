-- The private range has room for what the action keeps.
use Rattle.std.proofs.Common.{◌≡◌, ℕ, ◌+◌, ◌*◌, ◌-◌, ◌≤◌, subst, arith}
use Rattle.std.specs.Int.{div_ceil}
use Rattle.address_space.specs.Free.{IsFree}
use Rattle.sound_images.specs.Reports.{private_len}
use Rattle.site_turns.specs.PrivateRange.{pages_for, PrivateHasRoom}

-- as many whole pages as n bytes need have n bytes or more
enough : (n : ℕ) → n ≤ div_ceil n 4096 * 4096
enough n = omega arith

-- the private range was free, is whole pages, and has room for what the action keeps
pub private_has_room : PrivateHasRoom
private_has_room taken action sites private h =
    let size = h.size in
    let good = h.least.good in
    let n = private_len action sites in
    let e : pages_for action sites * 4096 ≡ private.hi - private.lo = omega (arith, size) in
    let page = good.page in
    record {
      free = subst (λ (z : ℕ). IsFree taken private.lo z) e good.free;
      whole = page;
      pages = (page.0 + pages_for action sites, omega (arith, size, page.1));
      room = omega (arith, size, enough n);
    }
