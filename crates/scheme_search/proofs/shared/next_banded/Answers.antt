use Rattle.std.proofs.Common.{◌≡◌, ℕ, ◌/◌, subst, arith}
use Rattle.std.proofs.lemmas.Int.{ints}
use Rattle.scheme_search.specs.Shared.{FitsWay}
use Rattle.scheme_search.proofs.UnservedValues.{banded, none_before, not_before, of_band}
use Rattle.scheme_search.proofs.shared.next_banded.Goals as goal

pub returns-then-x-to : goal.returns-then-x-to
returns-then-x-to c = record {
  least = c.requires.ordered;
  most = omega arith;
  none = λ y t low high f. absurd (omega (arith, low, high, c.if-x-to.true));
  found = λ below. absurd (omega (arith, below));
}

pub returns-in-None : goal.returns-in-None
returns-in-None c = record {
  least = c.requires.ordered;
  most = omega arith;
  none = λ y t low high f. c.in-None.ensures t (banded c.args.space.now.taken c.args.way c.args.x c.args.to y t low high f);
  found = λ below. absurd (omega (arith, below));
}

pub returns-in-Some : goal.returns-in-Some
returns-in-Some c =
    let taken = c.args.space.now.taken in
    let w = c.args.way in
    let t = c.in-Some.t in
    let far = c.gap-place.result in
    record {
      least = omega (
        arith,
        c.min.ensures,
        c.requires.ordered,
        not_before taken w c.args.x c.args.to c.requires.bands t far c.in-Some.ensures
            (omega (arith, ints, c.gap-place.ensures)),
      );
      most = omega (arith, c.min.ensures);
      none = λ y u low high f. none_before taken w c.args.x c.args.to c.requires.bands t far c.in-Some.ensures
          (omega (arith, ints, c.gap-place.ensures)) y u low (omega (arith, high, c.min.ensures)) (omega (arith, high, c.min.ensures)) f;
      found = λ below.
          let same : far / w.scale ≡ c.min.result = omega (arith, below, c.min.ensures) in (
            t,
            subst (λ (y : ℕ). FitsWay taken w y t) same (of_band taken w c.args.x c.args.to c.requires.bands t far c.in-Some.ensures
                (omega (arith, ints, c.gap-place.ensures)) c.requires.each),
          );
    }
