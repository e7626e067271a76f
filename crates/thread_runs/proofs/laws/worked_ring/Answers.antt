use Rattle.std.proofs.Common.{refl, arith}
use Rattle.thread_runs.proofs.laws.worked_ring.Goals as goal

pub returns : goal.returns
returns c = record {
  keeps = refl;
  long = refl;
  short = refl;
  claims = refl;
  reduces = refl;
  fills = refl;
  filled = refl;
  behind = refl;
  saving = refl;
  claimed = refl;
  until = refl;
  unfilled = refl;
  over = refl;
  own = refl;
  last = refl;
  other = refl;
  first = refl;
  second = refl;
  third = refl;
  newest = refl;
  oldest = refl;
  overtakes = λ o. let y = o.1.0 (omega arith) in absurd (omega (arith, y));
}
