use Rattle.std.proofs.Common.{refl, arith, rules}
use Rattle.start_list.proofs.laws.are_worked_plans.Goals as goal

pub returns : goal.returns
returns c = record {
  whole_jump = refl;
  whole_puns = refl;
  whole_size = refl;
  punned_jump = refl;
  punned_puns = refl;
  punned_size = refl;
  padded_jump = refl;
  padded_puns = refl;
  behind_jumps = refl;
  behind_sizes = refl;
  behind_form = record {
    short = omega arith;
    pads = omega arith;
    victim = record { listed = search rules; beside = refl; movable = refl; untouched = refl };
    behind = refl;
    victim_pads = (omega arith, omega arith);
    rex = (omega arith, omega arith);
    one_pad = λ e. refl;
    few = omega arith;
    shared = refl;
  };
  near_jumps = refl;
  near_sizes = refl;
  near_form = record {
    room = omega arith;
    victim = record { listed = search rules; beside = refl; movable = refl; untouched = refl };
    above = omega arith;
    inside = (omega arith, omega arith);
    near = omega arith;
    unlisted = refl;
    shared = refl;
  };
}
