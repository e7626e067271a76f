use Rattle.std.proofs.Common.{refl}
use Rattle.cpu_alu.specs.Widths.{signed}
use Rattle.cpu_alu.specs.Sums.{total, carries, overflows}
use Rattle.cpu_alu.specs.Shifts.{left, out_left, right, out_right}
use Rattle.std.specs.Int.Count.{ones}
use Rattle.cpu_alu.specs.Outcome.{is_even}
use Rattle.cpu_alu.proofs.laws.computed.Goals as goal

pub returns : goal.returns
unfolding signed total carries overflows left out_left right out_right is_even ones
returns c = record { carry_into_the_sign = refl; sign_shifted_out = refl; shifted_by_the_width = refl; masked_count_is_zero = refl }
