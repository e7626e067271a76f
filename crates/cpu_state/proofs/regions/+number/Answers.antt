use Rattle.std.proofs.Common.{ℕ, ◌+◌, ◌*◌, ◌<◌, ◌^◌, arith}
use Rattle.cpu_state.proofs.RegionCells.{bytes_fit, word_fits}
use Rattle.cpu_state.proofs.regions.+number.Goals as goal

sum_fits : (t : ℕ) (c : goal.After-from t) → c.from.result + 256 * c.number-high.result < 2 ^ (8 * c.args.size)
sum_fits t c = bytes_fit c.from.result c.number-high.result c.args.size (omega arith) c.number-high.ensures.bound (omega arith)

pub overflow_mul-result : goal.overflow_mul-result
overflow_mul-result t c = let w = word_fits _ c.args.size (omega arith) (sum_fits t c) in record { fits = omega (arith, w) }

pub overflow_add-result : goal.overflow_add-result
overflow_add-result t c = record { fits = word_fits _ c.args.size (omega arith) (sum_fits t c) }

pub returns-clause-bound : goal.returns-clause-bound
returns-clause-bound t c = sum_fits t c
