use Rattle.std.proofs.Common.{ℕ, ◌+◌, ◌*◌, ◌<◌, ◌^◌, length, get_or, ap, subst, arith}
use Rattle.cpu_state.proofs.RegionCells.{bytes_fit, word_fits}
use Rattle.cpu_state.proofs.regions.+number_of.Goals as goal

sum_fits : (t : ℕ) (c : goal.After-number_of t) → c.from.result + 256 * c.number_of.result < 2 ^ (8 * length c.args.bytes.now)
sum_fits t c =
    let h = c.in-Some.ensures.cases in
    let b = (c.type_inv.bytes 0).fits in
    let e = ap (λ bs. get_or bs 0 0) h.0 in
    bytes_fit c.from.result c.number_of.result (length c.args.bytes.now) (omega (arith, b, e, c.from.ensures))
    (subst (λ n. c.number_of.result < 2 ^ (8 * n)) (omega arith) c.number_of.ensures.bound)
    (omega (arith, h.1))

pub overflow_mul-result : goal.overflow_mul-result
overflow_mul-result t c = let w = word_fits _ (length c.args.bytes.now) (omega arith) (sum_fits t c) in record { fits = omega (arith, w) }

pub overflow_add-result : goal.overflow_add-result
overflow_add-result t c = record { fits = word_fits _ (length c.args.bytes.now) (omega arith) (sum_fits t c) }

pub returns-in-Some-clause-bound : goal.returns-in-Some-clause-bound
returns-in-Some-clause-bound t c = sum_fits t c
