use Rattle.std.proofs.Common.{◌≡◌, ℕ, ◌+◌, ◌/◌, ◌<◌, ◌^◌, w64, ap, ◌∙◌, arith}
use Rattle.std.specs.Int.{bit_at, trailing_zeros}
use Rattle.address_space.proofs.MarkedWords.{none_below, lowest_one}
use Rattle.address_space.proofs.marks.next_bit.Goals as goal

pub returns-clause-none : goal.returns-clause-none
returns-clause-none c = λ k from below.
    let small : c.args.word < 2 ^ 64 = omega arith in
    none_below c.args.word c.args.low k small from (omega (arith, below, c.min.ensures))

pub returns-clause-found : goal.returns-clause-found
returns-clause-found c = λ below.
    let small : c.args.word < 2 ^ 64 = omega arith in
    let place : c.min.result ≡ c.args.low + trailing_zeros w64 (c.args.word / 2 ^ c.args.low) = omega (arith, below, c.min.ensures) in
    ap (λ (k : ℕ). bit_at c.args.word k) place ∙ lowest_one c.args.word c.args.low small (omega (arith, place, below))
