use Rattle.std.proofs.Common.{arith, inl, inr, Some, None}
use Rattle.address_space.proofs.LeastPlaces.{stays, passes}
use Rattle.address_space.proofs.search.next_place.Goals as goal

pub returns-in-Some-clause-value : goal.returns-in-Some-clause-value
returns-in-Some-clause-value c =
    let next = rw c.from.ensures at c.next_step-next.ensures.value in
    let past = rw c.from-in-Some.ensures at c.next_step.ensures.value in
    passes c.args.window c.args.low c.next_step-next.result c.next_step.result c.in-Some.avoid c.in-Some.is next (omega arith) (omega arith) past

pub returns-in_default-clause-value : goal.returns-in_default-clause-value
returns-in_default-clause-value c =
    let next = rw c.from.ensures at c.next_step-next.ensures.value in
    stays c.args.window c.args.low c.next_step-next.result (Some c.in-Some.avoid) c.in-Some.is next (inr (omega arith))

pub returns-in_default-2-clause-value : goal.returns-in_default-2-clause-value
returns-in_default-2-clause-value c =
    let next = rw c.from.ensures at c.next_step-next.ensures.value in
    stays c.args.window c.args.low c.next_step-next.result (Some c.in-Some.avoid) c.in-Some.is next (inl (omega arith))

pub returns-in_default-3-clause-value : goal.returns-in_default-3-clause-value
returns-in_default-3-clause-value c =
    let next = rw c.from.ensures at c.next_step-next.ensures.value in
    stays c.args.window c.args.low c.next_step-next.result None c.in_default.is next tt
