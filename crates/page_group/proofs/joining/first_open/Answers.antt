use Rattle.std.proofs.Common.{◌≡◌, inl, inr, get_or, subst, arith}
use Rattle.std.proofs.lemmas.Bool.{cases_lt}
use Rattle.page_group.specs.Occupancy.{ShareOffset}
use Rattle.page_group.proofs.JoinedPages.{share_at}
use Rattle.page_group.proofs.joining.first_open.Goals as goal

pub loop-group-preserved : goal.loop-group-preserved
loop-group-preserved c = λ other d l.
    let group = c.loop-group.group in
    elim (cases_lt other group) [
      | inl m ↦ c.loop-group.invariant other d m
      | inr m ↦ (
          let e : group ≡ other = omega arith in
          let shared = share_at c.args.groups.now group _ d c.args.offsets.now c.loop-group-test.true
          (c.meets.ensures.0 c.if-not-meets.false) in
          subst (λ o. ShareOffset (get_or c.args.groups.now o d) c.args.offsets.now) e shared
          )
    ]
