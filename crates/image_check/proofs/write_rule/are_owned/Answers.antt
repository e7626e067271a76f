use Rattle.std.proofs.Common.{inl, inr, arith}
use Rattle.std.proofs.lemmas.Bool.{cases_lt}
use Rattle.image_check.proofs.write_rule.are_owned.Goals as goal

pub loop-addr-preserved : goal.loop-addr-preserved
loop-addr-preserved c =
    let h = c.loop-addr.invariant in
    let f = c.owned_to-next.ensures.from in (
      omega (arith, h.0, f),
      λ o p x l m. elim (cases_lt x c.loop-addr.addr) [ inl k ↦ h.1 o p x l k | inr k ↦ c.owned_to-next.ensures.owned o p x k m ],
    )

pub returns : goal.returns
returns c t o p x l m = let n = c.loop-addr-test.false in c.loop-addr.invariant.1 o p x l (omega (arith, m, n))
