use Rattle.std.proofs.Common.{◌-◌, arith, inl, inr}
use Rattle.std.proofs.lemmas.Bool.{cases_lt}
use Rattle.image_check.proofs.byte_rule.same_to.Goals as goal

pub returns-clause-from : goal.returns-clause-from
returns-clause-from c =
    let w = c.written_to.ensures.from in
    c.nearer.ensures.least c.args.addr (omega (arith, w)) (c.nearer-most.ensures.least c.args.addr (omega arith) (omega arith))

pub returns-clause-same : goal.returns-clause-same
returns-clause-same c x l m =
    let a = c.nearer.ensures.one in
    let b = c.nearer.ensures.other in
    let d = c.nearer-most.ensures.one in
    let e = c.nearer-most.ensures.other in
    record {
      in_old = omega (arith, l, m, b, d);
      in_new = omega (arith, l, m, b, e);
      same = elim (cases_lt (x - c.args.addr) c.common_len.result) [
        | inl k ↦ inl (c.common_len.ensures.same (x - c.args.addr) k)
        | inr k ↦ inr (c.written_to.ensures.written x (omega (arith, k, l)) (omega (arith, m, a)))
      ];
    }
