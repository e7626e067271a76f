use Rattle.std.proofs.Common.{inl, inr, arith}
use Rattle.std.proofs.lemmas.Bool.{cases_lt}
use Rattle.scheme_search.proofs.marked.next_open.Goals as goal

pub returns : goal.returns
returns c =
    let near = c.next_value-low.ensures in
    record {
      least = omega (arith, near.least, c.next_marked.ensures.least);
      most = c.next_marked.ensures.most;
      none = λ y t low high f m. elim (cases_lt y c.next_value-low.result) [
        | inl lt ↦ near.none y t low lt f
        | inr ge ↦ c.next_marked.ensures.none y ge high m
      ];
    }
