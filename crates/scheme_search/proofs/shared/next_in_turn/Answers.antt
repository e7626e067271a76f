use Rattle.std.proofs.Common.{inl, inr, arith}
use Rattle.std.proofs.lemmas.Bool.{cases_lt}
use Rattle.scheme_search.proofs.shared.next_in_turn.Goals as goal

pub returns : goal.returns
returns c =
    let near = c.next_value.ensures in
    let next = c.next_value-2.ensures in
    record {
      least = omega (arith, near.least, next.least);
      most = next.most;
      none = λ y t u low high f h. elim (cases_lt y c.next_value.result) [
        | inl lt ↦ near.none y t low lt f
        | inr ge ↦ next.none y u ge high h
      ];
    }
