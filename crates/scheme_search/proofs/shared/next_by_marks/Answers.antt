use Rattle.std.proofs.Common.{arith}
use Rattle.scheme_search.proofs.shared.next_by_marks.Goals as goal

pub returns-in-Some : goal.returns-in-Some
returns-in-Some c =
    let next = c.next_agreed.ensures in
    let marks = rw c.in-Some.is at c.requires.marks in
    record {
      least = next.least;
      most = next.most;
      none = λ y t u low high f h.
          let both = marks.both y t u (omega (arith, high, next.most)) f h in
          next.none y both.0.0 low high both.0.1 both.1;
    }
