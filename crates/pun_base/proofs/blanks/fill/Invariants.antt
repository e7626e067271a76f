use Rattle.std.proofs.Common.{◌≡◌, ◌≤◌, vec_len, max}
use Rattle.pun_base.proofs.blanks.fill.Given as goal

abbrev pub invariant-loop : goal.invariant-loop
invariant-loop g l = record { made : vec_len l.blanks ≡ l.counter; most : l.counter ≤ max l.count (vec_len l.initial.blanks) }
