use Rattle.std.proofs.Common.{◌≡◌, ℕ, ◌+◌, ◌<◌, true}
use Rattle.elf_read.specs.Code.{is_exec_in}
use Rattle.scheme_search.proofs.standing.are_code.Given as goal

abbrev pub invariant-loop-k : goal.invariant-loop-k
invariant-loop-k l = (j : ℕ) → j < l.k → is_exec_in (l.addr + j) l.segment ≡ true
