use Rattle.std.proofs.Common.{◌+◌, ◌≤◌, arith}
use Rattle.std.proofs.lemmas.Bool.Decides.{nat_tests}
use Rattle.image_step.proofs.InstructionByteSearch.{below_last}
use Rattle.image_step.proofs.quieting.is_below.Goals as goal

pub returns-then-start-addr : goal.returns-then-start-addr
returns-then-start-addr c = λ t.
    let h = c.in-Some.ensures.lookup in
    let e = c.in-Some.entry.now in
    let f = c.from-start.ensures in
    let l : e.addr + 15 ≤ c.args.addr = grind (arith, nat_tests, t, f) in
    below_last c.args.entries.now c.args.place c.args.addr e c.requires h.3.0 h.1 l
