use Rattle.std.proofs.Common.{◌≤◌, ◌+◌, ◌++◌, length, take, arith}
use Rattle.std.proofs.lemmas.Grind.{common_steps}
use Rattle.std.proofs.KnownBytes.{Consumes-trans}
use Rattle.real_files.proofs.streams.read_at_most.Goals as goal

pub returns-then-is_err-clause-taken : goal.returns-then-is_err-clause-taken
returns-then-is_err-clause-taken g c =
    let xs = c.loop-count.bytes.items in
    let ys = take c.in-Ok.count c.read.new.buf in
    let few : length (xs ++ ys) ≤ c.args.most + 1 = grind (arith, common_steps) in
    (xs ++ ys, few, Consumes-trans _ _ _ _ _ c.loop-count.invariant.1 c.in-Ok.ensures.bytes.0)
