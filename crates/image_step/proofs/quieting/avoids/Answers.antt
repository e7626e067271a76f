use Rattle.std.proofs.Common.{◌≡◌, false, sym, ◌∙◌}
use Rattle.cpu_state.specs.Bytes.{avoids}
use Rattle.image_runs.specs.Listed.{is_listed_byte}
use Rattle.image_step.proofs.AccessesAndStarts.{avoid_more}
use Rattle.image_step.proofs.quieting.avoids.Goals as goal

pub loop-turn-preserved : goal.loop-turn-preserved
loop-turn-preserved c =
    let set = is_listed_byte c.args.starts.now in
    let e : set c.loop-turn.at ≡ false = sym c.is_listed_byte.ensures ∙ c.if-is_listed_byte.false in
    avoid_more set c.loop-turn.at c.args.count c.loop-turn._turn (avoids set c.args.addr c.args.count) c.loop-turn-test.true e c.loop-turn.invariant
