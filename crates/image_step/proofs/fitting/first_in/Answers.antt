use Rattle.std.proofs.Common.{◌≡◌, true, sym, ◌∙◌}
use Rattle.cpu_state.specs.Regions.{cell_at}
use Rattle.image_step.specs.Fitting.{addresses_from, first_refused, is_open}
use Rattle.image_step.proofs.OpenBytes.{first_more}
use Rattle.image_step.proofs.fitting.first_in.Goals as goal

pub loop-turn-preserved : goal.loop-turn-preserved
loop-turn-preserved c =
    let test = is_open c.args.starts.now (cell_at c.args.memory.now) in
    let e : test c.loop-turn.at ≡ true = sym c.is_open.ensures ∙ c.if-not-is_open.false in
    first_more test c.loop-turn.at c.args.count c.loop-turn._turn (first_refused test (addresses_from c.args.addr c.args.count)) c.loop-turn-test.true e
    c.loop-turn.invariant
