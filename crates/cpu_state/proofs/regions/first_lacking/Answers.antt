use Rattle.std.proofs.Common.{◌≡◌, ◌-◌, ◌+◌, sym, ap, ◌∙◌, arith}
use Rattle.cpu_state.specs.Bytes.{allows}
use Rattle.cpu_state.specs.Regions.{cell_at}
use Rattle.cpu_state.proofs.RegionCells.{lacking_some, lacking_more}
use Rattle.cpu_state.proofs.RegionSpans.{lacking_held}
use Rattle.cpu_state.proofs.regions.first_lacking.Goals as goal

pub loop-k-preserved : goal.loop-k-preserved
loop-k-preserved c =
    let p = c.args.perm in let m = cell_at c.args.regions.now in let left = c.args.count - c.loop-k._k in
    let next : c.args.count - (c.loop-k._k + 1) ≡ left - 1 = omega arith in
    c.loop-k.invariant ∙ lacking_more p m c.loop-k.at left _ next (omega arith) (ap (allows p) (sym c.find.ensures) ∙ sym c.if-not-is_allowed.ensures)

pub returns-then-not-is_allowed : goal.returns-then-not-is_allowed
returns-then-not-is_allowed c =
    let p = c.args.perm in let m = cell_at c.args.regions.now in
    sym (c.loop-k.invariant ∙ lacking_some p m c.loop-k.at (c.args.count - c.loop-k._k) (omega arith) (ap (allows p) (sym c.find.ensures) ∙ sym c.if-not-is_allowed.ensures))

pub returns-in-Some : goal.returns-in-Some
returns-in-Some c =
    lacking_held c.args.perm (cell_at c.args.regions.now) c.args.addr c.args.count _ c.in-Some.ensures.count c.in-Some.ensures.held
