use Rattle.patch_report.specs.Values.{write_value}
use Rattle.image_check.proofs.NearCounts.{near_told}
use Rattle.image_check.proofs.flat.FlatReport.near_runs.Goals as goal

pub returns : goal.returns
returns c = near_told write_value (λ w. w.addr) 16 c.args.addr c.near.result.now c.runs.result.now _ c.near.ensures.near c.runs.ensures.moved
