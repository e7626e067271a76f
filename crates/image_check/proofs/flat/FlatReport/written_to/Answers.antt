use Rattle.std.proofs.Common.{sym, ◌∙◌}
use Rattle.std.specs.Prelude.{◌&&◌}
use Rattle.std.proofs.lemmas.Bool.{and_parts}
use Rattle.pun_base.specs.declared.plan.Write.{Write}
use Rattle.patch_report.specs.Values.{WriteValue, write_value}
use Rattle.sound_images.specs.Reports.{in_run, runs}
use Rattle.image_check.proofs.NearCounts.{any_near, run_held}
use Rattle.image_check.proofs.SharedPages.{any_implies}
use Rattle.image_check.proofs.flat.FlatReport.written_to.Goals as goal

pub returns-clause-written : goal.returns-clause-written
returns-clause-written c x l m =
    let a = c.args.addr in
    any_implies (λ (w : WriteValue). in_run a w && in_run x w) (in_run x) (λ w h. (and_parts (in_run a w) (in_run x w) h).1) (runs c.args.self.now)
    (sym (any_near write_value (λ (w : Write). w.addr) 16 a c.near_runs.result.now (runs c.args.self.now) c.near_runs.ensures
    (λ (w : WriteValue). in_run a w && in_run x w) (λ w h. run_held a w (and_parts (in_run a (write_value w)) (in_run x (write_value w)) h).0))
    ∙ c.end_among.ensures.written x l m)
