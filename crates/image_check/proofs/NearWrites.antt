-- Rule 2 for runs near an address.
use Rattle.std.proofs.Common.{◌≡◌, ℕ, List}
use Rattle.std.specs.List.{list_any}
use Rattle.std.proofs.lemmas.Bool.{and_parts}
use Rattle.pun_base.specs.declared.plan.Write.{Write}
use Rattle.patch_report.specs.Values.{write_value}
use Rattle.image_check.specs.Nearness.{IsNear}
use Rattle.sound_images.specs.Reports.{in_run, runs}
use Rattle.sound_images.specs.Rules.{Case, mistells}
use Rattle.image_check.proofs.NearCounts.{any_near, run_held}

-- a run that tells a wrong byte there is near
pub mistold_near : (c : Case) (x : ℕ) (near : List Write) → IsNear write_value (λ (w : Write). w.addr) 16 x near (runs c.report)
    → list_any (λ (w : Write). mistells c x (write_value w)) near ≡ list_any (mistells c x) (runs c.report)
mistold_near c x near n =
    any_near write_value (λ (w : Write). w.addr) 16 x near (runs c.report) n (mistells c x)
    (λ w h. run_held x w (and_parts (in_run x (write_value w)) _ h).0)
