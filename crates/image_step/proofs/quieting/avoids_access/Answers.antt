use Rattle.std.proofs.Common.{◌≡◌, Bool, true, false, ◌&&◌, refl, ap, ◌∙◌}
use Rattle.cpu_state.specs.Bytes.{avoids}
use Rattle.image_runs.specs.Listed.{is_listed_byte}
use Rattle.image_step.proofs.quieting.avoids_access.Goals as goal

and_last : (b : Bool) → b ≡ (b && true)
and_last true = refl
and_last false = refl

pub returns-then-access : goal.returns-then-access
returns-then-access c =
    let set = is_listed_byte c.args.starts.now in
    let a = c.args.access in
    rw c.if-access.true (c.avoids.ensures ∙ (ap (avoids set a.addr) c.from.ensures ∙ and_last (avoids set a.addr a.size)))
