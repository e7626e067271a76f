-- A quiet run is a run.
use Rattle.std.proofs.Common.{ℕ, Bool, [], ◌∷◌}
use Rattle.insn_form.specs.Machine.{Machine}
use Rattle.insn_form.specs.Step.{Step, next_after, task_of}
use Rattle.insn_form.specs.Runs.{nowhere}
use Rattle.insn_form.proofs.TouchedMemory.{leaves_nowhere}
use Rattle.rewrite_core.specs.Glosses.{QuietRuns}

-- a step that leaves a set alone is a step
step_anywhere : (set : ℕ → Bool) (s t : Machine) → Step set s t → Step nowhere s t
step_anywhere set s t x =
    let next = next_after s.rip x.0 in
    (x.0, record { at = x.1.at; apart = leaves_nowhere (task_of x.0 next) next s; acts = x.1.acts })

-- a quiet run is a run
pub quiet : QuietRuns Step
quiet r s [] q = tt
quiet r s (t ∷ ts) q = (step_anywhere _ s t q.0.1, quiet r t ts q.1)
