-- What a runner tells of its run is true.
use Rattle.std.proofs.Common.{◌≡◌, ℕ, true, ◌↔◌, count_by, List, [], ◌∷◌, subst}
use Rattle.insn_form.specs.Machine.{Machine}
use Rattle.insn_form.specs.Step.{Step}
use Rattle.start_entries.specs.declared.entry.StartEntry.{StartEntry}
use Rattle.start_entries.specs.Entries.{entries_of}
use Rattle.image_runs.specs.Listed.{is_start}
use Rattle.image_runs.specs.Quiet.{IsQuiet}
use Rattle.image_step.specs.Running.{Goes}
use Rattle.image_step.specs.declared.runner.Runner.{Runner}
use Rattle.image_step.specs.declared.runner.RunEnd.{RunEnd}
use Rattle.guest_findings.specs.Tallies.{IsTallyFrom, tally_of}

-- the tally that a runner tells is that of the first steps from the first state
pub tallied : (n : ℕ) (file ns : List ℕ) (first : Machine) (r : Runner) (e : RunEnd) → r.starts ≡ entries_of file ns → Goes r first [] n e
    → IsTallyFrom first file ns n (tally_of r e)
tallied n file ns first r e q g = record {
  states = g.more;
  run = g.shows.run;
  last = g.shows.here;
  steps = g.steps;
  ends = g.ends;
  outside = subst (λ (es : List StartEntry). r.outside ≡ count_by (λ u. is_start es u.rip) (first ∷ g.more)) q g.shows.outside;
  quiet = subst (λ (es : List StartEntry). (r.quiet ≡ true) ↔ IsQuiet Step es first g.more) q g.shows.quiet;
}
