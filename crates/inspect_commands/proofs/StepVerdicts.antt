-- The texts of `step` are judged and run.
use Rattle.std.proofs.Common.{◌≡◌, ◌↔◌, ℕ, ◌+◌, ◌≤◌, true, inl, inr, List, [], ◌∷◌, ◌++◌, take, drop, Option, Some, None, Result, Ok, Err, refl, sym, ap, subst, ◌∙◌, arith}
use Rattle.std.specs.Prelude.{count_by}
use Rattle.elf_read.specs.Refusals as files
use Rattle.elf_read.specs.declared.refusal.ElfError.{ElfError}
use Rattle.elf_read.specs.declared.refusal.ElfError.TheVariants as elf
use Rattle.insn_form.specs.Machine.{Machine}
use Rattle.insn_form.specs.Step.{Step}
use Rattle.start_entries.specs.Entries.{entries_of}
use Rattle.start_entries.specs.declared.entry.StartEntry.{StartEntry}
use Rattle.image_runs.specs.Deliveries.{IsQuietWith, IsRunWith, end_of, stepped_at}
use Rattle.image_runs.specs.Listed.{is_start}
use Rattle.image_step.specs.Running.{Meets, Shows, machine_in}
use Rattle.image_step.specs.ScenarioAnswers.{IsTextOfScenario, scenario_value}
use Rattle.image_step.specs.ScenarioText.{ScenarioValue}
use Rattle.image_step.specs.Scheduled.{EndsBy, GoesOn, HaltsBy, are_below}
use Rattle.image_runs.specs.Starting.{start_machine}
use Rattle.image_step.specs.declared.delivery.Due.{Due}
use Rattle.image_step.specs.declared.delivery.DueEnd.{DueEnd}
use Rattle.image_step.specs.declared.delivery.Halted.{Halted}
use Rattle.image_step.specs.declared.scenario.Scenario.{Scenario}
use Rattle.image_step.specs.declared.error.ScriptError.{ScriptError}
use Rattle.image_step.specs.declared.error.ScriptError.TheVariants as script
use Rattle.list_text.specs.declared.refusal.ListError.{ListError}
use Rattle.image_step.specs.declared.runner.Runner.{Runner}
use Rattle.image_step.specs.declared.runner_error.RunnerError.{RunnerError}
use Rattle.image_step.specs.declared.runner_error.RunnerError.TheVariants as runner
use Rattle.command_io.specs.Refusals as refusals
use Rattle.command_io.specs.Refusals.{Refusal, BadFile}
use Rattle.command_io.specs.Verdict.{starts_of}
use Rattle.command_io.specs.Failing.{Judges, file_failed, runner_failed}
use Rattle.inspect_commands.specs.StepTallies.{IsStepTally, step_tally_of}
use Rattle.inspect_commands.specs.StepText.{step_text, step_status}
use Rattle.inspect_commands.specs.StepAnswers.{run_refusal, AreRun, StepAccepts, IsScenarioRead, OfWorld, OfStarts, StepRefuses, TellsRun, StepTells, IsStepStatus}
use Rattle.inspect_commands.specs.Stepping.{step_texts}
use Rattle.inspect_commands.specs.declared.step.StepInputs.{StepInputs}
use Rattle.command_io.specs.declared.ends.Input.TheVariants as input
use Rattle.command_io.proofs.ReadingEnds.{Agree}
use Rattle.image_step.proofs.Steps.{shows_plain}

-- ---- the rules of `step` agree

-- two scripts of one text have the same regions
same_regions : (world : List ℕ) (s u : Scenario) → IsTextOfScenario world (scenario_value s) → IsTextOfScenario world (scenario_value u)
    → u.script.regions ≡ s.script.regions
same_regions world s u a b = ap (λ (v : ScenarioValue). v.script.regions) (a.one (scenario_value u) b.holds b.spelled)

-- the text of a script is read as nothing else
of_world : (file starts world ns : List ℕ) (s : Scenario) (q : Result Scenario ScriptError) (r : Refusal)
    → AreRun file starts world ns s → IsScenarioRead world q → OfWorld file q r → ⊥
of_world file starts world ns s (Ok u) r a i h =
    let p = a.not_refused in
    let e = ap (run_refusal file) (same_regions world s u a.scenario_is i) in
    cc
of_world file starts world ns s (Err (script.BadScript line)) r a i h = i.other (scenario_value s) a.scenario_is.holds a.scenario_is.spelled
of_world file starts world ns s (Err script.Memory) r a i h = absurd i

own_halted : (o : Option Halted) → IsStepStatus (step_status o)
own_halted None = inl refl
own_halted (Some h) = inr refl

-- the status of a run is one of `step`
pub step_own : (n : ℕ) (texts : List (List ℕ)) (text : List ℕ) (status : ℕ) → StepTells n texts text status → IsStepStatus status
step_own n (file ∷ starts ∷ world ∷ []) text status h = subst IsStepStatus (sym h.answered) (own_halted h.tally.halted)
step_own n other text status h = absurd h

step_accepted : (n : ℕ) (texts : List (List ℕ)) (text : List ℕ) (status : ℕ) → StepTells n texts text status → StepAccepts texts
step_accepted n (file ∷ starts ∷ world ∷ []) text status h = (h.list, (h.scenario, h.accepted))
step_accepted n other text status h = absurd h

-- texts that are accepted are not refused
step_apart : (texts : List (List ℕ)) (r : Refusal) → StepAccepts texts → StepRefuses texts r → ⊥
step_apart (file ∷ starts ∷ world ∷ []) r a h =
    let o = subst (λ (l : Result (List ℕ) ListError). OfStarts file world l r) a.1.1.starts_are h in
    of_world file starts world a.0 a.1.0 o.0 r a.1.1 o.1 o.2
step_apart other r a h = absurd a

own_apart : (status : ℕ) → IsStepStatus status → 3 ≤ status → status ≤ 6 → ⊥
own_apart status (inl e) h k = omega arith
own_apart status (inr e) h k = omega arith

-- what `step` tells it accepted, what it accepts it doesn't refuse, and its statuses are none of a refusal or a fault
pub step_agrees : (n : ℕ) → Agree StepAccepts StepRefuses (StepTells n) IsStepStatus
step_agrees n = record { accepted = step_accepted n; apart = step_apart; own = own_apart }

-- ---- each refusal

module _ (n : ℕ) (x : StepInputs) (ns : List ℕ) (s : Scenario) (a : starts_of x.starts.items ≡ Ok ns)
    (t : IsTextOfScenario x.world.items (scenario_value s)) where
  -- behind a list and a script, the first refusal decides
  decides : (r : Refusal) → run_refusal x.file.items s.script.regions ≡ Some r → StepRefuses (step_texts x) r
  decides r h = subst (λ (l : Result (List ℕ) ListError). OfStarts x.file.items x.world.items l r) (sym a) (Ok s, t, h)

  -- a refused FILE is all that is to be said
  pub file_refused : (e : ElfError) → files.Refused 0x10000 x.file.items e → Judges StepRefuses (StepTells n) (step_texts x) (Err (file_failed input.File e))
  file_refused elf.Memory h = tt
  file_refused e h = decides (BadFile input.File e) (rw h)

  -- so is a region of the script that meets the file's image, where all three texts are accepted
  pub region_refused : (e : RunnerError) → files.refusal 0x10000 x.file.items ≡ None → Meets x.file.items s.script.regions (Some e)
      → Judges StepRefuses (StepTells n) (step_texts x) (Err (runner_failed e))
  region_refused runner.Memory f h = tt
  region_refused (runner.RegionMeets lo) f h = decides (refusals.Meets (runner.RegionMeets lo)) (rw (f, h))

-- ---- the run

-- What a runner told at its start and at its end.
pub record Ran (old new : Runner) (first : Machine) (listed : List StartEntry) (dues : List Due) (n : ℕ) (end : DueEnd) : Type 0 where
  pub begun : Shows old first []
  pub listed_are : new.starts ≡ listed
  pub steps : new.steps ≡ old.steps + end.steps
  pub goes_on : GoesOn old new (take end.made dues)
  pub due : are_below (old.steps + n) (take end.made dues) ≡ true
  pub ends : EndsBy end.halted new (drop end.made dues) end.steps n

-- it tells the tally of its run
tallied : (old new : Runner) (first : Machine) (listed : List StartEntry) (dues : List Due) (n : ℕ) (end : DueEnd) → Ran old new first listed dues n end
    → IsStepTally first listed dues n (step_tally_of new end)
tallied old new first listed dues n end r =
    let w = r.goes_on first [] ((shows_plain old first []).0 r.begun) in
    let none : old.steps ≡ 0 = r.begun.steps in
    let made : new.steps ≡ end.steps = omega (arith, r.steps) in
    let last : old.steps + n ≡ n = omega arith in
    let halts : HaltsBy end.halted listed (machine_in new) end.steps (drop end.made dues) end.steps n =
    subst (λ (ls : List StartEntry). HaltsBy end.halted ls (machine_in new) end.steps (drop end.made dues) end.steps n) r.listed_are
    (subst (λ (k : ℕ). HaltsBy end.halted new.starts (machine_in new) k (drop end.made dues) end.steps n) made r.ends) in
    record {
      items = w.0;
      run = subst (λ (ls : List StartEntry). IsRunWith Step ls first w.0) r.listed_are w.1.run;
      last = w.1.here;
      steps = sym made ∙ w.1.steps;
      made = w.2;
      due = subst (λ (k : ℕ). are_below k (take end.made dues) ≡ true) last r.due;
      ends = halts;
      outside = subst (λ (ls : List StartEntry). new.outside ≡ count_by (λ u. is_start ls u.rip) (stepped_at first w.0 ++ end_of first w.0 ∷ [])) r.listed_are w.1.outside;
      quiet = subst (λ (ls : List StartEntry). (new.quiet ≡ true) ↔ IsQuietWith Step ls first w.0) r.listed_are w.1.quiet;
    }

-- of accepted texts the tally of the run is told, with its status
pub ran : (n : ℕ) (file starts world ns text : List ℕ) (s : Scenario) (old new : Runner) (end : DueEnd) (status : ℕ) → AreRun file starts world ns s
    → Ran old new (start_machine file s.script) (entries_of file ns) s.dues.items n end → text ≡ step_text s.dues.items (step_tally_of new end)
    → status ≡ step_status end.halted → TellsRun n file starts world text status
ran n file starts world ns text s old new end status a r t u = record {
  list = ns;
  scenario = s;
  tally = step_tally_of new end;
  accepted = a;
  ran = tallied old new (start_machine file s.script) (entries_of file ns) s.dues.items n end r;
  told = t;
  answered = u;
}
