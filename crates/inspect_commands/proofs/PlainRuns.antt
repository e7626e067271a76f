-- A run without deliveries is told as its steps.
use Rattle.std.proofs.Common.{◌≡◌, ◌↔◌, ℕ, ◌+◌, true, List, [], ◌∷◌, ◌++◌, length, map, take, drop, Option, Some, None, refl, sym, ap, subst, ◌∙◌}
use Rattle.std.specs.Prelude.{count_by}
use Rattle.std.proofs.Math.Seq.{take-nil, drop-nil}
use Rattle.cpu_step.specs.declared.stop.Stop.{Stop}
use Rattle.insn_form.specs.Machine.{Machine}
use Rattle.insn_form.specs.Step.{Step}
use Rattle.start_entries.specs.Entries.{entries_of}
use Rattle.start_entries.specs.declared.entry.StartEntry.{StartEntry}
use Rattle.image_step.specs.Answers.{IsTextOf}
use Rattle.image_runs.specs.Deliveries.{Item, Stepped, Taken, IsQuietWith, IsRunWith, end_of, stepped_at}
use Rattle.image_runs.specs.Listed.{is_start}
use Rattle.image_step.specs.Running.{Ends}
use Rattle.image_step.specs.ScenarioAnswers.{scenario_value}
use Rattle.image_step.specs.ScenarioText.{ScenarioValue, due_value}
use Rattle.image_step.specs.Scheduled.{HaltsBy, halted_by, numbered}
use Rattle.image_runs.specs.Starting.{start_machine}
use Rattle.image_step.specs.Values.{ScriptValue, script_value}
use Rattle.image_step.specs.declared.delivery.Due.{Due}
use Rattle.image_step.specs.declared.delivery.Halted.{Halted}
use Rattle.image_step.specs.declared.delivery.Halted.TheVariants.{NoStep, NoFit}
use Rattle.image_runs.proofs.MoreItems.{plain_end, plain_length, plain_quiet, plain_run, plain_states}
use Rattle.image_step.proofs.PlainScenarios.{scenario_same}
use Rattle.guest_findings.specs.Tallies.{Tally, IsTallyFrom}
use Rattle.inspect_commands.specs.StepAnswers.{TellsRun}
use Rattle.inspect_commands.specs.StepLaws.{TellsPlainRun, undelivered}
use Rattle.inspect_commands.specs.StepTallies.{IsStepTally, StepTally}
use Rattle.inspect_commands.specs.StepText.{step_status, step_text}

-- items without deliveries are steps
plain_items : (k : ℕ) (is : List Item) → numbered k is ≡ [] → (ts : List Machine) × (is ≡ map Stepped ts)
plain_items k [] h = ([], refl)
plain_items k (Stepped t ∷ is) h = let p = plain_items (k + 1) is h in (t ∷ p.0, ap (λ (js : List Item). Stepped t ∷ js) p.1)
plain_items k (Taken d ∷ is) h = absurd cc

abbrev plain_stop : Option Halted → Option Stop
plain_stop None = None
plain_stop (Some (NoStep stop)) = Some stop
plain_stop (Some (NoFit e)) = None

-- no delivery is left that doesn't fit
plain_ends : (o : Option Halted) (listed : List StartEntry) (last : Machine) (k made n : ℕ) → HaltsBy o listed last k [] made n
    → Ends (plain_stop o) last made n × (o ≡ halted_by (plain_stop o))
plain_ends None listed last k made n e = (e.0, refl)
plain_ends (Some (NoStep stop)) listed last k made n e = ((e.0, e.1), refl)
plain_ends (Some (NoFit u)) listed last k made n e = absurd e

abbrev plain_tally : StepTally → Tally
plain_tally t = record { steps = t.steps; stop = plain_stop t.halted; quiet = t.quiet; outside = t.outside; last = t.last }

-- the tally of such a run is that of its steps
plain_told : (file starts : List ℕ) (first : Machine) (n : ℕ) (t : StepTally) → IsStepTally first (entries_of file starts) [] n t
    → IsTallyFrom first file starts n (plain_tally t) × (t.halted ≡ halted_by (plain_stop t.halted))
plain_told file starts first n t r =
    let listed : List StartEntry = entries_of file starts in
    let count = λ (us : List Machine). count_by (λ u. is_start listed u.rip) us in
    let p = plain_items 0 r.items (r.made ∙ take-nil t.made) in
    let run : IsRunWith Step listed first (map Stepped p.0) = subst (λ (is : List Item). IsRunWith Step listed first is) p.1 r.run in
    let quiet : (t.quiet ≡ true) ↔ IsQuietWith Step listed first (map Stepped p.0) =
    subst (λ (is : List Item). (t.quiet ≡ true) ↔ IsQuietWith Step listed first is) p.1 r.quiet in
    let e = plain_ends t.halted listed t.last t.steps t.steps n
    (subst (λ (ds : List Due). HaltsBy t.halted listed t.last t.steps ds t.steps n) (drop-nil t.made) r.ends) in (
      record {
        states = p.0;
        run = (plain_run listed first p.0).0 run;
        last = r.last ∙ (ap (end_of first) p.1 ∙ plain_end first p.0);
        steps = r.steps ∙ (ap (λ (is : List Item). length (stepped_at first is)) p.1 ∙ plain_length first p.0);
        ends = e.0;
        outside = r.outside ∙ (ap (λ (is : List Item). count (stepped_at first is ++ end_of first is ∷ [])) p.1 ∙ ap count (plain_states first p.0));
        quiet = (λ q. (plain_quiet listed first p.0).0 (quiet.0 q), λ q. quiet.1 ((plain_quiet listed first p.0).1 q));
      },
      e.1,
    )

no_dues : (ds : List Due) → map due_value ds ≡ [] → ds ≡ []
no_dues [] h = refl
no_dues (d ∷ ds) h = absurd cc

abbrev with_halted : StepTally → Option Halted → StepTally
with_halted t o = record { steps = t.steps; made = 0; halted = o; quiet = t.quiet; outside = t.outside; last = t.last }

-- of a script without deliveries its run is told
pub plain_runs : (n : ℕ) (file starts world text : List ℕ) (status : ℕ) (v : ScriptValue) → IsTextOf world v → TellsRun n file starts world text status
    → TellsPlainRun n file starts world text status
plain_runs n file starts world text status v t r =
    let s = r.scenario in
    let held = r.accepted.scenario_is in
    let same : scenario_value s ≡ record { dues = []; script = v } = ((scenario_same world v).0 t).one (scenario_value s) held.holds held.spelled in
    let none : s.dues.items ≡ [] = no_dues s.dues.items (ap (λ (z : ScenarioValue). z.dues) same) in
    let script : script_value s.script ≡ v = ap (λ (z : ScenarioValue). z.script) same in
    let first : Machine = start_machine file s.script in
    let w = plain_told file r.list first n r.tally (subst (λ (ds : List Due). IsStepTally first (entries_of file r.list) ds n r.tally) none r.ran) in
    record {
      list = r.list;
      script = s.script;
      tally = plain_tally r.tally;
      starts_are = r.accepted.starts_are;
      script_is = subst (IsTextOf world) (sym script) t;
      not_refused = r.accepted.not_refused;
      ran = w.0;
      told = r.told ∙ (ap (λ (ds : List Due). step_text ds r.tally) none ∙ ap (λ (o : Option Halted). step_text [] (with_halted r.tally o)) w.1);
      answered = r.answered ∙ ap step_status w.1;
    }
