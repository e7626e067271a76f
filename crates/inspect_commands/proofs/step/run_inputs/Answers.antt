use Rattle.std.proofs.Common.{◌≡◌, ◌+◌, List, [], None, true, ◌∙◌, drop, take, subst, ap}
use Rattle.list_text.proofs.ListGrammar.{lists_are_grammar}
use Rattle.start_entries.specs.Entries.{entries_of}
use Rattle.image_step.specs.declared.delivery.Due.{Due}
use Rattle.image_step.specs.Running.{Shows}
use Rattle.image_step.specs.Scheduled.{EndsBy, GoesOn, are_below}
use Rattle.image_runs.specs.Starting.{start_machine, least_met_of}
use Rattle.inspect_commands.specs.StepTallies.{step_tally_of}
use Rattle.inspect_commands.specs.StepText.{step_text}
use Rattle.inspect_commands.proofs.StepVerdicts.{ran}
use Rattle.inspect_commands.proofs.step.run_inputs.Goals as goal

pub new-requires : goal.new-requires
new-requires c =
    rw c.deref-4.ensures.value ((lists_are_grammar 4194304 c.deref.result.now c.in-Ok.starts.items).0 c.in-Ok.ensures.list).ascending

pub run_due-end-requires-clause-rising : goal.run_due-end-requires-clause-rising
run_due-end-requires-clause-rising c = rw (c.in-Ok-new.ensures.shows.steps, c.deref-5.ensures.value) c.in-Ok-read_scenario.scenario.rising

pub returns-in-Ok-run_text : goal.returns-in-Ok-run_text
returns-in-Ok-run_text c =
    let x = c.args.inputs.now in
    let s = c.in-Ok-read_scenario.scenario in
    let old = c.in-Ok-new.runner in
    let new = c.run_due-end.new.self in
    let end = c.run_due-end.result in
    let says = c.run_due-end.ensures in
    let dues = c.deref-5.ensures.value in
    let a = rw c.deref.ensures.value at c.in-Ok.ensures.list in
    let w = rw c.deref-2.ensures.value at c.in-Ok-read_scenario.ensures in
    let f = rw c.deref-3.ensures.value at c.in-Ok-read_written.ensures.accepted in
    let same = c.in-Ok-read_written.ensures.file.0 ∙ c.deref-3.ensures.value in
    let m = subst (λ bytes. least_met_of bytes s.script.regions ≡ None) same c.in-Ok-new.ensures.accepted in
    let listed = says.starts ∙ subst (λ bytes. old.starts ≡ entries_of bytes c.deref-4.result.now) same c.in-Ok-new.ensures.starts
    ∙ ap (entries_of x.file.items) c.deref-4.ensures.value in
    ran c.args.count x.file.items x.starts.items x.world.items c.in-Ok.starts.items c.in-Ok-run_text.text.items s old new end _
    (record { starts_are = a; scenario_is = w; not_refused = rw (f, m) })
    (record {
      begun = subst (λ bytes. Shows old (start_machine bytes s.script) []) same c.in-Ok-new.ensures.shows;
      listed_are = listed;
      steps = says.steps;
      goes_on = subst (λ (ds : List Due). GoesOn old new (take end.made ds)) dues says.goes_on;
      due = subst (λ (ds : List Due). are_below (old.steps + c.args.count) (take end.made ds) ≡ true) dues says.due;
      ends = subst (λ (ds : List Due). EndsBy end.halted new (drop end.made ds) end.steps c.args.count) dues says.ends;
    })
    (c.in-Ok-run_text.ensures ∙ ap (λ (ds : List Due). step_text ds (step_tally_of new end)) c.deref-6.ensures.value) c.step_status.ensures
