use Rattle.std.proofs.Common.{◌≡◌, None, Some, sym, arith}
use Rattle.std.proofs.lemmas.Bool.Decides.{nat_tests}
use Rattle.image_step.specs.ScenarioReading.{read_scenario_line, scenario_in}
use Rattle.image_step.specs.ScenarioViews.{scenario_draft_value, scenario_parts_value}
use Rattle.image_step.proofs.ScenarioTexts.{line_passed, line_refused, text_begins, text_ends, text_stops}
use Rattle.image_step.proofs.scenario_reading.read_scenario_parts.Goals as goal

pub loop-rest-init : goal.loop-rest-init
loop-rest-init c = text_begins c.args.text.now

pub returns-in_default : goal.returns-in_default
returns-in_default c =
    let d = scenario_draft_value c.loop-rest.draft in
    let rest = c.loop-rest.rest.now in
    let h : read_scenario_line d rest ≡ None = sym (rw c.in_default.is at c.in_ok-next.ensures.value) in
    line_refused c.args.text.now c.loop-rest.place d rest c.loop-rest.invariant h (λ e. grind (arith, nat_tests))

pub loop-rest-preserved : goal.loop-rest-preserved
loop-rest-preserved c =
    let d = scenario_draft_value c.loop-rest.draft in
    let rest = c.loop-rest.rest.now in
    let h : read_scenario_line d rest ≡ Some (scenario_draft_value c.in-Some.next, c.in-Some.later.now) = sym (rw c.in-Some.is at c.in_ok-next.ensures.value) in
    line_passed c.args.text.now c.loop-rest.place d (scenario_draft_value c.in-Some.next) rest c.in-Some.later.now c.loop-rest.invariant h

pub returns-in-Some-scenario_parts_of : goal.returns-in-Some-scenario_parts_of
returns-in-Some-scenario_parts_of c =
    let d = scenario_draft_value c.loop-rest.draft in
    let rest = c.loop-rest.rest.now in
    let h : scenario_in d ≡ Some (scenario_parts_value c.in-Some-scenario_parts_of.parts) = sym (rw c.in-Some-scenario_parts_of.is at c.scenario_parts_of.ensures) in
    text_ends c.args.text.now c.loop-rest.place d rest (scenario_parts_value c.in-Some-scenario_parts_of.parts) c.loop-rest.invariant (grind (arith, nat_tests)) h

pub returns-in-None : goal.returns-in-None
returns-in-None c =
    let d = scenario_draft_value c.loop-rest.draft in
    let rest = c.loop-rest.rest.now in
    let h : scenario_in d ≡ None = sym (rw c.in-None.is at c.scenario_parts_of.ensures) in
    text_stops c.args.text.now c.loop-rest.place d rest c.loop-rest.invariant (grind (arith, nat_tests)) h
