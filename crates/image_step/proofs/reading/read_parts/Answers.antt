use Rattle.std.proofs.Common.{◌≡◌, None, Some, sym, arith}
use Rattle.std.proofs.lemmas.Bool.Decides.{nat_tests}
use Rattle.image_step.specs.Reading.{read_script_line}
use Rattle.image_step.specs.Taking.{script_in}
use Rattle.image_step.specs.Views.{draft_value, parts_value}
use Rattle.image_step.proofs.TextSoFar.{script_begins, script_ends, script_passed, script_refused, script_stops}
use Rattle.image_step.proofs.reading.read_parts.Goals as goal

pub loop-rest-init : goal.loop-rest-init
loop-rest-init c = script_begins c.args.text.now

pub returns-in_default : goal.returns-in_default
returns-in_default c =
    let d = draft_value c.loop-rest.draft in
    let rest = c.loop-rest.rest.now in
    let h : read_script_line d rest ≡ None = sym (rw c.in_default.is at c.in_ok-next.ensures.value) in
    script_refused c.args.text.now c.loop-rest.place d rest c.loop-rest.invariant h (λ e. grind (arith, nat_tests))

pub loop-rest-preserved : goal.loop-rest-preserved
loop-rest-preserved c =
    let d = draft_value c.loop-rest.draft in
    let rest = c.loop-rest.rest.now in
    let h : read_script_line d rest ≡ Some (draft_value c.in-Some.next, c.in-Some.later.now) = sym (rw c.in-Some.is at c.in_ok-next.ensures.value) in
    script_passed c.args.text.now c.loop-rest.place d (draft_value c.in-Some.next) rest c.in-Some.later.now c.loop-rest.invariant h

pub returns-in-Some-parts_of : goal.returns-in-Some-parts_of
returns-in-Some-parts_of c =
    let d = draft_value c.loop-rest.draft in
    let rest = c.loop-rest.rest.now in
    let h : script_in d ≡ Some (parts_value c.in-Some-parts_of.parts) = sym (rw c.in-Some-parts_of.is at c.parts_of.ensures) in
    script_ends c.args.text.now c.loop-rest.place d rest (parts_value c.in-Some-parts_of.parts) c.loop-rest.invariant (grind (arith, nat_tests)) h

pub returns-in-None : goal.returns-in-None
returns-in-None c =
    let d = draft_value c.loop-rest.draft in
    let rest = c.loop-rest.rest.now in
    let h : script_in d ≡ None = sym (rw c.in-None.is at c.parts_of.ensures) in
    script_stops c.args.text.now c.loop-rest.place d rest c.loop-rest.invariant (grind (arith, nat_tests)) h
