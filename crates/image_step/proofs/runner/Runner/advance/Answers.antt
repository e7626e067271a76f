use Rattle.std.proofs.Common.{ℕ, ◌+◌, cond, Bool, ◌&&◌, drop, refl, ap, ◌∙◌}
use Rattle.std.specs.Prelude.{option_copied}
use Rattle.cpu_state.specs.declared.state.State.{State}
use Rattle.cpu_step.specs.Stepping.{machine_of}
use Rattle.cpu_step.specs.Facts.{info_from}
use Rattle.cpu_step.specs.Steps.{avoids_told}
use Rattle.image_runs.specs.Listed.{is_known_start, is_listed_byte, is_start}
use Rattle.image_step.proofs.RunnerSteps.{first_left, quiet_by, step_apart, step_taken, stopped}
use Rattle.image_step.proofs.runner.Runner.advance.Goals as goal

pub returns-in-Err-clause-advances : goal.returns-in-Err-clause-advances
returns-in-Err-clause-advances c =
    let r = c.args.self.now in
    let world = r.world.now in
    let f = first_left world r.used c.get-next.result c.get-next.ensures.lookup in (
      ap (λ (s : State). machine_of s (drop r.used world)) c.in-Err.ensures.unchanged,
      refl,
      refl,
      refl,
      stopped r.state world r.used (option_copied c.get-next.result) c.in-Err.stop f c.in-Err.ensures.told c.in-Err.ensures.steps,
    )

pub returns-clause-advances : goal.returns-clause-advances
returns-clause-advances c =
    let r = c.args.self.now in
    let world = r.world.now in
    let next = option_copied c.get-next.result in
    let info = info_from c.in-Ok.facts in
    let new = c.step_kept.new.state in
    let f = first_left world r.used c.get-next.result c.get-next.ensures.lookup in
    let n = c.count_of.ensures.value in
    let set = is_listed_byte r.starts in
    let apart = step_apart set r.state new world r.used c.count_of.result next info f n c.in-Ok.ensures.touches in
    let start = c.count_of-2.ensures.value ∙ ap (λ (b : Bool). cond b 1 0) c.stand-standing.ensures.start in
    let quiet = c.all_four-self.ensures ∙ (ap (λ (k : Bool). r.quiet && (k && (c.leaves_listed-apart.result && c.stand-standing.result.start))) r.stands
    ∙ (ap (λ (a : Bool). r.quiet && (is_known_start r.starts r.state.rip && (a && c.stand-standing.result.start))) c.leaves_listed-apart.ensures
    ∙ ap (λ (s : Bool). r.quiet && (is_known_start r.starts r.state.rip && (avoids_told set next info && s))) c.stand-standing.ensures.start)) in (
      step_taken r.state new world r.used c.count_of.result next info f n c.in-Ok.ensures.steps,
      refl,
      ap (λ (k : ℕ). r.outside + k) start,
      quiet_by c.all_four-self.result r.quiet (is_known_start r.starts r.state.rip) (avoids_told set next info) (is_start r.starts new.rip) _ quiet apart,
    )
