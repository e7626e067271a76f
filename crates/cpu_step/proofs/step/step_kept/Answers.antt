use Rattle.std.proofs.Common.{◌≡◌, refl, option_copied}
use Rattle.cpu_step.specs.Facts.{told_info}
use Rattle.cpu_step.proofs.JudgedTasks.{steps_by, stays_by, stop_kept}
use Rattle.cpu_step.proofs.ToldTouches.{touches_by, uses_by}
use Rattle.cpu_step.proofs.step.step_kept.Goals as goal

pub returns-clause-steps : goal.returns-clause-steps
returns-clause-steps c =
    steps_by (option_copied c.args.next) c.args.state.now c.advance_kept.new.state (told_info c.advance_kept.result) _ refl
    c.advance_kept.ensures.told c.advance_kept.ensures.moved

pub returns-clause-touches : goal.returns-clause-touches
returns-clause-touches c =
    touches_by (option_copied c.args.next) c.args.state.now c.advance_kept.new.state (told_info c.advance_kept.result) _ refl
    c.advance_kept.ensures.told c.advance_kept.ensures.moved

pub returns-clause-uses : goal.returns-clause-uses
returns-clause-uses c =
    uses_by (option_copied c.args.next) c.args.state.now c.advance_kept.new.state (told_info c.advance_kept.result) _ refl
    c.advance_kept.ensures.told c.advance_kept.ensures.moved

pub returns-clause-unchanged : goal.returns-clause-unchanged
returns-clause-unchanged c =
    stop_kept c.advance_kept.result (c.advance_kept.new.state ≡ c.args.state.now)
    (stays_by c.args.state.now c.advance_kept.new.state (told_info c.advance_kept.result) _ c.advance_kept.ensures.told c.advance_kept.ensures.moved)
