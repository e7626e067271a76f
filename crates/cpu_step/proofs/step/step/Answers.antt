use Rattle.std.proofs.Common.{refl, ◌∙◌, option_copied}
use Rattle.cpu_step.proofs.JudgedTasks.{steps_by, stays_by}
use Rattle.cpu_step.proofs.ToldTouches.{touches_by, uses_by}
use Rattle.cpu_step.proofs.step.step.Goals as goal

pub returns-clause-told : goal.returns-clause-told
returns-clause-told c = c.with_lists.ensures ∙ c.advance.ensures.told

pub returns-clause-steps : goal.returns-clause-steps
returns-clause-steps c =
    steps_by (option_copied c.args.next) c.args.state.now c.advance.new.state c.with_lists.result _ refl
    (c.with_lists.ensures ∙ c.advance.ensures.told) c.advance.ensures.moved

pub returns-clause-touches : goal.returns-clause-touches
returns-clause-touches c =
    touches_by (option_copied c.args.next) c.args.state.now c.advance.new.state c.with_lists.result _ refl
    (c.with_lists.ensures ∙ c.advance.ensures.told) c.advance.ensures.moved

pub returns-clause-uses : goal.returns-clause-uses
returns-clause-uses c =
    uses_by (option_copied c.args.next) c.args.state.now c.advance.new.state c.with_lists.result _ refl
    (c.with_lists.ensures ∙ c.advance.ensures.told) c.advance.ensures.moved

pub returns-clause-unchanged : goal.returns-clause-unchanged
returns-clause-unchanged c = stays_by c.args.state.now c.advance.new.state c.with_lists.result _ (c.with_lists.ensures ∙ c.advance.ensures.told) c.advance.ensures.moved
