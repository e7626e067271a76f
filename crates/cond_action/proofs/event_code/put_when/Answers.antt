use Rattle.std.proofs.Common.{◌∷◌, [], ◌++◌, List, ℕ, ap, ◌∙◌, arith}
use Rattle.std.specs.List.{list_all}
use Rattle.pun_base.specs.Actions.{listed}
use Rattle.event_steps.specs.EventSteps.{long, code, has_condition}
use Rattle.cond_action.proofs.ListedConditions.{cond_code_is, conditions_are, few_bytes}
use Rattle.cond_action.proofs.event_code.put_when.Goals as goal

pub put_steps-requires-clause-room : goal.put_steps-requires-clause-room
put_steps-requires-clause-room c =
    let e = ap long (c.as_slice.ensures.value ∙ c.cond_steps-steps.ensures) in
    omega (arith, c.requires.room, e, few_bytes c.args.base c.args.list 0 0)

pub put_steps-requires-clause-conditions : goal.put_steps-requires-clause-conditions
put_steps-requires-clause-conditions c = ap (list_all has_condition) (c.as_slice.ensures.value ∙ c.cond_steps-steps.ensures) ∙ conditions_are c.args.base (listed c.args.list) 0 0

pub returns : goal.returns
returns c =
    let old = c.args.code.now in
    let steps = c.as_slice.ensures.value ∙ c.cond_steps-steps.ensures in
    c.put_steps.ensures ∙ (λ j. old ++ code (c.at.ensures j ∷ c.at-2.ensures j ∷ c.marked_datum.ensures j ∷ []) (steps j))
    ∙ ap (λ (l : List ℕ). old ++ l) (cond_code_is c.args.private c.args.number c.args.base (listed c.args.list))
