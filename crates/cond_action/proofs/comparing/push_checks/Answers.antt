use Rattle.std.proofs.Common.{ℕ, List, [], ◌∷◌, ◌++◌, sym, ap, ◌∙◌}
use Rattle.std.proofs.lemmas.List.{append_assoc}
use Rattle.pun_base.specs.declared.action.Comparison.{Comparison}
use Rattle.pun_base.specs.Actions.{listed}
use Rattle.event_steps.specs.declared.step.EventStep.{EventStep}
use Rattle.event_steps.specs.declared.step.EventStep.TheVariants.{Compare, SkipIf}
use Rattle.cond_action.specs.Codes.{failing}
use Rattle.cond_action.specs.CondLists.{register_checks}
use Rattle.cond_action.proofs.comparing.push_checks.Goals as goal

-- a comparison with its jump
abbrev check : Comparison → ℕ → List EventStep
check c over = Compare c.reg c.value ∷ SkipIf (failing c.op) over ∷ []

pub returns-in-Three : goal.returns-in-Three
returns-in-Three c =
    let old = c.args.steps.now.items in
    let x = check c.in-Three.a 5 in
    let y = check c.in-Three.b 3 in
    let z = check c.in-Three.c 1 in
    c.push_check-in-Three-3.ensures
    ∙ ap (λ (l : List EventStep). l ++ z) (c.push_check-in-Three-2.ensures ∙ ap (λ (l : List EventStep). l ++ y) c.push_check-in-Three.ensures ∙ append_assoc old x y)
    ∙ append_assoc old (x ++ y) z
    ∙ ap (λ l. old ++ register_checks (listed l)) (sym c.in-Three.is)
