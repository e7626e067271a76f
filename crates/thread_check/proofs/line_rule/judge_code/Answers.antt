use Rattle.std.proofs.Common.{inl, inr, refl, sym, ◌∙◌}
use Rattle.std.proofs.lemmas.Bool.{true≢false}
use Rattle.thread_check.proofs.line_rule.judge_code.Goals as goal

pub returns-in-None : goal.returns-in-None
returns-in-None c = (c.lands.ensures.0 c.if-lands.true, sym c.first_broken.ensures ∙ c.in-None.is)

pub returns-in-Some : goal.returns-in-Some
returns-in-Some c = inr (refl, sym c.first_broken.ensures ∙ c.in-Some.is)

pub returns-else-lands : goal.returns-else-lands
returns-else-lands c = inl (refl, refl, λ l. absurd (true≢false (sym (c.lands.ensures.1 l) ∙ c.if-lands.false)))
