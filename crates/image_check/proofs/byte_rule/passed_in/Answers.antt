use Rattle.std.proofs.Common.{sym, ◌∙◌}
use Rattle.image_check.proofs.byte_rule.passed_in.Goals as goal

pub passed_both-requires-clause-now : goal.passed_both-requires-clause-now
passed_both-requires-clause-now c = sym c.segment_at.ensures.value ∙ c.in-Some.is
