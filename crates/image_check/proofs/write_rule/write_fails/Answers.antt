use Rattle.std.proofs.Common.{sym, ◌∙◌}
use Rattle.image_check.proofs.RuleTests.{write_first, write_last}
use Rattle.image_check.proofs.write_rule.write_fails.Goals as goal

pub returns-then-is_mistold : goal.returns-then-is_mistold
returns-then-is_mistold c = write_first _ _ _ _ (sym c.is_written.ensures ∙ c.if-is_written.true) (c.is_mistold.ensures c.args.starts.now) c.if-is_mistold.true

pub returns-else-times_written-ge2 : goal.returns-else-times_written-ge2
returns-else-times_written-ge2 c = write_last _ _ _ _ _ _ (sym c.is_written.ensures ∙ c.if-is_written.true) (sym (c.is_mistold.ensures c.args.starts.now) ∙ c.if-is_mistold.false) c.times_written.ensures c.if-times_written-ge2.false (c.belongs.ensures c.args.orig.now.bytes c.args.patched.now.bytes)
