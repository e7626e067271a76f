use Rattle.std.proofs.Common.{inl, refl, sym, ◌∙◌}
use Rattle.sound_images.specs.Cases.{case_of}
use Rattle.image_check.proofs.RowRule.{rows_are, short_is, last_of_three, told}
use Rattle.image_check.proofs.site_rule.site_fails.Goals as goal

pub returns-then-row_fails : goal.returns-then-row_fails
returns-then-row_fails c =
    let k = case_of c.args.orig.now.bytes c.args.patched.now.bytes c.args.starts.now c.args.report.now.body in
    (λ t. inl ((rows_are k c.args.addr).0 (sym c.row_fails.ensures ∙ c.if-row_fails.true)), λ s. refl)

pub returns : goal.returns
returns c =
    let k = case_of c.args.orig.now.bytes c.args.patched.now.bytes c.args.starts.now c.args.report.now.body in
    last_of_three _ _ _ _ _ _ c.if-row_fails.false c.if-is_moved_entry.false
    (told _ _ _ c.row_fails.ensures (rows_are k c.args.addr)) c.is_moved_entry.ensures
    (told _ _ _ c.is_short.ensures (short_is c.args.report.now.body c.args.addr))
