use Rattle.std.proofs.Common.{ℕ, Some, sym, ap, ◌∙◌}
use Rattle.patch_report.specs.Reading.{At}
use Rattle.patch_report.specs.Views.{at_value}
use Rattle.patch_report.proofs.NextLine.{front_is_next, none_is_next}
use Rattle.patch_report.proofs.line_reading.next_line.Goals as goal

pub returns-in_default-clause-value : goal.returns-in_default-clause-value
returns-in_default-clause-value c = sym (none_is_next (at_value c.args.at) (sym (rw c.in_default.is at c.read_line.ensures)))

pub returns-clause-value : goal.returns-clause-value
returns-clause-value c =
    ap (λ (n : ℕ). let next : At = record { place = n; text = c.in-Some.text.now } in Some (c.in-Some.line, next))
    c.saturating_add.ensures
    ∙ sym (front_is_next (at_value c.args.at) c.in-Some.line c.in-Some.text.now (sym (rw c.in-Some.is at c.read_line.ensures))).0

pub returns-clause-holds : goal.returns-clause-holds
returns-clause-holds c =
    (front_is_next (at_value c.args.at) c.in-Some.line c.in-Some.text.now (sym (rw c.in-Some.is at c.read_line.ensures))).1
