use Rattle.std.proofs.Common.{◌≡◌, ◌-◌}
use Rattle.patch_report.specs.Reading.{pages_at}
use Rattle.patch_report.specs.Views.{at_value}
use Rattle.patch_report.proofs.PagesSoFar.{behind}
use Rattle.patch_report.proofs.page_reading.read_pages.Given as goal

abbrev pub invariant-loop-turn : goal.invariant-loop-turn
invariant-loop-turn l = behind l.pages.items (pages_at (l.most - l.turn) l.low (at_value l.later)) ≡ pages_at l.most 0 (at_value l.fn.at)
