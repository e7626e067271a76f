use Rattle.std.proofs.Common.{◌≡◌, Some, None, sym}
use Rattle.patch_report.specs.Reading.{found, page_from, pages_at}
use Rattle.patch_report.specs.Views.{at_value}
use Rattle.patch_report.proofs.PagesSoFar.{goes_on, stops, is_done}
use Rattle.patch_report.proofs.page_reading.read_pages.Goals as goal

pub returns-in-None : goal.returns-in-None
returns-in-None c =
    let h : found (page_from c.loop-turn.low) (at_value c.loop-turn.later) ≡ None = sym (rw c.in-None.is at c.find_page.ensures) in
    stops c.loop-turn.pages.items c.args.most c.loop-turn.turn c.loop-turn.low (at_value c.loop-turn.later)
    (pages_at c.args.most 0 (at_value c.args.at)) c.loop-turn-test.true h c.loop-turn.invariant

pub loop-turn-preserved : goal.loop-turn-preserved
loop-turn-preserved c =
    let h : found (page_from c.loop-turn.low) (at_value c.loop-turn.later)
    ≡ Some (c.in-Some.next.0, at_value c.in-Some.next.1) = sym (rw c.in-Some.is at c.find_page.ensures) in
    rw (c.in_ok-push-in-Some.ensures.items, c.saturating_add-low.ensures)
    (goes_on c.loop-turn.pages.items c.args.most c.loop-turn.turn c.loop-turn.low (at_value c.loop-turn.later) c.in-Some.next.0
    (at_value c.in-Some.next.1) (pages_at c.args.most 0 (at_value c.args.at)) c.loop-turn-test.true h c.loop-turn.invariant)

pub returns : goal.returns
returns c = is_done c.loop-turn.pages.items c.args.most c.loop-turn.turn c.loop-turn.low (at_value c.loop-turn.later)
    (pages_at c.args.most 0 (at_value c.args.at)) c.loop-turn-test.false c.loop-turn.invariant
