use Rattle.std.proofs.Common.{◌%◌, ap, sym, ◌∙◌}
use Rattle.byte_locks.specs.Pages.{lock_in}
use Rattle.byte_locks.proofs.LockLookups.{found, not_found}
use Rattle.byte_locks.proofs.pages.lock_at.Goals as goal

pub returns-in-Ok : goal.returns-in-Ok
returns-in-Ok c =
    let page = c.index-pages-place in
    let place = c.in-Ok.ensures.place in
    c.at.ensures ∙ ap (λ p. lock_in p (c.args.addr % 4096)) page.is
    ∙ sym (found 0 c.in-Ok.place c.args.pages.now page.result page.result c.args.addr c.requires place.0 (place.1 page.result))

pub returns-in-Err : goal.returns-in-Err
returns-in-Err c = sym (not_found 0 c.args.pages.now c.args.addr c.in-Err.field-0 c.requires c.in-Err.ensures.place)
