use Rattle.std.proofs.Common.{ap, sym, ◌∙◌, vec_len}
use Rattle.byte_locks.specs.Pages.{lock_among}
use Rattle.byte_locks.proofs.LockEntries.{lock_at-shown}
use Rattle.byte_locks.proofs.locks.Locks.at.Goals as goal

pub returns : goal.returns
returns c =
    let pages = c.self.inside.pages.items in
    rw (← c.self.view_is)
    (c.lock_at.ensures ∙ ap (λ ps. lock_among ps c.args.addr) c.deref.ensures.value
    ∙ sym (lock_at-shown pages (vec_len c.self.inside.blank) c.args.addr c.self.invariant.0))
