use Rattle.std.proofs.Common.{Some, refl, sym, ap, ◌∙◌}
use Rattle.std.proofs.lemmas.Bool.{false≢true}
use Rattle.page_group.proofs.KeptGroupings.{found_at, found_nowhere, group_found, group_nowhere, read_below, group_read, meets_at, meets_none}
use Rattle.page_group.proofs.groups.Groups.file_page_of.Goals as goal

pub returns-in-Ok-clause-value : goal.returns-in-Ok-clause-value
returns-in-Ok-clause-value c =
    let kept = c.self.invariant in
    let pages = c.self.inside.pages.items in
    let homes = c.self.inside.homes.items in
    let place = c.in-Ok.place in
    let at = found_at c.deref.result.now pages c.args.page place c.deref.ensures.value kept.listed.ascending c.in-Ok.ensures.position in
    let read = group_read pages homes c.args.page place _ kept.joined.size at c.index.ensures in
    rw (← c.self.view_is) (ap Some read ∙ sym (group_found pages homes c.args.page place kept.listed.ascending kept.joined.size at))

pub returns-in-Ok-clause-meets : goal.returns-in-Ok-clause-meets
returns-in-Ok-clause-meets c =
    let kept = c.self.invariant in
    let pages = c.self.inside.pages.items in
    let place = c.in-Ok.place in
    let at = found_at c.deref.result.now pages c.args.page place c.deref.ensures.value kept.listed.ascending c.in-Ok.ensures.position in
    rw (← c.self.view_is) (λ _. meets_at _ pages c.args.page place kept.listed at, λ _. refl)

pub returns-in-Ok-clause-below : goal.returns-in-Ok-clause-below
returns-in-Ok-clause-below c =
    let kept = c.self.invariant in
    let pages = c.self.inside.pages.items in
    let homes = c.self.inside.homes.items in
    let place = c.in-Ok.place in
    let at = found_at c.deref.result.now pages c.args.page place c.deref.ensures.value kept.listed.ascending c.in-Ok.ensures.position in
    rw (← c.self.view_is) (read_below pages homes c.args.page place _ kept.joined.size at c.index.ensures)

pub returns-in-Err-clause-value : goal.returns-in-Err-clause-value
returns-in-Err-clause-value c =
    let kept = c.self.invariant in
    let pages = c.self.inside.pages.items in
    let none = found_nowhere c.deref.result.now pages c.args.page c.in-Err.field-0 c.deref.ensures.value kept.listed.ascending
    c.in-Err.ensures.position in
    rw (← c.self.view_is) (sym (group_nowhere pages c.self.inside.homes.items c.args.page none))

pub returns-in-Err-clause-meets : goal.returns-in-Err-clause-meets
returns-in-Err-clause-meets c =
    let kept = c.self.invariant in
    let pages = c.self.inside.pages.items in
    let none = found_nowhere c.deref.result.now pages c.args.page c.in-Err.field-0 c.deref.ensures.value kept.listed.ascending
    c.in-Err.ensures.position in
    rw (← c.self.view_is) (λ e. absurd (false≢true e), λ m. absurd (meets_none _ pages c.args.page kept.listed none m))
