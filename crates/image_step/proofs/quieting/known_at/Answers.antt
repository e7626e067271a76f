use Rattle.std.proofs.Common.{◌+◌, ◌∷◌, drop, ◌∙◌, sym, ap}
use Rattle.std.proofs.lemmas.List.{drop_more}
use Rattle.start_entries.specs.declared.entry.StartEntry.{StartEntry}
use Rattle.image_step.proofs.AccessesAndStarts.{found_at, found_known, has_form}
use Rattle.image_step.proofs.quieting.known_at.Goals as goal

pub returns-then-from-addr-clause-known : goal.returns-then-from-addr-clause-known
returns-then-from-addr-clause-known c =
    let es = c.args.entries.now in
    let i = c.args.place in
    let e = c.in_ok-entry.entry.now in
    let h = c.in_ok-entry.ensures.lookup in
    let d = drop_more es i e h.3.0 ∙ ap (λ (z : StartEntry). z ∷ drop (i + 1) es) (sym h.1) in
    sym (found_known es c.args.addr c.requires)
    ∙ (ap has_form (found_at es i c.args.addr e (drop (i + 1) es) c.requires d (sym c.from.ensures ∙ c.if-from-addr.true)) ∙ sym c.is_some.ensures)
