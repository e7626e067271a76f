use Rattle.std.proofs.Common.{sym, ◌∙◌, subst, true≢false}
use Rattle.start_entries.specs.declared.entry.StartEntry.{StartEntry}
use Rattle.start_list.specs.Forms.{MayBeVictim}
use Rattle.start_list.specs.Turning.{view_of}
use Rattle.scheme_search.proofs.ListedEntries.{one_entry}
use Rattle.scheme_near.proofs.choice.in_entry.Goals as goal

pub returns-else-may_be_victim : goal.returns-else-may_be_victim
returns-else-may_be_victim c = λ d h.
    let m = h.0.allowed.form.victim in
    let same = one_entry c.args.here.now.turn.starts.now c.args.entry.now d.victim c.args.here.now.stands.built.ascending
    c.requires.listed m.listed h.1 in
    let yes = c.may_be_victim.ensures.1
    (subst (λ (e : StartEntry). MayBeVictim (view_of c.args.here.now.turn) c.args.here.now.site e) same m) in
    true≢false (sym yes ∙ c.if-may_be_victim.false)
