use Rattle.std.proofs.Common.{sym, ap, ◌∙◌, subst, arith, true≢false}
use Rattle.std.specs.Prelude.{option_copied}
use Rattle.start_entries.specs.declared.entry.StartEntry.{StartEntry}
use Rattle.start_list.specs.Forms.{MayBeVictim}
use Rattle.start_list.specs.Turning.{view_of}
use Rattle.scheme_search.proofs.ListedEntries.{entry_found, no_entry}
use Rattle.scheme_succ.specs.Choices.{candidate}
use Rattle.scheme_succ.proofs.ChosenPlans.{behind_site, same_entry, good_of, first_of_all}
use Rattle.scheme_succ.proofs.find.plan_t2.Goals as goal

pub may_be_victim-requires : goal.may_be_victim-requires
may_be_victim-requires c =
    (entry_found c.args.here.now.turn.starts.now c.site_end.result c.in-Some.victim.now (sym c.at.ensures.value
    ∙ ap option_copied c.in-Some.is)).0

pub first_choice-requires : goal.first_choice-requires
first_choice-requires c =
    let f = entry_found c.args.here.now.turn.starts.now c.site_end.result c.in-Some.victim.now (sym c.at.ensures.value
    ∙ ap option_copied c.in-Some.is) in
    record {
      short = omega arith;
      behind = f.1 ∙ c.site_end.ensures.value;
      victim = c.may_be_victim.ensures.0 c.if-may_be_victim.true;
    }

pub returns-in-None : goal.returns-in-None
returns-in-None c = λ d s a.
    let k = behind_site c.args.here.now d s a in
    no_entry c.args.here.now.turn.starts.now c.site_end.result k.entry (sym c.at.ensures.value ∙ ap option_copied c.in-None.is) k.listed (k.at
    ∙ sym c.site_end.ensures.value)

pub returns-else-may_be_victim : goal.returns-else-may_be_victim
returns-else-may_be_victim c = λ d s a.
    let f = entry_found c.args.here.now.turn.starts.now c.site_end.result c.in-Some.victim.now (sym c.at.ensures.value
    ∙ ap option_copied c.in-Some.is) in
    let k = behind_site c.args.here.now d s a in
    let same = same_entry c.args.here.now c.in-Some.victim.now f.0 (f.1 ∙ c.site_end.ensures.value) d k in
    let yes = c.may_be_victim.ensures.1
    (subst (λ (e : StartEntry). MayBeVictim (view_of c.args.here.now.turn) c.args.here.now.site e) same k.victim) in
    true≢false (sym yes ∙ c.if-may_be_victim.false)

pub returns-in-None-first_choice : goal.returns-in-None-first_choice
returns-in-None-first_choice c = λ d s a.
    let f = entry_found c.args.here.now.turn.starts.now c.site_end.result c.in-Some.victim.now (sym c.at.ensures.value
    ∙ ap option_copied c.in-Some.is) in
    let k = behind_site c.args.here.now d s a in
    c.in-None-first_choice.ensures k.choice (good_of c.args.here.now c.in-Some.victim.now f.0 (f.1
    ∙ c.site_end.ensures.value) d k)

pub returns-in-Some-first_choice : goal.returns-in-Some-first_choice
returns-in-Some-first_choice c =
    let f = entry_found c.args.here.now.turn.starts.now c.site_end.result c.in-Some.victim.now (sym c.at.ensures.value
    ∙ ap option_copied c.in-Some.is) in (
      candidate c.in-Some.victim.now c.in-Some-first_choice.choice,
      first_of_all c.args.here.now c.in-Some.victim.now f.0 (f.1
          ∙ c.site_end.ensures.value) c.in-Some-first_choice.choice c.in-Some-first_choice.ensures,
      c.behind_plan.ensures,
    )
