use Rattle.std.proofs.Common.{nat_lt, sym, ap, ◌∙◌, arith}
use Rattle.std.specs.Prelude.{option_copied}
use Rattle.std.proofs.lemmas.Bool.{lt-ltb}
use Rattle.start_entries.specs.declared.entry.StartEntry.{StartEntry}
use Rattle.start_list.specs.Turning.{view_of}
use Rattle.scheme_search.proofs.ListedEntries.{find_some, find_nothing}
use Rattle.scheme_search.proofs.FirstChoice.{first_at, none_next}
use Rattle.scheme_near.specs.Choices.{IsGood, victim_of, offset_order}
use Rattle.scheme_near.proofs.choice.first_choice.Goals as goal

pub in_entry-requires-clause-listed : goal.in_entry-requires-clause-listed
in_entry-requires-clause-listed c =
    (find_some (λ (e : StartEntry). nat_lt c.loop-entry.last e.addr) c.args.here.now.turn.starts.now c.in-Some.entry.now
    (sym c.next_after.ensures.value ∙ ap option_copied c.in-Some.is)).0

pub returns-in-Some-in_entry : goal.returns-in-Some-in_entry
returns-in-Some-in_entry c =
    first_at victim_of offset_order (IsGood (view_of c.args.here.now.turn) c.args.here.now.site) c.in-Some.entry.now.addr c.in-Some-in_entry.choice
    (λ d g. c.in-Some.ensures.least.1 d.victim g.allowed.form.victim.listed (c.loop-entry.invariant.below d g)) c.in-Some-in_entry.ensures

pub loop-entry-preserved : goal.loop-entry-preserved
loop-entry-preserved c =
    let least = c.in-Some.ensures.least in
    let up = least.0 in
    record {
      above = omega (arith, up, c.loop-entry.invariant.above);
      below = λ d g.
          let k = none_next victim_of offset_order (IsGood (view_of c.args.here.now.turn) c.args.here.now.site) c.in-Some.entry.now.addr
          (λ q h. c.in-Some.ensures.least.1 q.victim h.allowed.form.victim.listed (c.loop-entry.invariant.below q h))
          (λ q h. c.in-None.ensures q h) d g in
          omega (arith, k);
    }

pub returns : goal.returns
returns c = λ d g.
    find_nothing (λ (e : StartEntry). nat_lt c.loop-entry.last e.addr) c.args.here.now.turn.starts.now d.victim (sym c.next_after.ensures.value
    ∙ ap option_copied c.in_default.is)
    g.allowed.form.victim.listed (lt-ltb c.loop-entry.last d.victim.addr (c.loop-entry.invariant.below d g))
