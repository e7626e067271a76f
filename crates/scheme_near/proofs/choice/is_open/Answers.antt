use Rattle.std.proofs.Common.{◌≡◌, ℕ, ◌+◌, ◌-◌, ◌<◌, true, sym, ap, subst}
use Rattle.start_list.specs.TurnViews.{share_segment}
use Rattle.start_list.specs.Turning.{view_of}
use Rattle.scheme_search.proofs.NeighbourEntries.{entry_low}
use Rattle.scheme_near.proofs.choice.is_open.Goals as goal

pub are_victim_bytes_free-requires-clause-end : goal.are_victim_bytes_free-requires-clause-end
are_victim_bytes_free-requires-clause-end c =
    entry_low c.args.here.now c.args.victim.now c.requires.beside.victim.listed

pub returns-then-are_victim_bytes_free : goal.returns-then-are_victim_bytes_free
returns-then-are_victim_bytes_free c =
    let e = c.args.victim.now in
    let Behind : ℕ → Type 0 = λ n. (k : ℕ) → k < n
    → share_segment (view_of c.args.here.now.turn).segments c.args.here.now.site.addr (e.addr + e.len + k) ≡ true in
    let long = ap (λ x. 4 - x) c.inner_own.ensures in (
      λ t. record {
        free = c.are_victim_bytes_free.ensures.0 c.if-are_victim_bytes_free.true;
        code = subst Behind long (c.is_code_behind.ensures.0 t);
      },
      λ o. c.is_code_behind.ensures.1 (subst Behind (sym long) o.code),
    )
