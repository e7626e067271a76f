use Rattle.std.proofs.Common.{◌≡◌, ℕ, ◌+◌, ◌-◌, ◌<◌, true, sym, ap, subst, arith}
use Rattle.byte_locks.specs.declared.lock.Lock.TheVariants.{Free}
use Rattle.start_list.specs.TurnViews.{share_segment}
use Rattle.start_list.specs.Turning.{view_of}
use Rattle.scheme_search.proofs.NeighbourEntries.{entry_low}
use Rattle.scheme_succ.proofs.choice.is_open.Goals as goal

pub are_free-requires : goal.are_free-requires
are_free-requires c =
    let low =
    entry_low c.args.here.now c.args.victim.now c.requires.beside.victim.listed in
    omega (arith, low, c.victim_written.ensures)

pub returns-then-are_free : goal.returns-then-are_free
returns-then-are_free c =
    let v = view_of c.args.here.now.turn in
    let e = c.args.victim.now in
    let Unlocked : ℕ → Type 0 = λ n. (k : ℕ) → k < n → v.lock (e.addr + k) ≡ Free in
    let Behind : ℕ → Type 0 = λ n. (k : ℕ) → k < n → share_segment v.segments c.args.here.now.site.addr (e.addr + e.len + k) ≡ true in
    let long = ap (λ x. 4 - x) c.victim_own.ensures in (
      λ t. record {
        free = subst Unlocked c.victim_written.ensures (c.are_free.ensures.0 c.if-are_free.true);
        code = subst Behind long (c.is_code_behind.ensures.0 t);
      },
      λ o. c.is_code_behind.ensures.1 (subst Behind (sym long) o.code),
    )
