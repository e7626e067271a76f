use Rattle.std.proofs.Common.{◌≡◌, ℕ, ◌+◌, ◌-◌, ◌<◌, min, sym, ap, subst}
use Rattle.byte_locks.specs.declared.lock.Lock.TheVariants.{Free}
use Rattle.start_list.specs.Turning.{view_of}
use Rattle.scheme_near.proofs.choice.are_victim_bytes_free.Goals as goal

pub returns : goal.returns
returns c =
    let v = view_of c.args.turn.now in
    let e = c.args.victim.now in
    let i = c.args.offset in
    let start : e.addr + c.from.result ≡ e.addr + i = ap (λ x. e.addr + x) c.from.ensures in
    let Lock : ℕ → ℕ → Type 0 = λ a n. (k : ℕ) → k < n → v.lock (a + k) ≡ Free in
    let outer = subst (λ (n : ℕ). Lock e.addr n) c.written_len.ensures (c.are_free.ensures.0 c.if-not-are_free.false) in (
      λ t. record {
        outer = outer;
        inner = subst (λ (a : ℕ). Lock a (min (e.len - i) 5)) start
            (subst (λ (n : ℕ). Lock (e.addr + c.from.result) n) c.written_len-count.ensures (c.are_free-2.ensures.0 t));
      },
      λ o. c.are_free-2.ensures.1 (subst (λ (n : ℕ). Lock (e.addr + c.from.result) n) (sym c.written_len-count.ensures)
          (subst (λ (a : ℕ). Lock a (min (e.len - i) 5)) (sym start) o.inner)),
    )
