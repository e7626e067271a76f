use Rattle.std.proofs.Common.{◌+◌, List, refl, sym, ap, ◌∙◌, subst}
use Rattle.pun_base.specs.declared.plan.Write.{Write}
use Rattle.scheme_near.specs.Written.{IsWritten}
use Rattle.scheme_near.proofs.WrittenRuns.{apart_put, puts}
use Rattle.scheme_near.proofs.plan.apart_runs.Goals as goal

pub returns : goal.returns
returns c =
    let put = puts c.args.here.now c.args.choice.now c.requires.ready in
    let outer = c.as_slice.ensures.value ∙ c.outer_bytes-outer.ensures.value in
    let inner = c.as_slice-2.ensures.value ∙ c.inner_bytes-inner.ensures.value in
    let place = ap (λ x. c.args.choice.now.victim.addr + x) c.from.ensures in
    let w = c.write_of-first.ensures in
    let x = c.write_of-second.ensures in
    let y = c.write_of.ensures in
    subst (λ (ws : List Write). IsWritten c.args.here.now c.args.choice.now ws) (sym c.three_writes.ensures)
    (apart_put _ _ c.requires.ready c.requires.apart c.requires.far _ _ _
    (put _ _ _ _ _ refl c.short_bytes-short.ensures w.addr w.was w.after) (put _ _ _ _ _ refl outer x.addr x.was x.after)
    (put _ _ _ _ _ place inner y.addr y.was y.after))
