use Rattle.std.proofs.Common.{◌+◌, List, ◌++◌, refl, sym, ap, ◌∙◌, subst}
use Rattle.pun_base.specs.declared.plan.Write.{Write}
use Rattle.scheme_near.specs.Written.{IsWritten}
use Rattle.scheme_near.proofs.WrittenRuns.{front_put, puts}
use Rattle.scheme_near.proofs.plan.front_run.Goals as goal

pub returns : goal.returns
returns c =
    let put = puts c.args.here.now c.args.choice.now c.requires.ready in
    let bytes = c.as_slice-2.ensures.value ∙ c.joined-front.ensures.value
    ∙ (λ i. c.short_bytes-short.ensures i ++ (c.as_slice.ensures.value ∙ c.outer_bytes-outer.ensures.value) i) in
    let inner = c.as_slice-3.ensures.value ∙ c.inner_bytes-inner.ensures.value in
    let place = ap (λ x. c.args.choice.now.victim.addr + x) c.from.ensures in
    let w = c.write_of-first.ensures in
    let x = c.write_of.ensures in
    subst (λ (ws : List Write). IsWritten c.args.here.now c.args.choice.now ws) (sym c.two_writes.ensures)
    (front_put _ _ c.requires.ready c.requires.touches c.requires.far _ _ (put _ _ _ _ _ refl bytes w.addr w.was w.after)
    (put _ _ _ _ _ place inner x.addr x.was x.after))
