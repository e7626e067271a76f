use Rattle.std.proofs.Common.{List, ◌++◌, refl, sym, ◌∙◌, subst}
use Rattle.pun_base.specs.declared.plan.Write.{Write}
use Rattle.scheme_near.specs.Written.{IsWritten}
use Rattle.scheme_near.proofs.WrittenRuns.{one_put, puts}
use Rattle.scheme_near.proofs.plan.one_run.Goals as goal

pub returns : goal.returns
returns c =
    let put = puts c.args.here.now c.args.choice.now c.requires.ready in
    let bytes = c.as_slice-2.ensures.value ∙ c.joined-all.ensures.value
    ∙ (λ i. c.short_bytes-short.ensures i ++ (c.as_slice.ensures.value ∙ c.victim_bytes-victim.ensures.value) i) in
    let w = c.write_of.ensures in
    subst (λ (ws : List Write). IsWritten c.args.here.now c.args.choice.now ws) (sym c.one_write.ensures)
    (one_put _ _ c.requires.ready c.requires.touches c.requires.near _ (put _ _ _ _ _ refl bytes w.addr w.was w.after))
