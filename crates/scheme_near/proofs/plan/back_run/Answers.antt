use Rattle.std.proofs.Common.{List, refl, sym, ◌∙◌, subst}
use Rattle.pun_base.specs.declared.plan.Write.{Write}
use Rattle.scheme_near.specs.Written.{IsWritten}
use Rattle.scheme_near.proofs.WrittenRuns.{back_put, puts}
use Rattle.scheme_near.proofs.plan.back_run.Goals as goal

pub returns : goal.returns
returns c =
    let put = puts c.args.here.now c.args.choice.now c.requires.ready in
    let both = c.as_slice.ensures.value ∙ c.victim_bytes-victim.ensures.value in
    let w = c.write_of-first.ensures in
    let x = c.write_of.ensures in
    subst (λ (ws : List Write). IsWritten c.args.here.now c.args.choice.now ws) (sym c.two_writes.ensures)
    (back_put _ _ c.requires.ready c.requires.apart c.requires.near _ _
    (put _ _ _ _ _ refl c.short_bytes-short.ensures w.addr w.was w.after) (put _ _ _ _ _ refl both x.addr x.was x.after))
