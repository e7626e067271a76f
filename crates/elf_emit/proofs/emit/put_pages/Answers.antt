use Rattle.std.proofs.Common.{◌<◌, ◌≤◌, ◌+◌, take, refl, arith, ◌∙◌}
use Rattle.pun_base.proofs.JoinedPuts.{puts_front, puts_nothing, whole, writing_on}
use Rattle.elf_emit.specs.Frames.{layout}
use Rattle.elf_emit.specs.FramePages.{file_len}
use Rattle.elf_emit.specs.Plans.{planned}
use Rattle.elf_emit.proofs.PlanPages.{plan_low, plan_few}
use Rattle.elf_emit.proofs.WrittenPages.{page_put, all_put}
use Rattle.elf_emit.proofs.emit.put_pages.Goals as goal

pub loop-at-init : goal.loop-at-init
loop-at-init g c = record { whole = refl; page = c.requires.page; put = λ n w. puts_nothing n _ w }

pub put-requires : goal.put-requires
put-requires g c = writing_on (take c.loop-at.at (layout (planned c.args.plan.now))) _ _ _ refl c.requires.writing c.loop-at.invariant.put

pub returns-in-Err : goal.returns-in-Err
returns-in-Err g c =
    λ n w.
    let plan = c.args.plan.now in
    let p = c.loop-at.invariant.put n w in
    let l : c.loop-at.at < file_len (planned plan) = (let e = c.len-len.ensures in let t = c.loop-at-test.true in omega arith) in
    puts_front n (layout (planned plan)) (c.loop-at.at + 4096) _ _ c.in-Err.error
    (page_put plan n c.page_at.new.page c.loop-at.at _ _ _ _ _ c.requires.plan c.loop-at.invariant.whole l c.in-Err.is c.page_at.ensures p (c.put.ensures n p.writing))

pub loop-at-preserved : goal.loop-at-preserved
loop-at-preserved g c = record {
  whole = (let w = c.loop-at.invariant.whole in omega arith);
  page = c.page_at.auto.page ∙ c.loop-at.invariant.page;
  put = λ n w.
      let plan = c.args.plan.now in
      let p = c.loop-at.invariant.put n w in
      let l : c.loop-at.at < file_len (planned plan) = (let e = c.len-len.ensures in let t = c.loop-at-test.true in omega arith) in
      page_put plan n c.page_at.new.page c.loop-at.at _ _ _ _ _ c.requires.plan c.loop-at.invariant.whole l c.in-Ok.is c.page_at.ensures p (c.put.ensures n p.writing);
}

pub returns : goal.returns
returns g c =
    λ n w.
    let plan = c.args.plan.now in
    let l : file_len (planned plan) ≤ c.loop-at.at = (let e = c.len-len.ensures in let t = c.loop-at-test.false in omega arith) in
    whole n (layout (planned plan)) c.loop-at.at _ _ (all_put plan c.loop-at.at c.requires.plan l) (c.loop-at.invariant.put n w)

pub overflow_add-at : goal.overflow_add-at
overflow_add-at g c =
    let plan = c.args.plan.now in
    let e = c.len-len.ensures in
    let t = c.loop-at-test.true in
    let a = plan_low plan c.requires.plan in
    let b = plan_few plan c.requires.plan in omega arith
