use Rattle.std.proofs.Common.{arith, inl, inr, sym, ◌∙◌}
use Rattle.elf_emit.proofs.RunsByPage.{counted_more, counted_ended}
use Rattle.elf_emit.proofs.runs.run_len.Goals as goal

pub loop-count-preserved : goal.loop-count-preserved
loop-count-preserved c = (
  omega arith,
  omega arith,
  counted_more c.args.pages.now c.loop-count.count (record { addr = 0; group = 0 }) c.loop-count.invariant.0 c.loop-count-test.true (sym c.follows.ensures ∙ c.if-follows.true) c.loop-count.invariant.2,
)

pub returns-else-follows-clause-run : goal.returns-else-follows-clause-run
returns-else-follows-clause-run c =
    counted_ended c.args.pages.now c.loop-count.count (record { addr = 0; group = 0 }) c.loop-count.invariant.0 c.loop-count.invariant.1
    (inr (sym c.follows.ensures ∙ c.if-follows.false)) c.loop-count.invariant.2

pub returns-after-loop-count-clause-run : goal.returns-after-loop-count-clause-run
returns-after-loop-count-clause-run c =
    counted_ended c.args.pages.now c.loop-count.count (record { addr = 0; group = 0 }) c.loop-count.invariant.0 c.loop-count.invariant.1 (inl (omega arith)) c.loop-count.invariant.2
