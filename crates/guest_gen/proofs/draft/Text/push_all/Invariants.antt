use Rattle.std.proofs.Common.{drop}
use Rattle.guest_gen.proofs.TextGrowth.{Appended}
use Rattle.guest_gen.proofs.draft.Text.push_all.Given as goal

abbrev pub invariant-loop-insn : goal.invariant-loop-insn
invariant-loop-insn l = Appended l.insns (drop l.insn-index l.insns) l.fn.self l.self
