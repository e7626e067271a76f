use Rattle.guest_gen.proofs.TextGrowth.{Drafted}
use Rattle.guest_gen.proofs.draft.Text.push_blocks.Given as goal

abbrev pub invariant-loop-index : goal.invariant-loop-index
invariant-loop-index l = Drafted l.fn.seed l.fn.blocks l.every l.fn.self l.self l.x l.index l.sites.items
