use Rattle.std.proofs.Common.{drop}
use Rattle.site_turns.proofs.AddedCode.{IsAdding}
use Rattle.site_turns.proofs.progress.take_trampolines.Given as goal

abbrev pub invariant-loop-tramp : goal.invariant-loop-tramp
invariant-loop-tramp l = IsAdding l.fn.setting l.fn.tramps l.initial.space.taken (drop l.tramp-index l.tramps) l.space
