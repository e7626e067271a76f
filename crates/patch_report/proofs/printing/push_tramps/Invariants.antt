use Rattle.std.proofs.Common.{◌≡◌, ◌++◌, map, take}
use Rattle.patch_report.specs.Spelling.{lines_text}
use Rattle.patch_report.specs.declared.line.Line.TheVariants as line
use Rattle.patch_report.proofs.printing.push_tramps.Given as goal

abbrev pub invariant-loop-tramp : goal.invariant-loop-tramp
invariant-loop-tramp l = l.out.items ≡ l.fn.out.items ++ lines_text (map line.Tramp (take l.tramp-index l.tramps))
