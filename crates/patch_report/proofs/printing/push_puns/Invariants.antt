use Rattle.std.proofs.Common.{◌≡◌, ◌++◌, map, take}
use Rattle.patch_report.specs.Spelling.{lines_text}
use Rattle.patch_report.specs.declared.line.Line.TheVariants as line
use Rattle.patch_report.proofs.printing.push_puns.Given as goal

abbrev pub invariant-loop-pun : goal.invariant-loop-pun
invariant-loop-pun l = l.out.items ≡ l.fn.out.items ++ lines_text (map line.Pun (take l.pun-index l.puns))
