use Rattle.std.proofs.Common.{◌≡◌, ◌++◌, map, take}
use Rattle.patch_report.specs.Spelling.{lines_text, write_line}
use Rattle.patch_report.specs.Values.{write_value}
use Rattle.patch_report.proofs.printing.push_writes.Given as goal

abbrev pub invariant-loop-write : goal.invariant-loop-write
invariant-loop-write l = l.out.items ≡ l.fn.out.items ++ lines_text (map write_line (map write_value (take l.write-index l.writes)))
