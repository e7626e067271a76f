use Rattle.std.proofs.Common.{◌↔◌, ℕ, List, drop}
use Rattle.image_check.specs.Jumps.{AnyLineFails}
use Rattle.sound_images.specs.Cases.{case_of}
use Rattle.image_check.proofs.entry_rule.lines_fail.Given as goal

abbrev pub invariant-loop-line : goal.invariant-loop-line
invariant-loop-line l =
    (o : List ℕ) → AnyLineFails (case_of o l.patched.bytes l.starts l.flat) l.addr (drop l.line-index l.lines)
    ↔ AnyLineFails (case_of o l.patched.bytes l.starts l.flat) l.addr l.lines
