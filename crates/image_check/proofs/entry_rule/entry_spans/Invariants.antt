use Rattle.std.proofs.Common.{ℕ, List}
use Rattle.image_check.specs.Stretches.{CoversFirst, LineBroken}
use Rattle.sound_images.specs.Cases.{case_of}
use Rattle.image_check.proofs.entry_rule.entry_spans.Given as goal

abbrev pub invariant-loop-line : goal.invariant-loop-line
invariant-loop-line l =
    (o : List ℕ) → CoversFirst (LineBroken (case_of o l.patched.bytes l.starts l.flat)) l.lines l.line-index l.spans.items
