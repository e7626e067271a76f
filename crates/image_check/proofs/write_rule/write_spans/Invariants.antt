use Rattle.std.proofs.Common.{◌≡◌}
use Rattle.image_check.specs.Stretches.{CoversFirst, RunBroken, EndBelow, run_end}
use Rattle.sound_images.specs.Cases.{case_of}
use Rattle.image_check.proofs.write_rule.write_spans.Given as goal

abbrev pub invariant-loop-run : goal.invariant-loop-run
invariant-loop-run l =
    (l.place ≡ l.run-index) × EndBelow run_end l.runs l.place l.reached
    × CoversFirst (RunBroken (case_of l.orig.bytes l.patched.bytes l.starts l.flat)) l.runs l.place l.spans.items
