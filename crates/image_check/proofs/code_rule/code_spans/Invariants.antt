use Rattle.std.proofs.Common.{◌≡◌, ℕ, List}
use Rattle.start_entries.specs.declared.entry.StartEntry.{StartEntry}
use Rattle.image_check.specs.Stretches.{CoversFirst, CodeBroken, EndBelow, code_end}
use Rattle.sound_images.specs.Cases.{case_of}
use Rattle.image_check.proofs.code_rule.code_spans.Given as goal

abbrev pub invariant-loop-code : goal.invariant-loop-code
invariant-loop-code l =
    (l.place ≡ l.code-index) × EndBelow code_end l.codes l.place l.reached
    × ((o : List ℕ) (es : List StartEntry) → CoversFirst (CodeBroken (case_of o l.patched.bytes es l.flat) l.codes) l.codes l.place l.spans.items)
