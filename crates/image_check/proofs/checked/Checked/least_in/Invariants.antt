use Rattle.std.proofs.Common.{take}
use Rattle.image_check.specs.Verdict.{case_in, IsLeastOf}
use Rattle.image_check.specs.Parts.{FailsAmong}
use Rattle.image_check.proofs.checked.Checked.least_in.Given as goal

abbrev pub invariant-loop-span : goal.invariant-loop-span
invariant-loop-span l = IsLeastOf (FailsAmong (case_in l.self) l.rule (take l.span-index l.spans)) l.least
