use Rattle.std.proofs.Common.{length}
use Rattle.image_step.specs.Views.{draft_value}
use Rattle.image_step.proofs.TextSoFar.{ScriptSoFar}
use Rattle.image_step.proofs.reading.read_parts.Given as goal

abbrev pub invariant-loop-rest : goal.invariant-loop-rest
invariant-loop-rest l = ScriptSoFar l.text l.place (draft_value l.draft) l.rest

abbrev pub decreases-loop-rest : goal.decreases-loop-rest
decreases-loop-rest l = length l.rest
