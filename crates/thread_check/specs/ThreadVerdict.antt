-- When a verdict on a file that was patched for threads is true. Theorems cite it.
use Rattle.sound_images.specs.Rules.{Case}
use Rattle.image_check.specs.declared.verdict.Verdict.{Verdict}
use Rattle.image_check.specs.declared.verdict.Verdict.TheVariants.{Yes, No}
use Rattle.thread_check.specs.ThreadRules.{ThreadFails, IsThreadCaseSound}

-- A verdict is true of a case: no rule fails anywhere, or this rule fails at this address.
abbrev pub IsThreadVerdict : Case → Verdict → Type 0
IsThreadVerdict c Yes = IsThreadCaseSound c
IsThreadVerdict c (No addr rule) = ThreadFails c rule addr
