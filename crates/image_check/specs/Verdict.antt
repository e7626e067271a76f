-- What a checker is given, the least address at which something holds, and when a verdict is true. Theorems cite it.
use Rattle.std.specs.Prelude.{ℕ, ◌≤◌, List, Option, Some, None}
use Rattle.start_entries.specs.declared.entry.StartEntry.{StartEntry}
use Rattle.patch_report.specs.Values.{BodyValue}
use Rattle.image_check.specs.declared.rule.Rule.{Rule}
use Rattle.image_check.specs.declared.rule.Rule.TheVariants as rule
use Rattle.image_check.specs.declared.verdict.Verdict.{Verdict}
use Rattle.image_check.specs.declared.verdict.Verdict.TheVariants.{Yes, No}
use Rattle.sound_images.specs.Cases.{case_of}
use Rattle.sound_images.specs.Rules.{Case, IsSound, IsFirstFailure, ByteFails, WriteFails, EntryFails, CodeFails, RangeFails, SiteFails}

-- The files' bytes, the listed starts of the original, and the report.
pub record Given : Type 0 where
  pub original : List ℕ
  pub patched : List ℕ
  pub listed : List StartEntry
  pub report : BodyValue

-- The case that what is given makes.
abbrev pub case_in : Given → Case
case_in g = case_of g.original g.patched g.listed g.report

-- A rule fails at an address.
abbrev pub FailsBy : Case → Rule → ℕ → Type 0
FailsBy c rule.Byte x = ByteFails c x
FailsBy c rule.Write x = WriteFails c x
FailsBy c rule.Entry x = EntryFails c x
FailsBy c rule.Code x = CodeFails c x
FailsBy c rule.Range x = RangeFails c x
FailsBy c rule.Site x = SiteFails c x

-- The least number at which something holds; none where it holds nowhere.
abbrev pub IsLeastOf : (ℕ → Type 0) → Option ℕ → Type 0
IsLeastOf P None = (x : ℕ) → P x → ⊥
IsLeastOf P (Some x) = P x × ((y : ℕ) → P y → x ≤ y)

-- A verdict is true of a case.
abbrev pub IsVerdict : Case → Verdict → Type 0
IsVerdict c Yes = IsSound c
IsVerdict c (No addr rule) = IsFirstFailure c addr rule
