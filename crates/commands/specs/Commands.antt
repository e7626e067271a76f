-- What each command does, and the causes of the statuses. Theorems cite it. In all of it s and t are what the desk shows before and after,
-- k and l what the sink shows.
use Rattle.std.specs.Prelude.{◌≡◌, ℕ, ◌≤◌, ◌⊎◌}
use Rattle.pun_base.specs.Shown.{DeskState, SinkState, Rose}
use Rattle.command_words.specs.Words.{Command, Usage, Patch, Check, Step, Gen, Load, Threads, ThreadsReported, ThreadsLoaded, Unpatch, Settle, Unsettle}
use Rattle.patch_commands.specs.Answers.{IsUsage, Patches}
use Rattle.patch_commands.specs.LoadAnswers.{with_stub, Loads}
use Rattle.patch_commands.specs.ThreadsAnswers.{thread_patching, for_threads, for_threads_with_stub, PatchesThreads, PatchesReported, LoadsThreads}
use Rattle.command_io.specs.Verdict.{patching, plain}
use Rattle.inspect_commands.specs.CheckAnswers.{Checks}
use Rattle.inspect_commands.specs.StepAnswers.{Steps}
use Rattle.inspect_commands.specs.GenAnswers.{Generates}
use Rattle.command_io.specs.Writing.{Writes}
use Rattle.settle_commands.specs.SettleAnswers.{settle_writing}
use Rattle.settle_commands.specs.UnsettleAnswers.{unsettle_writing}
use Rattle.commands.specs.Reversal.{Unpatches}
use Rattle.commands.specs.SettledFiles.{FollowsSettled, of_patch, of_load}
use Rattle.commands.specs.SettledThreads.{FollowsSettledInThreads, of_threads, of_threads_loaded}

-- Which command it is.
abbrev pub IsPatch : Command → Type 0
IsPatch (Patch names action reserves) = Unit {0}
IsPatch other = ⊥

abbrev pub IsLoad : Command → Type 0
IsLoad (Load names action reserves) = Unit {0}
IsLoad other = ⊥

abbrev pub IsThreads : Command → Type 0
IsThreads (Threads names reserves) = Unit {0}
IsThreads (ThreadsReported names action reserves) = Unit {0}
IsThreads (ThreadsLoaded names action reserves) = Unit {0}
IsThreads other = ⊥

abbrev pub IsCheck : Command → Type 0
IsCheck (Check names) = Unit {0}
IsCheck other = ⊥

abbrev pub IsStep : Command → Type 0
IsStep (Step names count) = Unit {0}
IsStep other = ⊥

abbrev pub IsGen : Command → Type 0
IsGen (Gen seed blocks) = Unit {0}
IsGen other = ⊥

-- Whatever the command, and whether the desk tells or not: status 1 comes from `patch`, `load`, `threads` or `gen` alone, 2
-- from the words alone, 4 where a count of read faults rose in the call, 5 where a count of write faults or of the sink's did,
-- 7 from `check` alone, 8 from `step` alone.
pub record HasCause (command : Command) (s t : DeskState) (k l : SinkState) (status : ℕ) : Type 0 where
  pub known : status ≤ 8
  pub left : status ≡ 1 → IsPatch command ⊎ (IsLoad command ⊎ (IsThreads command ⊎ IsGen command))
  pub usage : status ≡ 2 → command ≡ Usage
  pub read_fault : status ≡ 4 → Rose s.read_faults t.read_faults
  pub write_fault : status ≡ 5 → Rose s.write_faults t.write_faults ⊎ Rose k.faults l.faults
  pub unsound : status ≡ 7 → IsCheck command
  pub fewer : status ≡ 8 → IsStep command

-- What each command does; of `patch`, `load` and `threads` also what OUT does where FILE was a settled one.
abbrev pub Does : Command → DeskState → DeskState → SinkState → SinkState → ℕ → Type 0
Does Usage s t k l status = IsUsage s t k l status
Does (Patch names action reserves) s t k l status =
    Patches (patching names action reserves) s t k l status × FollowsSettled plain of_patch (patching names action reserves) s t status
Does (Check names) s t k l status = Checks names s t k l status
Does (Step names count) s t k l status = Steps names count s t k l status
Does (Gen seed blocks) s t k l status = Generates seed blocks s t k l status
Does (Unpatch names) s t k l status = Unpatches names s t k l status
Does (Load names action reserves) s t k l status =
    Loads (patching names action reserves) s t k l status × FollowsSettled with_stub of_load (patching names action reserves) s t status
Does (Threads names reserves) s t k l status =
    PatchesThreads (thread_patching names reserves) s t k l status × FollowsSettledInThreads (thread_patching names reserves) s t status
Does (ThreadsReported names action reserves) s t k l status =
    PatchesReported action (patching names action reserves) s t k l status
    × FollowsSettled (for_threads action) (of_threads action) (patching names action reserves) s t status
Does (ThreadsLoaded names action reserves) s t k l status =
    LoadsThreads action (patching names action reserves) s t k l status
    × FollowsSettled (for_threads_with_stub action) (of_threads_loaded action) (patching names action reserves) s t status
Does (Settle names base) s t k l status = Writes (settle_writing names base) s t k l status
Does (Unsettle names) s t k l status = Writes (unsettle_writing names) s t k l status
