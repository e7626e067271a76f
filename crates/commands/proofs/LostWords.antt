-- Memory ran out before the words were read: any command may end so.
use Rattle.std.proofs.Common.{◌≡◌, ℕ, inr, List, Err, refl, arith}
use Rattle.pun_base.specs.Shown.{DeskState, SinkState}
use Rattle.command_words.specs.Words.{Command, Usage, Patch, Check, Step, Gen, Load, Threads, ThreadsReported, ThreadsLoaded, Unpatch, Settle, Unsettle, command_of}
use Rattle.command_io.specs.Inputs.{Inputs, OnlyReads}
use Rattle.command_io.specs.Inspecting.{Accepting, Refusing, Telling, Inspects}
use Rattle.inspect_commands.specs.CheckAnswers.{check_inputs, CheckAccepts, CheckRefuses, CheckTells, IsCheckStatus}
use Rattle.inspect_commands.specs.StepAnswers.{step_inputs, StepAccepts, StepRefuses, StepTells, IsStepStatus}
use Rattle.command_io.specs.Failing.{NoMemory}
use Rattle.commands.specs.Commands.{Does}
use Rattle.command_io.proofs.ReadingEnds.{Agree, inspected}
use Rattle.inspect_commands.proofs.CheckVerdicts.{check_agrees}
use Rattle.inspect_commands.proofs.StepVerdicts.{step_agrees}
use Rattle.command_io.specs.Verdict.{patching}
use Rattle.patch_commands.specs.Answers.{form_writing, patch_writing, Patches}
use Rattle.patch_commands.specs.LoadAnswers.{with_stub, Loads}
use Rattle.patch_commands.specs.ThreadsAnswers.{for_threads, for_threads_with_stub, thread_patching, threads_writing, PatchesThreads, PatchesReported, LoadsThreads}
use Rattle.patch_commands.specs.UnpatchAnswers.{unpatch_writing}
use Rattle.command_io.specs.Writing.{Writes}
use Rattle.settle_commands.specs.SettleAnswers.{settle_writing}
use Rattle.settle_commands.specs.UnsettleAnswers.{unsettle_writing}
use Rattle.commands.specs.Reversal.{Unpatches}
use Rattle.command_words.proofs.CommandForms.{known_of}
use Rattle.commands.proofs.PatchRuns.{form_ended, lost, patch_ended}
use Rattle.commands.proofs.SettledRuns.{patch_follows, load_follows}
use Rattle.commands.proofs.SettledThreads.{threads_follow, loaded_threads_follow, plain_threads_follow}
use Rattle.commands.proofs.ThreadsRuns.{threads_ended}
use Rattle.commands.proofs.PatchReversal.{unpatch_ended}
use Rattle.commands.proofs.SettleRuns.{settle_ended, unsettle_ended}

only_none : (s : DeskState) → OnlyReads s s
only_none s = record { held = refl; writing = refl; writes = refl; later = omega arith; sure = λ h. h }

-- a command that only reads
inspecting_lost : (xs : Inputs) (A : Accepting) (R : Refusing) (T : Telling) (O : ℕ → Type 0) → Agree A R T O → (s : DeskState) (k : SinkState)
    → Inspects xs A R T O s s k k 6
inspecting_lost xs A R T O a s k =
    inspected xs A R T O a s s k k (Err NoMemory) 6 (record { only = only_none s; says = λ files h. tt; cause = tt }) (refl, refl)

-- any command
pub words_lost : (words : List (List ℕ)) (c : Command) (s : DeskState) (k : SinkState) → c ≡ command_of words → Does c s s k k 6
words_lost words Usage s k e = record { untouched = refl; told = inr (refl, refl) }
words_lost words (Patch n action reserves) s k e =
    let p = patching n action reserves in let apart = (known_of words (Patch n action reserves) e).0 in
    let w = lost (patch_writing p) (Patches p) (patch_ended p apart) s k in (w, patch_follows p apart s s k k 6 w.writes)
words_lost words (Check n) s k e = record {
  inspects = inspecting_lost (check_inputs n) CheckAccepts CheckRefuses CheckTells IsCheckStatus check_agrees s k;
  followed = λ files h z. absurd (omega arith);
}
words_lost words (Step n count) s k e =
    inspecting_lost (step_inputs n) StepAccepts StepRefuses (StepTells count) IsStepStatus (step_agrees count) s k
words_lost words (Gen seed blocks) s k e = record { untouched = refl; told = inr (refl, refl) }
words_lost words (Load n action reserves) s k e =
    let p = patching n action reserves in let apart = (known_of words (Load n action reserves) e).0 in
    let w = lost (form_writing with_stub p) (Loads p) (form_ended with_stub p apart) s k in (w, load_follows p apart s s k k 6 w.writes)
words_lost words (Threads n reserves) s k e =
    let p = thread_patching n reserves in
    let w = lost (threads_writing p) (PatchesThreads p) (threads_ended p) s k in (w, plain_threads_follow p s s k k 6 w.writes)
words_lost words (ThreadsReported n action reserves) s k e =
    let p = patching n action reserves in let apart = (known_of words (ThreadsReported n action reserves) e).0 in
    let w = lost (form_writing (for_threads action) p) (PatchesReported action p) (form_ended (for_threads action) p apart) s k in
    (w, threads_follow action p apart s s k k 6 w.writes)
words_lost words (ThreadsLoaded n action reserves) s k e =
    let p = patching n action reserves in let apart = (known_of words (ThreadsLoaded n action reserves) e).0 in
    let w = lost (form_writing (for_threads_with_stub action) p) (LoadsThreads action p) (form_ended (for_threads_with_stub action) p apart) s k in
    (w, loaded_threads_follow action p apart s s k k 6 w.writes)
words_lost words (Unpatch n) s k e = lost (unpatch_writing n) (Unpatches n) (unpatch_ended n) s k
words_lost words (Settle n base) s k e = lost (settle_writing n base) (Writes (settle_writing n base)) (settle_ended n base) s k
words_lost words (Unsettle n) s k e = lost (unsettle_writing n) (Writes (unsettle_writing n)) (unsettle_ended n) s k
