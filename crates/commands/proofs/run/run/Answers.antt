use Rattle.std.proofs.Common.{◌≡◌, ℕ, List, map, string_bytes, refl, ap, ◌∙◌, subst}
use Rattle.pun_base.specs.Shown.{DeskState, SinkState}
use Rattle.pun_base.specs.Ranges.{ends}
use Rattle.pun_base.specs.declared.action.Action.{Action}
use Rattle.pun_base.specs.declared.action.Action.TheVariants.{Cover, Count, Ring, When}
use Rattle.site_turns.specs.Modes.{IsShared}
use Rattle.command_words.specs.Named.{names_of, check_names_of, step_names_of, thread_names_of, unpatch_names_of, settle_names_of, unsettle_names_of}
use Rattle.command_words.specs.Words.{Command, Patch, Step, Gen, Load, Threads, ThreadsReported, ThreadsLoaded, Unpatch, Settle, Unsettle, command_of}
use Rattle.command_io.specs.Failing.{seen_as, told_of}
use Rattle.command_io.specs.Verdict.{patching}
use Rattle.patch_commands.specs.LoadAnswers.{with_stub}
use Rattle.patch_commands.specs.ThreadsAnswers.{for_threads, for_threads_with_stub, thread_patching}
use Rattle.commands.specs.Commands.{Does}
use Rattle.commands.proofs.PatchRuns.{form_ended, patch_ended}
use Rattle.commands.proofs.SettledRuns.{patch_follows, load_follows}
use Rattle.commands.proofs.SettledThreads.{threads_follow, loaded_threads_follow, plain_threads_follow}
use Rattle.commands.proofs.ThreadsRuns.{threads_ended}
use Rattle.commands.proofs.GenRuns.{gen_ran}
use Rattle.commands.proofs.InspectingRuns.{check_ran, step_ran}
use Rattle.commands.proofs.PatchReversal.{unpatch_ended}
use Rattle.commands.proofs.SettleRuns.{settle_ended, unsettle_ended}
use Rattle.command_words.proofs.CommandForms.{IsThreadAction, known_of}
use Rattle.commands.proofs.LostWords.{words_lost}
use Rattle.commands.proofs.run.run.Goals as goal

-- what a command does is what the words do that it is of
of_words : (words : List (List ℕ)) (x : Command) (s t : DeskState) (k l : SinkState) (status : ℕ) → x ≡ command_of words → Does x s t k l status
    → Does (command_of words) s t k l status
of_words words x s t k l status q d = subst (λ (y : Command). Does y s t k l status) q d

-- threads can get the events of an action that has slots for them if it keeps a ring
shared : (a : Action) → IsThreadAction a → IsShared a
shared Cover h = refl
shared Count h = refl
shared (Ring len) h = h.1
shared (When b list) h = refl

pub patch-requires-clause-action : goal.patch-requires-clause-action
patch-requires-clause-action g c =
    let n = names_of c.in-Ok-Patch.names in
    let pairs = map ends c.in-Ok-Patch.reserves.items in
    (known_of (map string_bytes c.args.words.now) (Patch n c.in-Ok-Patch.action pairs) (rw c.in-Ok-Patch.field-0-is at c.in-Ok-Patch.ensures)).1

pub step-requires : goal.step-requires
step-requires g c =
    known_of (map string_bytes c.args.words.now) (Step (step_names_of c.in-Ok-Step.names) c.in-Ok-Step.count)
    (rw c.in-Ok-Step.field-0-is at c.in-Ok-Step.ensures)

pub find-requires : goal.find-requires
find-requires g c =
    let h = known_of (map string_bytes c.args.words.now) (Gen c.in-Ok-Gen.seed c.in-Ok-Gen.blocks) (rw c.in-Ok-Gen.field-0-is at c.in-Ok-Gen.ensures) in
    record { some = h.0; most = h.1 }

pub returns-in-Ok-Patch-clause-does : goal.returns-in-Ok-Patch-clause-does
returns-in-Ok-Patch-clause-does g c =
    let words = map string_bytes c.args.words.now in
    let n = names_of c.in-Ok-Patch.names in
    let pairs = map ends c.deref.result.now in
    let q : Patch n c.in-Ok-Patch.action (map ends c.in-Ok-Patch.reserves.items) ≡ command_of words = rw c.in-Ok-Patch.field-0-is at c.in-Ok-Patch.ensures in
    let r : Patch n c.in-Ok-Patch.action pairs ≡ command_of words = ap (λ rs. Patch n c.in-Ok-Patch.action (map ends rs)) c.deref.ensures.value ∙ q in
    let p = patching n c.in-Ok-Patch.action pairs in let apart = (known_of words (Patch n c.in-Ok-Patch.action pairs) r).0 in
    let w = patch_ended p apart _ _ _ _ (seen_as told_of c.patch.result) _ c.patch.ensures.rest c.patch.ensures.ends c.tell.ensures.printed in
    of_words words (Patch n c.in-Ok-Patch.action pairs) _ _ _ _ _ r (w, patch_follows p apart _ _ _ _ _ w.writes)

pub returns-in-Ok-Step-clause-does : goal.returns-in-Ok-Step-clause-does
returns-in-Ok-Step-clause-does g c =
    step_ran (map string_bytes c.args.words.now) (step_names_of c.in-Ok-Step.names) c.in-Ok-Step.count _ _ _ _ (seen_as told_of c.step.result) _
    (rw c.in-Ok-Step.field-0-is at c.in-Ok-Step.ensures) c.step.ensures c.tell-in-Ok-Step.ensures.printed

pub returns-in-Ok-Check-clause-does : goal.returns-in-Ok-Check-clause-does
returns-in-Ok-Check-clause-does g c =
    check_ran (map string_bytes c.args.words.now) (check_names_of c.in-Ok-Check.names) _ _ _ _ (seen_as told_of c.check.result) _
    (rw c.in-Ok-Check.field-0-is at c.in-Ok-Check.ensures) c.check.ensures c.tell-in-Ok-Check.ensures.printed

pub returns-in-Ok-Gen-clause-does : goal.returns-in-Ok-Gen-clause-does
returns-in-Ok-Gen-clause-does g c =
    gen_ran (map string_bytes c.args.words.now) _ _ _ _ _ (seen_as told_of c.find.result) _
    (rw c.in-Ok-Gen.field-0-is at c.in-Ok-Gen.ensures) c.find.ensures c.tell-in-Ok-Gen.ensures.printed

pub patch-requires-in-Ok-Load-clause-action : goal.patch-requires-in-Ok-Load-clause-action
patch-requires-in-Ok-Load-clause-action g c =
    let n = names_of c.in-Ok-Load.names in
    let pairs = map ends c.in-Ok-Load.reserves.items in
    (known_of (map string_bytes c.args.words.now) (Load n c.in-Ok-Load.action pairs) (rw c.in-Ok-Load.field-0-is at c.in-Ok-Load.ensures)).1

pub returns-in-Ok-Load-clause-does : goal.returns-in-Ok-Load-clause-does
returns-in-Ok-Load-clause-does g c =
    let words = map string_bytes c.args.words.now in
    let n = names_of c.in-Ok-Load.names in
    let pairs = map ends c.deref-in-Ok-Load.result.now in
    let q : Load n c.in-Ok-Load.action (map ends c.in-Ok-Load.reserves.items) ≡ command_of words = rw c.in-Ok-Load.field-0-is at c.in-Ok-Load.ensures in
    let r : Load n c.in-Ok-Load.action pairs ≡ command_of words = ap (λ rs. Load n c.in-Ok-Load.action (map ends rs)) c.deref-in-Ok-Load.ensures.value ∙ q in
    let p = patching n c.in-Ok-Load.action pairs in let apart = (known_of words (Load n c.in-Ok-Load.action pairs) r).0 in
    let w =
    form_ended with_stub p apart _ _ _ _ (seen_as told_of c.patch-in-Ok-Load.result) _ c.patch-in-Ok-Load.ensures.rest c.patch-in-Ok-Load.ensures.ends
    c.tell-in-Ok-Load.ensures.printed in
    of_words words (Load n c.in-Ok-Load.action pairs) _ _ _ _ _ r (w, load_follows p apart _ _ _ _ _ w.writes)

pub returns-in-Ok-Threads-clause-does : goal.returns-in-Ok-Threads-clause-does
returns-in-Ok-Threads-clause-does g c =
    let words = map string_bytes c.args.words.now in
    let n = thread_names_of c.in-Ok-Threads.names in
    let pairs = map ends c.deref-in-Ok-Threads.result.now in
    let q : Threads n (map ends c.in-Ok-Threads.reserves.items) ≡ command_of words = rw c.in-Ok-Threads.field-0-is at c.in-Ok-Threads.ensures in
    let r : Threads n pairs ≡ command_of words = ap (λ rs. Threads n (map ends rs)) c.deref-in-Ok-Threads.ensures.value ∙ q in
    let p = thread_patching n pairs in
    let w =
    threads_ended p _ _ _ _ (seen_as told_of c.patch_threads.result) _
    c.patch_threads.ensures.rest c.patch_threads.ensures.ends c.tell-in-Ok-Threads.ensures.printed in
    of_words words (Threads n pairs) _ _ _ _ _ r (w, plain_threads_follow p _ _ _ _ _ w.writes)

pub patch-requires-in-Ok-ThreadsReported-clause-action : goal.patch-requires-in-Ok-ThreadsReported-clause-action
patch-requires-in-Ok-ThreadsReported-clause-action g c =
    (known_of (map string_bytes c.args.words.now)
    (ThreadsReported (names_of c.in-Ok-ThreadsReported.names) c.in-Ok-ThreadsReported.action (map ends c.in-Ok-ThreadsReported.reserves.items))
    (rw c.in-Ok-ThreadsReported.field-0-is at c.in-Ok-ThreadsReported.ensures)).1.0

pub patch-requires-in-Ok-ThreadsReported-clause-shared : goal.patch-requires-in-Ok-ThreadsReported-clause-shared
patch-requires-in-Ok-ThreadsReported-clause-shared g c =
    shared c.in-Ok-ThreadsReported.action
    (known_of (map string_bytes c.args.words.now)
    (ThreadsReported (names_of c.in-Ok-ThreadsReported.names) c.in-Ok-ThreadsReported.action (map ends c.in-Ok-ThreadsReported.reserves.items))
    (rw c.in-Ok-ThreadsReported.field-0-is at c.in-Ok-ThreadsReported.ensures)).1

pub returns-in-Ok-ThreadsReported-clause-does : goal.returns-in-Ok-ThreadsReported-clause-does
returns-in-Ok-ThreadsReported-clause-does g c =
    let words = map string_bytes c.args.words.now in
    let n = names_of c.in-Ok-ThreadsReported.names in
    let a = c.in-Ok-ThreadsReported.action in
    let pairs = map ends c.deref-in-Ok-ThreadsReported.result.now in
    let q : ThreadsReported n a (map ends c.in-Ok-ThreadsReported.reserves.items) ≡ command_of words =
    rw c.in-Ok-ThreadsReported.field-0-is at c.in-Ok-ThreadsReported.ensures in
    let r : ThreadsReported n a pairs ≡ command_of words = ap (λ rs. ThreadsReported n a (map ends rs)) c.deref-in-Ok-ThreadsReported.ensures.value ∙ q in
    let p = patching n a pairs in let apart = (known_of words (ThreadsReported n a pairs) r).0 in
    let w =
    form_ended (for_threads a) p apart _ _ _ _ (seen_as told_of c.patch-in-Ok-ThreadsReported.result) _
    c.patch-in-Ok-ThreadsReported.ensures.rest c.patch-in-Ok-ThreadsReported.ensures.ends c.tell-in-Ok-ThreadsReported.ensures.printed in
    of_words words (ThreadsReported n a pairs) _ _ _ _ _ r (w, threads_follow a p apart _ _ _ _ _ w.writes)

pub patch-requires-in-Ok-ThreadsLoaded-clause-action : goal.patch-requires-in-Ok-ThreadsLoaded-clause-action
patch-requires-in-Ok-ThreadsLoaded-clause-action g c =
    (known_of (map string_bytes c.args.words.now)
    (ThreadsLoaded (names_of c.in-Ok-ThreadsLoaded.names) c.in-Ok-ThreadsLoaded.action (map ends c.in-Ok-ThreadsLoaded.reserves.items))
    (rw c.in-Ok-ThreadsLoaded.field-0-is at c.in-Ok-ThreadsLoaded.ensures)).1.0

pub patch-requires-in-Ok-ThreadsLoaded-clause-shared : goal.patch-requires-in-Ok-ThreadsLoaded-clause-shared
patch-requires-in-Ok-ThreadsLoaded-clause-shared g c =
    shared c.in-Ok-ThreadsLoaded.action
    (known_of (map string_bytes c.args.words.now)
    (ThreadsLoaded (names_of c.in-Ok-ThreadsLoaded.names) c.in-Ok-ThreadsLoaded.action (map ends c.in-Ok-ThreadsLoaded.reserves.items))
    (rw c.in-Ok-ThreadsLoaded.field-0-is at c.in-Ok-ThreadsLoaded.ensures)).1

pub returns-in-Ok-ThreadsLoaded-clause-does : goal.returns-in-Ok-ThreadsLoaded-clause-does
returns-in-Ok-ThreadsLoaded-clause-does g c =
    let words = map string_bytes c.args.words.now in
    let n = names_of c.in-Ok-ThreadsLoaded.names in
    let a = c.in-Ok-ThreadsLoaded.action in
    let pairs = map ends c.deref-in-Ok-ThreadsLoaded.result.now in
    let q : ThreadsLoaded n a (map ends c.in-Ok-ThreadsLoaded.reserves.items) ≡ command_of words =
    rw c.in-Ok-ThreadsLoaded.field-0-is at c.in-Ok-ThreadsLoaded.ensures in
    let r : ThreadsLoaded n a pairs ≡ command_of words = ap (λ rs. ThreadsLoaded n a (map ends rs)) c.deref-in-Ok-ThreadsLoaded.ensures.value ∙ q in
    let p = patching n a pairs in let apart = (known_of words (ThreadsLoaded n a pairs) r).0 in
    let w =
    form_ended (for_threads_with_stub a) p apart _ _ _ _ (seen_as told_of c.patch-in-Ok-ThreadsLoaded.result) _
    c.patch-in-Ok-ThreadsLoaded.ensures.rest c.patch-in-Ok-ThreadsLoaded.ensures.ends c.tell-in-Ok-ThreadsLoaded.ensures.printed in
    of_words words (ThreadsLoaded n a pairs) _ _ _ _ _ r (w, loaded_threads_follow a p apart _ _ _ _ _ w.writes)

pub returns-in-Ok-Unpatch-clause-does : goal.returns-in-Ok-Unpatch-clause-does
returns-in-Ok-Unpatch-clause-does g c =
    let n = unpatch_names_of c.in-Ok-Unpatch.names in
    of_words (map string_bytes c.args.words.now) (Unpatch n) _ _ _ _ _ (rw c.in-Ok-Unpatch.field-0-is at c.in-Ok-Unpatch.ensures)
    (unpatch_ended n _ _ _ _ (seen_as told_of c.undo.result) _ c.undo.ensures.rest c.undo.ensures.ends c.tell-in-Ok-Unpatch.ensures.printed)

pub returns-in-Ok-Settle-clause-does : goal.returns-in-Ok-Settle-clause-does
returns-in-Ok-Settle-clause-does g c =
    let n = settle_names_of c.in-Ok-Settle.names in
    of_words (map string_bytes c.args.words.now) (Settle n c.in-Ok-Settle.base) _ _ _ _ _ (rw c.in-Ok-Settle.field-0-is at c.in-Ok-Settle.ensures)
    (settle_ended n c.in-Ok-Settle.base _ _ _ _ (seen_as told_of c.settle_file.result) _ c.settle_file.ensures.rest c.settle_file.ensures.ends c.tell-in-Ok-Settle.ensures.printed)

pub returns-in-Ok-Unsettle-clause-does : goal.returns-in-Ok-Unsettle-clause-does
returns-in-Ok-Unsettle-clause-does g c =
    let n = unsettle_names_of c.in-Ok-Unsettle.names in
    of_words (map string_bytes c.args.words.now) (Unsettle n) _ _ _ _ _ (rw c.in-Ok-Unsettle.field-0-is at c.in-Ok-Unsettle.ensures)
    (unsettle_ended n _ _ _ _ (seen_as told_of c.unsettle_file.result) _ c.unsettle_file.ensures.rest c.unsettle_file.ensures.ends c.tell-in-Ok-Unsettle.ensures.printed)

pub returns-in-Err-clause-does : goal.returns-in-Err-clause-does
returns-in-Err-clause-does g c = words_lost (map string_bytes c.args.words.now) (command_of (map string_bytes c.args.words.now)) _ _ refl
