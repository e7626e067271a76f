-- Guests whose file the turns of all five schemes made are followed, and their threads get out.
use Rattle.site_turns.specs.States.{first_state}
use Rattle.site_turns.specs.Choices.{state_after}
use Rattle.site_turns.specs.Laws.{five}
use Rattle.site_turns.proofs.LoadedJobs.{five_lead}
use Rattle.site_turns.proofs.TurnFold.{turns_keep}
use Rattle.thread_runs.proofs.ThreadsTheorem.{threads_followed, threads_followed_with}
use Rattle.guest_threads.specs.FromTurns.{threading_of, TurnsAreThreaded}
use Rattle.guest_threads.proofs.ThreadSoundness.{folded_is_thread_sound}
use Rattle.guest_threads.proofs.LinesAfterTurns.{turns_for_threads}

-- what the turns of all five schemes have done, loaded with the code of threads, is followed, and its threads get out
pub turns_are_threaded : TurnsAreThreaded
turns_are_threaded g sites choices patched entry A asked S T s h W =
    let t = state_after g (first_state g) sites choices in
    let q = turns_for_threads g sites choices A T s h in
    let sound = folded_is_thread_sound g t patched entry A asked S (turns_keep g five sites choices five_lead A s h) T q.0 q.1 W in
    let r = threads_followed (threading_of g t patched entry) A sound in
    let d = threads_followed_with (threading_of g t patched entry) A sound in
    (r.0, r.1, d.0, d.1)
