-- A thread's step by an instruction that kills a place.
use Rattle.std.proofs.Common.{◌≡◌, true, refl, sym, ◌∙◌, true≢false}
use Rattle.length_decode.specs.Spelling.{Fields}
use Rattle.insn_form.specs.declared.form.Insn.{Insn}
use Rattle.insn_form.specs.declared.form.Insn.TheVariants.{Exact, Asked, Ending}
use Rattle.insn_form.specs.Instruction.{insn_of}
use Rattle.insn_form.specs.Step.{StepsBy, next_after, task_of}
use Rattle.insn_form.specs.Runs.{nowhere}
use Rattle.insn_form.proofs.TouchedMemory.{leaves_nowhere}
use Rattle.killing.specs.declared.place.Place.{Place}
use Rattle.killing.specs.Table.{kills}
use Rattle.killing.proofs.Places.{killed}
use Rattle.event_steps.proofs.ThreadSteps.{IsPlain, plain_acts, thread_step}
use Rattle.thread_runs.proofs.LockInc.{not_locked}
use Rattle.bare_threads.specs.KilledThreads.{IsKilledThread}

-- it is exact, so it is neither LOCK INC nor LOCK XADD
pub plain : (p : Place) (f : Fields) (i : Insn) → insn_of f ≡ i → kills p i ≡ true → IsPlain f
plain p f (Exact op) e h = not_locked f op e
plain p f (Asked form) e h = absurd (true≢false (sym h))
plain p f Ending e h = absurd (true≢false (sym h))

-- what is killed for a single processor is killed for a thread
pub killed_thread : IsKilledThread
killed_thread p f h s u t e st =
    let l = plain p f (insn_of f) refl h in
    let next = next_after s.rip f in
    let one : StepsBy nowhere f s t = record { at = st.at; apart = leaves_nowhere (task_of f next) next s; acts = sym (plain_acts f next s l) ∙ st.acts } in
    thread_step nowhere f u t l.0 l.1 (killed p f h nowhere s u t e one)
