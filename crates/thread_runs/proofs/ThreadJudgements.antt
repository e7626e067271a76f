-- What is judged of a thread's state: the instruction that stands at its instruction pointer.
use Rattle.std.proofs.Common.{◌≡◌, ℕ, List, [], ◌∷◌, length, drop, Option, Result, Ok, ap, ◌∙◌}
use Rattle.pun_base.specs.Memory.{Bytes}
use Rattle.length_decode.specs.declared.field_bytes.Stop as reading
use Rattle.length_decode.specs.Spelling.{Fields, spelling}
use Rattle.length_decode.specs.Parse.{parse}
use Rattle.length_decode.proofs.SpelledFields.{parse_again}
use Rattle.cpu_state.specs.declared.state.Core.{Core}
use Rattle.cpu_state.specs.declared.world.Entry.{Entry}
use Rattle.cpu_state.specs.Bytes.{code_at}
use Rattle.insn_form.specs.Machine.{Machine, first}
use Rattle.insn_form.specs.Step.{IsAt, next_after}
use Rattle.insn_form.proofs.UniqueSteps.{front}
use Rattle.cpu_step.specs.Stepping.{judged_task}
use Rattle.event_steps.specs.ThreadSteps.{is_locked_xadd, thread_task}
use Rattle.thread_runs.specs.ThreadJudging.{loading, thread_reading, thread_code, thread_judgement}

-- bytes that are read as an instruction are judged by that instruction's task
thread_at : (bs : List ℕ) (f : Fields) (c : Core) (rip : ℕ) (m : Bytes) (entry : Option Entry) → parse bs ≡ Ok f
    → thread_code bs c rip m entry ≡ loading (is_locked_xadd f) (thread_task f (next_after rip f)) (next_after rip f) c m (judged_task (thread_task f (next_after rip f)) (next_after rip f) c rip m entry)
thread_at [] f c rip m entry e = absurd cc
thread_at (b ∷ bs) f c rip m entry e = ap (λ (r : Result Fields reading.Stop). thread_reading (length (b ∷ bs)) r c rip m entry) e

-- the instruction that stands at the instruction pointer
pub thread_there : (s : Machine) (f : Fields) → IsAt s f
    → thread_judgement s ≡ loading (is_locked_xadd f) (thread_task f (next_after s.rip f)) (next_after s.rip f) s.core s.mem (judged_task (thread_task f (next_after s.rip f)) (next_after s.rip f) s.core s.rip s.mem (first s.world))
thread_there s f at =
    let bytes = front s.mem s.rip 15 (spelling f) at.spelled.short at.here in
    let read : parse (code_at s.mem s.rip 15) ≡ Ok f = ap parse bytes
    ∙ parse_again f (drop (length (spelling f)) (code_at s.mem s.rip 15)) at.spelled.formed in
    thread_at (code_at s.mem s.rip 15) f s.core s.rip s.mem (first s.world) read
