-- What is judged, against the step relation.
use Rattle.std.proofs.Common.{◌≡◌, ℕ, List, [], ◌∷◌, length, drop, Option, Result, Ok, Err, refl, ap, ◌∙◌, arith, length-append}
use Rattle.pun_base.specs.Memory.{Bytes}
use Rattle.length_decode.specs.declared.field_bytes.Stop as reading
use Rattle.length_decode.specs.Spelling.{Fields, spelling}
use Rattle.length_decode.specs.Parse.{parse}
use Rattle.length_decode.proofs.SpelledFields.{parse_again}
use Rattle.length_decode.proofs.ReadFields.{parse_takes}
use Rattle.cpu_state.specs.declared.state.Core.{Core}
use Rattle.cpu_state.specs.declared.world.Question.{Question}
use Rattle.cpu_state.specs.declared.world.Entry.{Entry}
use Rattle.cpu_state.specs.Bytes.{code_at}
use Rattle.insn_form.specs.declared.form.Insn.{Insn}
use Rattle.insn_form.specs.Resolving.{resolved_insn}
use Rattle.insn_form.specs.Plan.{Plan, Halt, plan}
use Rattle.insn_form.specs.Machine.{Machine, first, carry}
use Rattle.insn_form.specs.Step.{IsAt, Step, next_after, task_of, question_of}
use Rattle.insn_form.specs.Instruction.{insn_of}
use Rattle.insn_form.specs.Runs.{nowhere}
use Rattle.insn_form.proofs.UniqueSteps.{front, same_ok}
use Rattle.insn_form.proofs.TouchedMemory.{leaves_nowhere}
use Rattle.cpu_step.specs.declared.stop.Stop.{Stop}
use Rattle.cpu_step.specs.Stepping.{taken_or_stop, judged_task, judged_reading, judged_code, IsByPlan, moved_or_stop, stepped, StepsAreOk}
use Rattle.cpu_step.proofs.Windows.{code_length, stands}

-- A stop is no step.
pub err_ok : (e : Stop) (t : Machine) → ◌≡◌ {A = Result Machine Stop} (Err e) (Ok t) → ⊥
err_ok e t h = cc

-- Nor is a halt.
pub halt_ok : (h : Halt) (t : Machine) → ◌≡◌ {A = Result Machine Halt} (Err h) (Ok t) → ⊥
halt_ok h t e = cc

same_moved : (s t : Machine) → ◌≡◌ {A = Result Machine Stop} (Ok s) (Ok t) → s ≡ t
same_moved s t e = cc

parse_nothing : (f : Fields) → parse [] ≡ Ok f → ⊥
parse_nothing f e = cc

-- bytes that an instruction begins
pub judged_at : (bs : List ℕ) (f : Fields) (c : Core) (rip : ℕ) (m : Bytes) (entry : Option Entry) → parse bs ≡ Ok f
    → judged_code bs c rip m entry ≡ judged_task (task_of f (next_after rip f)) (next_after rip f) c rip m entry
judged_at [] f c rip m entry e = absurd (parse_nothing f e)
judged_at (b ∷ bs) f c rip m entry e = ap (λ (r : Result Fields reading.Stop). judged_reading (length (b ∷ bs)) r c rip m entry) e

-- a plan carried out is the step that it makes
planned_ok : (rip next : ℕ) (q : Question) (i : Insn) (c : Core) (m : Bytes) (world : List Entry) (t : Machine) (r : Result Plan Halt)
    → carry next m world r ≡ Ok t → moved_or_stop m world (taken_or_stop rip q i next c r) ≡ Ok t
planned_ok rip next q i c m world t (Ok p) h = ap Ok (same_ok _ t h)
planned_ok rip next q i c m world t (Err h) k = absurd (halt_ok h t k)

-- and back
ok_planned : (rip next : ℕ) (q : Question) (i : Insn) (c : Core) (m : Bytes) (world : List Entry) (t : Machine) (r : Result Plan Halt)
    → moved_or_stop m world (taken_or_stop rip q i next c r) ≡ Ok t → carry next m world r ≡ Ok t
ok_planned rip next q i c m world t (Ok p) h = ap Ok (same_moved _ t h)
ok_planned rip next q i c m world t (Err h) k = absurd (err_ok _ t k)

-- the instruction that stands at the instruction pointer is the one that is judged
pub judged_there : IsByPlan
judged_there s f at =
    let bytes = front s.mem s.rip 15 (spelling f) at.spelled.short at.here in
    let read : parse (code_at s.mem s.rip 15) ≡ Ok f = ap parse bytes
    ∙ parse_again f (drop (length (spelling f)) (code_at s.mem s.rip 15)) at.spelled.formed in
    judged_at (code_at s.mem s.rip 15) f s.core s.rip s.mem (first s.world) read

-- each step is judged to be one
pub step_is_ok : (s t : Machine) → Step nowhere s t → stepped s ≡ Ok t
step_is_ok s t x =
    let f = x.0 in
    let next = next_after s.rip f in
    let i = resolved_insn next (insn_of f) in
    ap (moved_or_stop s.mem s.world) (judged_there s f x.1.at)
    ∙ planned_ok s.rip next (question_of f next) i s.core s.mem s.world t
    (plan i (question_of f next) next s.core s.mem (first s.world)) x.1.acts

-- a step that is judged of the instruction that stands there
task_step : (s t : Machine) (f : Fields) → IsAt s f
    → let n = next_after s.rip f in moved_or_stop s.mem s.world (judged_task (task_of f n) n s.core s.rip s.mem (first s.world)) ≡ Ok t
    → Step nowhere s t
task_step s t f at h =
    let next = next_after s.rip f in
    let i = resolved_insn next (insn_of f) in
    let acts = ok_planned s.rip next (question_of f next) i s.core s.mem s.world t
    (plan i (question_of f next) next s.core s.mem (first s.world)) h in
    (f, record { at = at; apart = leaves_nowhere (task_of f next) next s; acts = acts })

-- what is read stands there
pub read_is_at : (s : Machine) (f : Fields) → parse (code_at s.mem s.rip 15) ≡ Ok f → IsAt s f
read_is_at s f e =
    let w = parse_takes (code_at s.mem s.rip 15) f e in
    let few = code_length s.mem s.rip 15 in
    let sum = ap length w.split ∙ length-append (spelling f) w.rest in
    record { spelled = record { formed = w.fine; short = omega (arith, few, sum) }; here = stands s.mem s.rip 15 (spelling f) w.rest w.split }

reading_step : (s t : Machine) (n : ℕ) (r : Result Fields reading.Stop) → parse (code_at s.mem s.rip 15) ≡ r
    → moved_or_stop s.mem s.world (judged_reading n r s.core s.rip s.mem (first s.world)) ≡ Ok t → Step nowhere s t
reading_step s t n (Ok f) e h = task_step s t f (read_is_at s f e) h
reading_step s t n (Err k) e h = absurd (err_ok _ t h)

code_step : (s t : Machine) (bs : List ℕ) → code_at s.mem s.rip 15 ≡ bs
    → moved_or_stop s.mem s.world (judged_code bs s.core s.rip s.mem (first s.world)) ≡ Ok t → Step nowhere s t
code_step s t [] e h = absurd (err_ok _ t h)
code_step s t (b ∷ bs) e h = reading_step s t (length (b ∷ bs)) (parse (b ∷ bs)) (ap parse e) h

-- A step that is made is one of the step relation.
pub ok_is_step : (s t : Machine) → stepped s ≡ Ok t → Step nowhere s t
ok_is_step s t h = code_step s t (code_at s.mem s.rip 15) refl h

-- A step is made exactly where the relation has one, and leads to where that leads.
pub steps_are_ok : StepsAreOk
steps_are_ok s t = (ok_is_step s t, step_is_ok s t)
