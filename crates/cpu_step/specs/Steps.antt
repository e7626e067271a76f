-- What a call of step tells and does. Theorems cite it.
use Rattle.std.specs.Prelude.{◌≡◌, ◌↔◌, ℕ, Bool, true, false, ◌&&◌, ◌==◌, if◌then◌else◌, List, [], ◌∷◌, Option, Some, None, option_copied, Result, Ok, Err}
use Rattle.std.specs.Borrow.{Bor}
use Rattle.pun_base.specs.Memory.{Bytes}
use Rattle.length_decode.specs.Spelling.{Fields, IsInstruction, spelling}
use Rattle.cpu_state.specs.declared.state.Core.{Core}
use Rattle.cpu_state.specs.declared.state.State.{State}
use Rattle.cpu_state.specs.declared.world.Answer.{Answer}
use Rattle.cpu_state.specs.declared.world.Entry.{Entry}
use Rattle.cpu_state.specs.declared.world.Question.{Question}
use Rattle.cpu_state.specs.declared.world.MemWrite.{MemWrite}
use Rattle.cpu_state.specs.Bytes.{avoids}
use Rattle.cpu_state.specs.Parts.{core_of}
use Rattle.cpu_state.specs.Regions.{cell_at}
use Rattle.insn_form.specs.declared.effect.Out.{Out}
use Rattle.insn_form.specs.declared.effect.Span.{Span}
use Rattle.insn_form.specs.declared.form.AskedForm.{AskedForm}
use Rattle.insn_form.specs.declared.form.Insn.TheVariants.{Asked}
use Rattle.insn_form.specs.Plan.{after_answer, lacking_in, lacking_writes, number_in, writes_in, same_question, completed}
use Rattle.insn_form.specs.Machine.{Machine, first, put_all, avoids_answer}
use Rattle.insn_form.specs.Step.{Step}
use Rattle.insn_form.specs.Runs.{nowhere}
use Rattle.cpu_step.specs.declared.planning.Planned.{Planned}
use Rattle.cpu_step.specs.declared.stop.Stop.{Stop}
use Rattle.cpu_step.specs.declared.stop.Stop.TheVariants.{NoByte, UnknownInsn, Ending, WorldEmpty, WorldDiffers}
use Rattle.cpu_step.specs.declared.step_info.StepFacts.{StepFacts}
use Rattle.cpu_step.specs.declared.step_info.StepInfo.{StepInfo}
use Rattle.cpu_step.specs.Changing.{changed_with}
use Rattle.cpu_step.specs.Facts.{told_info}
use Rattle.cpu_step.specs.Stepping.{Taken, taken, insn_in, machine_of, world_after}

-- the numbers of the stops
abbrev pub number_of : Stop → ℕ
number_of (NoByte a) = 1
number_of (UnknownInsn a) = 2
number_of (Ending a) = 3
number_of (WorldEmpty a) = 4
number_of (WorldDiffers a asked) = 5

-- an address and how many bytes there
abbrev pub accesses : Option Span → List (ℕ × ℕ)
accesses None = []
accesses (Some s) = (s.addr, s.size) ∷ []

-- what is told of a step that is made
abbrev pub info_of : Taken → StepInfo
info_of t = record {
  used = t.used;
  reads = accesses t.read;
  writes = accesses t.write;
  answer_wrote = t.answer_wrote;
}

-- what is told of what is judged: the step, or the stop
abbrev pub told : Result Taken Stop → Result StepInfo Stop
told (Ok t) = Ok (info_of t)
told (Err stop) = Err stop

-- in each world whose next entry was handed in: a step to the new state, or none to any
abbrev pub Steps : Option Entry → State → State → Result StepInfo Stop → Type 0
Steps next old new (Ok info) = (world : List Entry) → first world ≡ next →
    Step nowhere (machine_of old world) (machine_of new (world_after info.used world))
Steps next old new (Err stop) = (world : List Entry) → first world ≡ next →
    (t : Machine) → Step nowhere (machine_of old world) t → ⊥

-- no access meets the set
abbrev pub avoids_accesses : (ℕ → Bool) → List (ℕ × ℕ) → Bool
avoids_accesses set [] = true
avoids_accesses set (x ∷ xs) = avoids set x.0 x.1 && avoids_accesses set xs

-- nor, where the answer of an entry wrote, does a byte that it wrote
abbrev pub avoids_told : (ℕ → Bool) → Option Entry → StepInfo → Bool
avoids_told set next info =
    avoids_accesses set info.reads && avoids_accesses set info.writes
    && (if info.answer_wrote then avoids_answer set next else true)

-- a step leaves alone exactly the sets that avoid what is told of it
abbrev pub Touches : Option Entry → State → State → Result StepInfo Stop → Type 0
Touches next old new (Ok info) = (set : ℕ → Bool) (world : List Entry) → first world ≡ next →
    Step set (machine_of old world) (machine_of new (world_after info.used world))
    ↔ (avoids_told set next info ≡ true)
Touches next old new (Err stop) = Unit {0}

-- an entry is told as used exactly where the step leads to the world without it
abbrev pub Uses : Option Entry → State → State → Result StepInfo Stop → Type 0
Uses None old new (Ok info) = info.used ≡ false
Uses (Some e) old new (Ok info) = (es : List Entry) →
    (info.used ≡ true) ↔ Step nowhere (machine_of old (e ∷ es)) (machine_of new es)
Uses next old new (Err stop) = Unit {0}

-- the state after a step, and the same state after a stop
abbrev pub Moved : Result Taken Stop → State → State → Type 0
Moved (Ok t) old new =
    (core_of new ≡ t.core) × (new.rip ≡ t.rip)
    × (cell_at new.mem ≡ put_all (cell_at old.mem) t.writes)
Moved (Err stop) old new = new ≡ old

-- what is judged of a state and the entry that was handed in
abbrev pub Judges : Type 0
Judges = State → Option Entry → Result Taken Stop

-- a call tells what is judged of the state and the entry that was handed in
abbrev pub Tells : Judges → Option (Bor Entry) → State → Result StepFacts Stop → Type 0
Tells judge next old r = told_info r ≡ told (judge old (option_copied next))

-- and does it
abbrev pub Moves : Judges → Option (Bor Entry) → State → State → Type 0
Moves judge next old new = Moved (judge old (option_copied next)) old new

-- a fact of each spelling that the bytes are
abbrev pub OfSpelling : List ℕ → (Fields → Type 0) → Type 0
OfSpelling bytes P = (f : Fields) → IsInstruction f → bytes ≡ spelling f → P f

-- what was planned, as the step that is made
abbrev pub taken_of : Core → Result Planned Stop → Result Taken Stop
taken_of c (Ok p) = Ok (record {
  read = p.read;
  write = p.write;
  answer_wrote = false;
  core = changed_with p.changes p.flags c;
  rip = p.rip;
  writes = writes_in p.write p.changes.value;
  used = p.used;
})
taken_of c (Err stop) = Err stop

-- it is the one that is judged
abbrev pub Plans : Judges → State → Option (Bor Entry) → Result Planned Stop → Type 0
Plans judge s next r = taken_of (core_of s) r ≡ judge s (option_copied next)

-- a number that is read, or the stop at the first byte that isn't held with R
abbrev pub number_or_stop_at : Option ℕ → ℕ → Result ℕ Stop
number_or_stop_at None n = Ok n
number_or_stop_at (Some a) n = Err (NoByte a)

-- the number that a span of the memory holds, or that stop
abbrev pub number_or_stop : Bytes → Option Span → Result ℕ Stop
number_or_stop m s = number_or_stop_at (lacking_in 4 m s) (number_in m s)

-- or at the first that isn't held with W
abbrev pub all_or_stop_at : Option ℕ → Result (Unit {0}) Stop
all_or_stop_at None = Ok tt
all_or_stop_at (Some a) = Err (NoByte a)

-- nothing where each byte of a span is held with W, or that stop
abbrev pub all_or_stop : Bytes → Option Span → Result (Unit {0}) Stop
all_or_stop m s = all_or_stop_at (lacking_in 2 m s)

-- or of the writes of an answer
abbrev pub written_or_stop : Bytes → List MemWrite → Result (Unit {0}) Stop
written_or_stop m ws = all_or_stop_at (lacking_writes m ws)

-- the step of an asked instruction by an answer
abbrev pub taken_answer : AskedForm → ℕ → State → Answer → Taken
taken_answer form next s a = taken (Asked form) next (core_of s) (record {
  core = after_answer form.syscall next a (core_of s);
  target = None;
  writes = a.writes;
  used = true;
})

-- that step, or why there is no answer
abbrev pub taken_by : AskedForm → ℕ → State → Result (Bor Answer) Stop → Result Taken Stop
taken_by form next s (Ok a) = Ok (taken_answer form next s a.now)
taken_by form next s (Err stop) = Err stop

-- it is the one that is judged, of each instruction that asks this
abbrev pub ByAnswer : Question → State → Option (Bor Entry) → Result (Bor Answer) Stop → Type 0
ByAnswer asked s next r = (form : AskedForm) (after : ℕ) →
    taken_by form after s r ≡ insn_in (Asked form) asked after s (option_copied next)

-- the answer to a question, or why there is none
abbrev pub Answers : Question → Option Entry → ℕ → Result (Bor Answer) Stop → Type 0
Answers asked None rip r = r ≡ Err (WorldEmpty rip)
Answers asked (Some e) rip (Ok answer) =
    (same_question asked e.question ≡ true) × (answer.now ≡ e.answer)
Answers asked (Some e) rip (Err stop) =
    (same_question asked e.question ≡ false) × (stop ≡ WorldDiffers rip asked)

-- registers and flags, the undefined ones as the world's next entry tells them, or why it tells none
abbrev pub completed_by : Question → Option Entry → ℕ → Out → Result Core Stop
completed_by asked None rip o = Err (WorldEmpty rip)
completed_by asked (Some e) rip o =
    if same_question asked e.question then Ok (completed o.undefined o.core e.answer)
    else Err (WorldDiffers rip asked)

-- registers and flags as they are where none is undefined, and otherwise completed so
abbrev pub completed_or_stop : Question → Option Entry → ℕ → Out → Result Core Stop
completed_or_stop asked next rip o =
    if o.undefined == 0 then Ok o.core else completed_by asked next rip o
