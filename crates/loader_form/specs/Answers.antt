-- What a run of the stub by a list of answers tells. Theorems cite it.
use Rattle.std.specs.Prelude.{◌≡◌, ◌≢◌, ◌⊎◌, ℕ, ◌+◌, ◌<◌, ◌≤◌, Bool, true, false, List, [], ◌∷◌, ◌++◌, length, map, Option, None}
use Rattle.pun_base.specs.Memory.{Bytes}
use Rattle.cpu_state.specs.declared.state.Core.{Core}
use Rattle.cpu_state.specs.declared.state.State.{State}
use Rattle.insn_form.specs.Step.{Step}
use Rattle.insn_form.specs.Runs.{nowhere}
use Rattle.cpu_step.specs.Stepping.{machine_of}
use Rattle.insn_form.specs.Machine.{Machine}
use Rattle.elf_read.specs.Entries.{entry_of}
use Rattle.elf_emit.specs.Job.{Job}
use Rattle.elf_emit.specs.Frames as frames
use Rattle.elf_emit.specs.Laws.{IsJob}
use Rattle.loader_form.specs.declared.kernel.MapAnswer.{MapAnswer}
use Rattle.loader_form.specs.declared.kernel.StubEnd.{StubEnd}
use Rattle.loader_form.specs.declared.kernel.StubEnd.TheVariants as stub
use Rattle.loader_form.specs.Stub.{Stub}
use Rattle.loader_form.specs.Kernel.{Reply, IsAnswer, Call, Asks, answered, memory_after, Move, IsRunWith, last_state, last_number, replies_in, IsExit, IsWaiting}
use Rattle.loader_form.specs.Laid.{Laid, loader_frame, file_of, IsLaid}
use Rattle.loader_form.specs.Starting.{IsStart, IsLaidStart}
use Rattle.loader_form.specs.Running.{End, AtEntry, AtExit, AtCall, stub_end}

-- The kernel's answer in a reply.
abbrev pub answer_of : Reply → MapAnswer
answer_of r = r.answer

-- The machine makes one step; or there is none, and the state stays.
abbrev pub StepsOn : Bool → State → State → Type 0
StepsOn true old new = Step nowhere (machine_of old []) (machine_of new [])
StepsOn false old new = (new ≡ old) × ((t : Machine) → Step nowhere (machine_of old []) t → ⊥)

-- The value and the memory are what the kernel's answer makes of each call for which these
-- registers ask.
abbrev pub Answers : List ℕ → Core → Bytes → Bytes → MapAnswer → ℕ → Type 0
Answers file c m w a value = (number : Option ℕ) (call : Call) → Asks file number c m call → (value ≡ answered call a) × (w ≡ memory_after file call a m)

-- A reply that leaves zero in r11.
abbrev pub by_zero : MapAnswer → Reply
by_zero a = record { answer = a; r11 = 0 }

-- Each answer of a list is one that the kernel can give.
abbrev pub AreAnswers : List MapAnswer → Type 0
AreAnswers [] = Unit {0}
AreAnswers (a ∷ as') = IsAnswer a × AreAnswers as'

-- No step of a run is made at an address.
abbrev pub NeverAt : ℕ → Machine → List Move → Type 0
NeverAt entry s [] = Unit {0}
NeverAt entry s (x ∷ xs) = (s.rip ≢ entry) × NeverAt entry x.state xs

-- Where the run stands after n steps: at the entry, at the call that ends the program, or at
-- another call with no answer left.
abbrev pub StandsAt : List ℕ → ℕ → List MapAnswer → Option ℕ → ℕ → Machine → StubEnd → Type 0
StandsAt file entry rest number n t (stub.Entry steps) = (steps ≡ n) × (t.rip ≡ entry)
StandsAt file entry rest number n t (stub.Exit steps) = (steps ≡ n) × IsExit 127 t × (t.rip ≢ entry)
StandsAt file entry rest number n t (stub.Short steps) = (steps ≡ n) × (rest ≡ []) × IsWaiting file number t × (t.rip ≢ entry)

-- The run from s takes some first answers and ends in t, at the end e and at no earlier one.
pub record IsStubRun (file : List ℕ) (entry : ℕ) (s : Machine) (answers : List MapAnswer) (e : StubEnd) (t : Machine) : Type 0 where
  pub moves : List Move
  pub run : IsRunWith file None s moves
  pub there : last_state s moves ≡ t
  pub rest : List MapAnswer
  pub taken : answers ≡ map answer_of (replies_in moves) ++ rest
  pub before : NeverAt entry s moves
  pub ends : StandsAt file entry rest (last_number None moves) (length moves) t e

-- The end that a run reaches is of the kind to which its replies lead.
abbrev pub IsKind : End → StubEnd → Type 0
IsKind AtEntry (stub.Entry n) = Unit {0}
IsKind AtExit (stub.Exit n) = Unit {0}
IsKind AtCall (stub.Short n) = Unit {0}
IsKind e x = ⊥

-- The end is the entry, which lies in the stub's code.
abbrev pub IsEntryInside : Stub → StubEnd → Type 0
IsEntryInside b (stub.Entry n) = (b.at ≤ b.entry) × (b.entry < b.at + 4096)
IsEntryInside b (stub.Exit n) = ⊥
IsEntryInside b (stub.Short n) = ⊥

-- What a list of answers leads to: the end of the stub's run by them, and which of the three kinds
-- it is.
pub record StubTold (file : List ℕ) (b : Stub) (s : Machine) (answers : List MapAnswer) : Type 0 where
  pub end : StubEnd
  pub last : Machine
  pub run : IsStubRun file b.entry s answers end last
  -- the end is of the kind to which the answers lead, or the entry comes before it
  pub kind : IsKind (stub_end (length b.runs) (map by_zero answers)) end ⊎ IsEntryInside b end

-- A state in which a file of the loader form starts, whose original has this entry. No byte of a
-- run's range is held.
pub record IsStubStart (file : List ℕ) (entry : ℕ) (s : Machine) : Type 0 where
  pub job : Job
  pub laid : Laid
  pub further : Bytes
  pub is_job : IsJob job
  pub is_laid : IsLaid job laid
  pub few : frames.count (loader_frame job laid) ≤ 1024
  pub file_is : file ≡ file_of job laid
  pub entry_is : entry ≡ entry_of job.orig
  pub start : IsLaidStart job laid further s

-- Each list of answers leads to one of the three ends, and says to which, unless the entry comes
-- before, where it lies in the stub's code.
abbrev pub StubIsTold : Type 0
StubIsTold =
    (file : List ℕ) (b : Stub) (s : Machine) (answers : List MapAnswer) → IsStart file b s → AreAnswers answers
    → StubTold file b s answers
