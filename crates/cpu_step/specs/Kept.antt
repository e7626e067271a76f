-- What is read of the executable bytes at an address, and what is kept of it. Contracts of private functions alone cite it.
use Rattle.std.specs.Prelude.{◌≡◌, ℕ, List, [], length, take, Option, None, Result, Ok, Err}
use Rattle.pun_base.specs.Memory.{Bytes}
use Rattle.length_decode.specs.declared.field_bytes.Stop as reading
use Rattle.length_decode.specs.Spelling.{Fields}
use Rattle.length_decode.specs.Parse.{parse}
use Rattle.cpu_state.specs.declared.state.Core.{Core}
use Rattle.cpu_state.specs.declared.world.Entry.{Entry}
use Rattle.cpu_state.specs.declared.world.Question.{Question}
use Rattle.cpu_state.specs.Bytes.{code_at}
use Rattle.insn_form.specs.Step.{question_of}
use Rattle.cpu_step.specs.declared.stop.Stop.{Stop}
use Rattle.cpu_step.specs.Stepping.{judged}

-- the code begins with these bytes
abbrev pub IsFront : List ℕ → List ℕ → Type 0
IsFront front code = take (length front) code ≡ front

-- where this code stands at rip, no step is made, for this reason
abbrev pub IsUnread : List ℕ → ℕ → Stop → Type 0
IsUnread code rip stop = (c : Core) (m : Bytes) (entry : Option Entry) → code ≡ code_at m rip 15 → judged c rip m entry ≡ Err stop

-- what an instruction that is read asks in front of the address next
abbrev pub asked_from : Result Fields reading.Stop → ℕ → Question
asked_from (Ok f) next = question_of f next
asked_from (Err e) next = record { bytes = []; addr = None }

-- what the instruction of these bytes asks there
unfoldable pub asked_of : List ℕ → ℕ → Question
asked_of bytes next = asked_from (parse bytes) next
