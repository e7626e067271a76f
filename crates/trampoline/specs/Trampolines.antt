-- The code of a trampoline: the event's, the relocated code, and a jump back where that falls through. Theorems cite it.
use Rattle.std.specs.Prelude.{ℕ, ◌+◌, Bool, if◌then◌else◌, List, [], ◌++◌, length, Option, Some, None, option_map}
use Rattle.length_decode.specs.Spelling.{Fields}
use Rattle.insn_form.specs.declared.form.Insn.{Insn}
use Rattle.insn_form.specs.Instruction.{insn_of}
use Rattle.insn_form.specs.Displacing.{falls, work_length}
use Rattle.relocate_insn.specs.Pieces.{jump_code}
use Rattle.relocate_insn.specs.Relocating.{relocated_code}
use Rattle.trampoline.specs.declared.event.Event.{Event}
use Rattle.trampoline.specs.Events.{event_code, event_length}

-- the event's part, which may be missing
abbrev pub event_part : Option Event → ℕ → List ℕ
event_part None p = []
event_part (Some e) p = event_code e.action p e.number

-- its length
abbrev pub part_length : Option Event → ℕ
part_length None = 0
part_length (Some e) = event_length e.action

-- the jump to the next address
abbrev pub back_if : Bool → ℕ → ℕ → List ℕ
back_if b place next = if b then jump_code place next else []

-- the code behind the event's
abbrev pub work_code : ℕ → Fields → ℕ → ℕ → List ℕ
work_code p f next place = relocated_code p f next place ++ back_if (falls (insn_of f)) (place + length (relocated_code p f next place)) next

-- the code at a place
abbrev pub code_of : Option Event → ℕ → Fields → ℕ → ℕ → List ℕ
code_of event p f next place = event_part event p ++ work_code p f next (place + part_length event)

-- its bytes, for an instruction of len bytes at an address
abbrev pub size_of : Insn → ℕ → ℕ → Option Event → Option ℕ
size_of i len addr event = option_map (λ n. part_length event + n) (work_length i len addr)
