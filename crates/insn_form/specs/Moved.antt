-- An instruction whose RIP displacement is rewritten for another place. Theorems cite it.
use Rattle.std.specs.Prelude.{◌≡◌, ℕ, ◌+◌, ◌-◌, ◌%◌, ◌^◌, ◌<◌, true, if◌then◌else◌, List, length, Option, Some, None, ℤ}
use Rattle.std.specs.Int.{to_le_bytes, w32}
use Rattle.length_decode.specs.Spelling.{Fields, IsInstruction, spelling, parts_of}
use Rattle.cpu_state.specs.Bytes.{advanced}
use Rattle.insn_form.specs.declared.form.Insn.{Insn}
use Rattle.insn_form.specs.declared.form.Insn.TheVariants.{Exact, Asked, Ending}
use Rattle.insn_form.specs.declared.form.Op.TheVariants.{Jcc, Loop, Jmp, Call}
use Rattle.insn_form.specs.declared.form.Target.TheVariants.{Rel}
use Rattle.insn_form.specs.Operands.{word_of}
use Rattle.insn_form.specs.Classes.{has_rip}
use Rattle.insn_form.specs.Filling.{integer_of}
use Rattle.insn_form.specs.Instruction.{insn_of}
use Rattle.insn_form.specs.Step.{task_of}

-- where a branch leads of itself, from the address after it
abbrev pub direct_target : Insn → Option ℤ
direct_target (Exact (Jcc cc z)) = Some z
direct_target (Exact (Loop kind z short)) = Some z
direct_target (Exact (Jmp (Rel z))) = Some z
direct_target (Exact (Call (Rel z))) = Some z
direct_target (Exact op) = None
direct_target (Asked form) = None
direct_target Ending = None

-- the four bytes by which a place is told from a next address
abbrev pub rel_bytes : ℕ → ℕ → List ℕ
rel_bytes next target = to_le_bytes w32 ((target + 2 ^ 32 - next) % 2 ^ 32)

-- the address that a RIP operand names
abbrev pub named : Fields → ℕ → ℕ
named f next = advanced next (word_of (integer_of f.disp))

-- the fields with a RIP displacement that names the same address in front of another next address
abbrev pub moved_fields : Fields → ℕ → ℕ → Fields
moved_fields f next next' = record f { disp = if has_rip (parts_of f) then rel_bytes next' (named f next) else f.disp }

-- they spell an instruction of as many bytes, which is the same task
abbrev pub IsSameTask : Type 0
IsSameTask = (f : Fields) (next next' : ℕ) → IsInstruction f → direct_target (insn_of f) ≡ None → next' < 2 ^ 31 → (has_rip (parts_of f) ≡ true → named f next < 2 ^ 31)
    → IsInstruction (moved_fields f next next') × (length (spelling (moved_fields f next next')) ≡ length (spelling f)) × (task_of (moved_fields f next next') next' ≡ task_of f next)
