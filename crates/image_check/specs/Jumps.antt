-- Code that stays at an address, the jump at its front, and rule 3 for a trampoline. Contracts of private functions alone cite it.
use Rattle.std.specs.Prelude.{◌≡◌, ◌⊎◌, ℕ, zero, suc, ◌≤◌, ◌==◌, not, ◌&&◌, if◌then◌else◌, List, [], ◌∷◌, ◌++◌, length, Option, Some, None, bit_and, ℤ}
use Rattle.pun_base.specs.Memory.{Cell, Bytes}
use Rattle.length_decode.specs.Spelling.{Fields, IsInstruction, spelling}
use Rattle.cpu_state.specs.Bytes.{advanced}
use Rattle.insn_form.specs.declared.form.Insn.{Insn}
use Rattle.insn_form.specs.declared.form.Insn.TheVariants.{Exact}
use Rattle.insn_form.specs.declared.form.Op.{Op}
use Rattle.insn_form.specs.declared.form.Op.TheVariants.{Jmp}
use Rattle.insn_form.specs.declared.form.Target.{Target}
use Rattle.insn_form.specs.declared.form.Target.TheVariants.{Rel, Through}
use Rattle.insn_form.specs.Instruction.{insn_of}
use Rattle.insn_form.specs.Operands.{word_of}
use Rattle.start_entries.specs.declared.entry.StartEntry.{StartEntry}
use Rattle.start_entries.specs.Leading.{Leads}
use Rattle.image_check.specs.declared.flat.ReportLine.{ReportLine}
use Rattle.image_check.specs.Parts.{line_of}
use Rattle.sound_images.specs.Reports.{Line, times_started}
use Rattle.sound_images.specs.Rules.{Case, displaced_at}

-- A byte that is executable and not writable.
abbrev pub fixed_byte : Option Cell → Option ℕ
fixed_byte None = None
fixed_byte (Some c) = if not (bit_and c.perms 1 == 0) && (bit_and c.perms 2 == 0) then Some c.byte else None

-- A byte with those after it; no byte at all where the first is missing.
abbrev pub fixed_more : Option ℕ → List ℕ → List ℕ
fixed_more None later = []
fixed_more (Some b) later = b ∷ later

-- The executable, not writable bytes from an address on, up to the first that isn't one and at most
-- n.
abbrev pub fixed_at : Bytes → ℕ → ℕ → List ℕ
fixed_at m a zero = []
fixed_at m a (suc n) = fixed_more (fixed_byte (m a)) (fixed_at m (advanced a 1) n)

-- Bytes begin with the spelling of an instruction of a length.
pub record Begins (bytes : List ℕ) (i : Insn) (n : ℕ) : Type 0 where
  pub fields : Fields
  pub is : IsInstruction fields
  pub rest : List ℕ
  pub joined : bytes ≡ spelling fields ++ rest
  pub insn : i ≡ insn_of fields
  pub size : n ≡ length (spelling fields)

-- Bytes begin with the spelling of no instruction.
abbrev pub BeginsNone : List ℕ → Type 0
BeginsNone bytes = (f : Fields) → IsInstruction f → (rest : List ℕ) → bytes ≡ spelling f ++ rest → ⊥

-- What is read at the front of bytes: an instruction with its length, or that there is none.
abbrev pub IsReading : List ℕ → Option (Insn × ℕ) → Type 0
IsReading bytes None = BeginsNone bytes
IsReading bytes (Some p) = Begins bytes p.0 p.1

-- How far a direct jump with this target leads; none for a target in a register or in memory.
abbrev pub target_jump : Target → Option ℤ
target_jump (Rel rel) = Some rel
target_jump (Through s) = None

-- How far an operation jumps, if it is a direct jump.
abbrev pub op_jump : Op → Option ℤ
op_jump (Jmp target) = target_jump target
op_jump op = None

-- How far an instruction jumps, if it is a direct jump.
abbrev pub insn_jump : Insn → Option ℤ
insn_jump (Exact op) = op_jump op
insn_jump i = None

-- The address to which a jump of this distance leads, from an instruction of n bytes at an address.
abbrev pub jump_target : ℕ → ℕ → Option ℤ → Option ℕ
jump_target a n None = None
jump_target a n (Some rel) = Some (advanced (advanced a n) (word_of rel))

-- Rule 3 fails for a trampoline at its start.
abbrev pub LineFails : Case → ℕ → Line → Type 0
LineFails c x l =
    (l.tramp.start ≡ x)
    × ((displaced_at c.listed x ≡ None) ⊎ (2 ≤ times_started c.report x) ⊎ (Leads c.patched c.listed x l.tramp.place → ⊥))

-- Rule 3 fails for one of these trampolines at its start.
abbrev pub AnyLineFails : Case → ℕ → List ReportLine → Type 0
AnyLineFails c x [] = ⊥
AnyLineFails c x (l ∷ ls) = LineFails c x (line_of l) ⊎ AnyLineFails c x ls

-- An entry has at most fifteen bytes.
abbrev pub IsShort : StartEntry → Type 0
IsShort e = e.len ≤ 15
