-- What holds of the entries of starts that are not refused. Theorems cite it.
use Rattle.std.specs.Prelude.{◌≡◌, ◌↔◌, ℕ, ◌+◌, ◌≤◌, ◌<◌, true, List, [], ◌∷◌, Contains, length, slice_index, Some, None, is_some, option_map}
use Rattle.std.specs.List.{AllByRecursion}
use Rattle.std.specs.List.Sorted.{IsStrictlyIncreasing}
use Rattle.pun_base.specs.Memory.{Bytes}
use Rattle.elf_read.specs.Code.{is_exec, window}
use Rattle.elf_read.specs.Image.{image_of}
use Rattle.elf_read.specs.Refusals.{refusal}
use Rattle.length_decode.specs.declared.instruction_parts.Parts.{Parts}
use Rattle.length_decode.specs.Spelling.{Fields, IsInstruction, spelling, IsSpelling, BeginsWith, BeginsWithNone}
use Rattle.insn_form.specs.Instruction.{insn_of}
use Rattle.start_entries.specs.declared.entry.StartEntry.{StartEntry}
use Rattle.start_entries.specs.Entries.{entries_of}
use Rattle.start_entries.specs.SharedBytes.{SharesByte}
use Rattle.start_entries.specs.Refusals.{first_refusal}
use Rattle.start_entries.specs.Finding.{addresses}

-- Ascending starts in an accepted file, none of which is refused.
pub record AreStarts (low : ℕ) (file starts : List ℕ) : Type 0 where
  pub accepted : refusal low file ≡ None
  pub ascending : IsStrictlyIncreasing starts
  pub none : first_refusal file starts ≡ None

-- The entries are those that `Starts::build` gives for some ascending starts in a file: each is
-- what stands at its address, and no start is refused.
pub record IsBuilt (file : List ℕ) (es : List StartEntry) : Type 0 where
  pub ascending : IsStrictlyIncreasing (addresses es)
  pub entries : es ≡ entries_of file (addresses es)
  pub none : first_refusal file (addresses es) ≡ None

-- Each start has one entry.
abbrev pub OneEach : Type 0
OneEach = (file starts : List ℕ) → addresses (entries_of file starts) ≡ starts

-- An entry has 1 to 15 bytes, each of which can be executed.
pub record IsExecuted (file : List ℕ) (e : StartEntry) : Type 0 where
  pub some : 1 ≤ e.len
  pub most : e.len ≤ 15
  pub executed : (k : ℕ) → k < e.len → is_exec file (e.addr + k) ≡ true

-- Each byte of each entry can be executed.
abbrev pub AllExecuted : Type 0
AllExecuted = (low : ℕ) (file starts : List ℕ) → AreStarts low file starts → AllByRecursion (IsExecuted file) (entries_of file starts)

-- An entry is marked exactly where one of its bytes is a byte of another entry.
abbrev pub SharedExactly : Type 0
SharedExactly =
    (low : ℕ) (file starts : List ℕ) → AreStarts low file starts → (e : StartEntry) → Contains (entries_of file starts) e
    → (e.shared ≡ true) ↔ SharesByte (entries_of file starts) e

-- The bytes are exactly the spelling of an instruction.
abbrev pub IsCode : List ℕ → Type 0
IsCode bytes = (parts : Parts) × IsSpelling bytes parts

-- These bytes stand in memory from an address on.
abbrev pub StandAt : Bytes → ℕ → List ℕ → Type 0
StandAt m a bytes = (k : ℕ) → k < length bytes → option_map (λ c. c.byte) (m (a + k)) ≡ Some (slice_index bytes k)

-- The memory holds the file's image on an entry's bytes.
abbrev pub HoldsImage : List ℕ → StartEntry → Bytes → Type 0
HoldsImage file e m = (k : ℕ) → k < e.len → m (e.addr + k) ≡ image_of file (e.addr + k)

-- An entry with a form has the bytes of an instruction, and at one without a form no instruction
-- begins. In each memory that holds the file's image on the entry's bytes, an instruction that
-- stands there has the entry's length and form.
pub record IsOneInstruction (file : List ℕ) (e : StartEntry) : Type 0 where
  pub spelled : is_some e.form ≡ true → (parts : Parts) × BeginsWith (window file e.addr) parts × (parts.len ≡ e.len)
  pub none : e.form ≡ None → BeginsWithNone (window file e.addr)
  pub length_is : is_some e.form ≡ true → (m : Bytes) → HoldsImage file e m → (bytes : List ℕ) → IsCode bytes → StandAt m e.addr bytes → length bytes ≡ e.len
  pub form_is : is_some e.form ≡ true → (m : Bytes) → HoldsImage file e m → (f : Fields) → IsInstruction f → StandAt m e.addr (spelling f) → e.form ≡ Some (insn_of f)

-- At each entry of starts that are not refused stands one instruction, where the length is known.
abbrev pub AllInstructions : Type 0
AllInstructions = (low : ℕ) (file starts : List ℕ) → AreStarts low file starts → AllByRecursion (IsOneInstruction file) (entries_of file starts)

-- Instructions by their bytes: a constant of four bytes into a register, the one-byte nop, a jump by four bytes, a
-- constant byte into a four-byte address.
pub record AreCode : Type 0 where
  pub constant : (r a b c d : ℕ) → r < 8 → IsCode ((0xb8 + r) ∷ a ∷ b ∷ c ∷ d ∷ [])
  pub nop : IsCode (0x90 ∷ [])
  pub jump : (a b c d : ℕ) → IsCode (0xe9 ∷ a ∷ b ∷ c ∷ d ∷ [])
  pub mark : (a b c d e : ℕ) → IsCode (0xc6 ∷ 0x04 ∷ 0x25 ∷ a ∷ b ∷ c ∷ d ∷ e ∷ [])
