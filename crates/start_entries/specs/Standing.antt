-- What entries are of an image. Theorems cite it.
-- Each is code throughout, and one instruction where the length is known; entries ascend, and one that isn't marked shares no byte.
use Rattle.std.specs.Prelude.{◌≡◌, ℕ, ◌+◌, ◌<◌, ◌≤◌, true, false, List, length, Some, is_some, Contains}
use Rattle.std.specs.List.Sorted.{IsStrictlyIncreasing}
use Rattle.pun_base.specs.Memory.{Bytes}
use Rattle.cpu_state.specs.Bytes.{allows, Stands}
use Rattle.length_decode.specs.Spelling.{Fields, IsInstruction, spelling}
use Rattle.insn_form.specs.Instruction.{insn_of}
use Rattle.elf_read.specs.Image.{image_of}
use Rattle.start_entries.specs.declared.entry.StartEntry.{StartEntry}
use Rattle.start_entries.specs.Finding.{addresses}
use Rattle.start_entries.specs.Entries.{entries_of}
use Rattle.start_entries.specs.Laws.{AreStarts}

-- At an entry stands the instruction of its length and form.
pub record IsInstructionOf (m : Bytes) (e : StartEntry) : Type 0 where
  pub fields : Fields
  pub spelled : IsInstruction fields
  pub stands : Stands m e.addr (spelling fields)
  pub len : length (spelling fields) ≡ e.len
  pub form : e.form ≡ Some (insn_of fields)

-- An entry of an image has bytes, ends where addresses of a program end at the latest, and each of
-- its bytes is executable and not writable. Where its form is known, it is one instruction.
pub record IsEntry (m : Bytes) (e : StartEntry) : Type 0 where
  pub some : 1 ≤ e.len
  pub low : e.addr + e.len ≤ 0x7FFF0000
  pub executed : (x : ℕ) → e.addr ≤ x → x < e.addr + e.len
      → (allows 1 (m x) ≡ true) × (allows 2 (m x) ≡ false)
  pub known : is_some e.form ≡ true → IsInstructionOf m e

-- No other of these entries than e has the byte at x.
abbrev pub IsOnlyIn : List StartEntry → StartEntry → ℕ → Type 0
IsOnlyIn es e x = (f : StartEntry) → Contains es f → f.addr ≤ x → x < f.addr + f.len → f ≡ e

-- Each of these is an entry of the image, their addresses ascend, and a byte of one that isn't marked is a byte of no other one.
pub record AreEntries (m : Bytes) (es : List StartEntry) : Type 0 where
  pub each : (e : StartEntry) → Contains es e → IsEntry m e
  pub ascending : IsStrictlyIncreasing (addresses es)
  pub alone : (e : StartEntry) → Contains es e → e.shared ≡ false → (x : ℕ) → e.addr ≤ x → x < e.addr + e.len → IsOnlyIn es e x

-- The entries of starts that are not refused are entries of the file's image.
abbrev pub BuiltAreEntries : Type 0
BuiltAreEntries = (low : ℕ) (file starts : List ℕ) → AreStarts low file starts
    → AreEntries (image_of file) (entries_of file starts)
