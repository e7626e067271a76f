-- To lead to a place: a jump there stands at an address, or two jumps one after the other. Theorems cite it.
use Rattle.std.specs.Prelude.{◌≡◌, ◌⊎◌, ℕ, false, List, is_some, ℤ}
use Rattle.pun_base.specs.Memory.{Bytes}
use Rattle.length_decode.specs.Spelling.{Fields, IsInstruction, spelling}
use Rattle.cpu_state.specs.Bytes.{advanced}
use Rattle.cpu_state.specs.Fixed.{IsFixed}
use Rattle.insn_form.specs.declared.form.Target.TheVariants.{Rel}
use Rattle.insn_form.specs.declared.form.Op.TheVariants.{Jmp}
use Rattle.insn_form.specs.declared.form.Insn.TheVariants.{Exact}
use Rattle.insn_form.specs.Operands.{word_of}
use Rattle.insn_form.specs.Instruction.{insn_of}
use Rattle.insn_form.specs.Step.{next_after}
use Rattle.start_entries.specs.declared.entry.StartEntry.{StartEntry}
use Rattle.start_entries.specs.Finding.{entry_at}

-- At an address stands a direct JMP to a target, executable and not writable (Intel SDM, volume 2, JMP).
pub record JumpsTo (m : Bytes) (a target : ℕ) : Type 0 where
  pub fields : Fields
  pub spelled : IsInstruction fields
  pub stands : IsFixed m a (spelling fields)
  pub rel : ℤ
  pub jump : insn_of fields ≡ Exact (Jmp (Rel rel))
  pub leads : advanced (next_after a fields) (word_of rel) ≡ target

-- The bytes at an address lead to a place: by one jump, or by two, of which the second stands at no
-- listed start.
abbrev pub Leads : Bytes → List StartEntry → ℕ → ℕ → Type 0
Leads m es a place =
    JumpsTo m a place
    ⊎ ((mid : ℕ) × JumpsTo m a mid × (is_some (entry_at es mid) ≡ false) × JumpsTo m mid place)
