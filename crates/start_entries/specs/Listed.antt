-- What holds of each entry of a list that was built of an accepted file. Theorems cite it.
use Rattle.std.specs.Prelude.{◌≡◌, ℕ, List, Some, None, Contains}
use Rattle.elf_read.specs.Refusals.{refusal}
use Rattle.insn_form.specs.declared.form.Insn.{Insn}
use Rattle.insn_form.specs.Displacing.{IsSpelledBy}
use Rattle.start_entries.specs.declared.entry.StartEntry.{StartEntry}
use Rattle.start_entries.specs.Laws.{IsBuilt, IsExecuted}

-- An entry's form, where it has one, is that of an instruction of the entry's length.
abbrev pub IsSpelledEntry : StartEntry → Type 0
IsSpelledEntry e = (i : Insn) → e.form ≡ Some i → IsSpelledBy i e.len

-- An entry's bytes can be executed, and its form is that of an instruction of its length.
pub record IsListed (file : List ℕ) (e : StartEntry) : Type 0 where
  pub executed : IsExecuted file e
  pub spelled : IsSpelledEntry e

-- Each entry of a list that was built of an accepted file has bytes that can be executed, and the
-- form of an instruction of its length.
abbrev pub AllListed : Type 0
AllListed =
    (file : List ℕ) (es : List StartEntry) (e : StartEntry) → refusal 0x10000 file ≡ None → IsBuilt file es → Contains es e
    → IsListed file e
