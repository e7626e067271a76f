-- The instruction at a listed start of a file. Contracts cite it.
use Rattle.std.specs.Prelude.{◌≡◌, ℕ, List, take, Option, Some, None}
use Rattle.elf_read.specs.Code.{window}
use Rattle.insn_form.specs.declared.form.Insn.{Insn}
use Rattle.start_entries.specs.declared.entry.StartEntry.{StartEntry}
use Rattle.start_entries.specs.Finding.{entry_at}

-- The instruction that is known of an entry.
abbrev pub form_from : Option StartEntry → Option Insn
form_from None = None
form_from (Some e) = e.form

-- The instruction that is known at a listed start.
abbrev pub form_at : List StartEntry → ℕ → Option Insn
form_at es start = form_from (entry_at es start)

-- An entry is listed at a start, this instruction is known of it, and the bytes are as many of the window there as it has.
pub record IsInsnAt (file : List ℕ) (es : List StartEntry) (start : ℕ) (e : StartEntry) (i : Insn) (bs : List ℕ) : Type 0 where
  pub at : entry_at es start ≡ Some e
  pub form : e.form ≡ Some i
  pub bytes : bs ≡ take e.len (window file e.addr)
