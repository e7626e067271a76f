-- The instruction of a spelling. Theorems cite it.
use Rattle.std.specs.Prelude.{◌≡◌, ℕ, List}
use Rattle.length_decode.specs.Spelling.{Fields, IsInstruction, spelling, parts_of}
use Rattle.insn_form.specs.declared.form.Insn.{Insn}
use Rattle.insn_form.specs.Filling.{insn_from}

-- the instruction of fields, by their parts
abbrev pub insn_of : Fields → Insn
insn_of f = insn_from (parts_of f) f.disp f.imm

-- it is the instruction of each spelling that the bytes are
abbrev pub Classifies : List ℕ → Insn → Type 0
Classifies bytes i = (f : Fields) → IsInstruction f → bytes ≡ spelling f → i ≡ insn_of f

-- the bytes spell this instruction
pub record Spells (bytes : List ℕ) (i : Insn) : Type 0 where
  pub fields : Fields
  pub is : IsInstruction fields
  pub spelled : bytes ≡ spelling fields
  pub insn : i ≡ insn_of fields
