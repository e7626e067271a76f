-- Starts of short texts, worked out. Worked examples alone cite it.
use Rattle.std.specs.Prelude.{◌≡◌, ℕ, true, false, List, [], ◌∷◌, ◌++◌, map, length, Option, Some, None, replicate}
use Rattle.cpu_alu.specs.declared.operation.Width.TheVariants.{W32, W64}
use Rattle.elf_read.specs.declared.segment.Segment.{Segment}
use Rattle.elf_read.specs.Entries.{spelled}
use Rattle.elf_read.specs.Plain.{header}
use Rattle.elf_read.specs.Writing.{load_entry}
use Rattle.insn_form.specs.declared.form.Spot.TheVariants.{Reg}
use Rattle.insn_form.specs.declared.form.Value.TheVariants.{Spot, Imm}
use Rattle.insn_form.specs.declared.form.Op.TheVariants.{Mov, Nop}
use Rattle.insn_form.specs.declared.form.Insn.{Insn}
use Rattle.insn_form.specs.declared.form.Insn.TheVariants.{Exact}
use Rattle.insn_form.specs.Operands.{rax}
use Rattle.start_entries.specs.declared.entry.StartEntry.{StartEntry}
use Rattle.start_entries.specs.declared.refusal.StartError.TheVariants.{NotExecutable}
use Rattle.start_entries.specs.Entries.{entries_of}
use Rattle.start_entries.specs.Refusals.{first_refusal}

-- A text at 0x401000 that can be executed.
abbrev pub text_segment : ℕ → Segment
text_segment n = load_entry 5 120 0x401000 n

-- The file of a short text: a header, one program header, and the text right after them.
abbrev pub short_file : List ℕ → List ℕ
short_file text = header 64 1 ++ spelled (text_segment (length text)) ++ text

-- An entry that shares no bytes.
abbrev pub entry : ℕ → ℕ → Option Insn → StartEntry
entry a n form = record { addr = a; len = n; form = form; shared = false }

-- mov eax, 60
abbrev pub mov_constant : Option Insn
mov_constant = Some (Exact (Mov W32 (Reg rax) (Imm 60)))

-- mov rax, rbx
abbrev pub mov_register : Option Insn
mov_register = Some (Exact (Mov W64 (Reg rax) (Spot (Reg 3))))

-- nop
abbrev pub nop : Option Insn
nop = Some (Exact (Nop None))

-- mov eax, 60; nop; nop
abbrev pub mov_nop_nop : List ℕ
mov_nop_nop = 0xb8 ∷ 0x3c ∷ 0 ∷ 0 ∷ 0 ∷ 0x90 ∷ 0x90 ∷ []

-- mov rax, rbx; an EVEX instruction; nop
abbrev pub evex : List ℕ
evex = 0x48 ∷ 0x89 ∷ 0xd8 ∷ 0x62 ∷ 0xf1 ∷ 0x7c ∷ 0x48 ∷ 0x28 ∷ 0xc1 ∷ 0x90 ∷ []

-- Twenty bytes 62.
abbrev pub unknown : List ℕ
unknown = replicate 20 0x62

-- Starts of short texts have the lengths and the refusals that are worked out by hand.
pub record AreWorked : Type 0 where
  pub starts_of_three : entries_of (short_file mov_nop_nop) (0x401000 ∷ 0x401005 ∷ 0x401006 ∷ []) ≡ entry 0x401000 5 mov_constant ∷ entry 0x401005 1 nop ∷ entry 0x401006 1 nop ∷ []
  pub accepted : first_refusal (short_file mov_nop_nop) (0x401000 ∷ 0x401005 ∷ 0x401006 ∷ []) ≡ None
  pub inside_the_mov : first_refusal (short_file mov_nop_nop) (0x401000 ∷ 0x401001 ∷ []) ≡ None
  pub inside_shared : map (λ e. e.shared) (entries_of (short_file mov_nop_nop) (0x401000 ∷ 0x401002 ∷ 0x401005 ∷ []))
      ≡ true ∷ true ∷ false ∷ []
  pub past_the_text : first_refusal (short_file mov_nop_nop) (0x402000 ∷ []) ≡ Some (NotExecutable 0x402000)
  pub both_in_order : first_refusal (short_file mov_nop_nop) (0x401000 ∷ 0x401001 ∷ 0x402000 ∷ []) ≡ Some (NotExecutable 0x402000)
  pub evex_starts : entries_of (short_file evex) (0x401000 ∷ 0x401003 ∷ 0x401009 ∷ []) ≡ entry 0x401000 3 mov_register ∷ entry 0x401003 6 None ∷ entry 0x401009 1 nop ∷ []
  pub evex_accepted : first_refusal (short_file evex) (0x401000 ∷ 0x401003 ∷ 0x401009 ∷ []) ≡ None
  pub to_the_end : entries_of (short_file evex) (0x401003 ∷ []) ≡ entry 0x401003 7 None ∷ []
  pub short_at_the_end : entries_of (short_file (0x90 ∷ 0xb8 ∷ 1 ∷ [])) (0x401000 ∷ 0x401001 ∷ []) ≡ entry 0x401000 1 nop ∷ entry 0x401001 2 None ∷ []
  pub fifteen : entries_of (short_file unknown) (0x401000 ∷ 0x401013 ∷ []) ≡ entry 0x401000 15 None ∷ entry 0x401013 1 None ∷ []
  pub inside_an_unknown : first_refusal (short_file evex) (0x401003 ∷ 0x401004 ∷ []) ≡ None
