-- Plans over short texts, worked out: what is written, what is punned, how long trampolines are. Worked examples alone cite it.
use Rattle.std.specs.Prelude.{◌≡◌, ℕ, true, false, Bool, List, [], ◌∷◌, length, map, Option, Some}
use Rattle.elf_read.specs.Plain.{text_segment, text_image}
use Rattle.byte_locks.specs.declared.lock.Lock.TheVariants.{Free}
use Rattle.cpu_alu.specs.declared.operation.AluOp.TheVariants.{Add}
use Rattle.cpu_alu.specs.declared.operation.Width.TheVariants.{W64}
use Rattle.insn_form.specs.declared.form.Insn.{Insn}
use Rattle.insn_form.specs.declared.form.Insn.TheVariants.{Exact}
use Rattle.insn_form.specs.declared.form.Op.TheVariants.{Alu}
use Rattle.insn_form.specs.declared.form.Spot.TheVariants.{Reg}
use Rattle.insn_form.specs.declared.form.Value.TheVariants.{Imm}
use Rattle.start_entries.specs.declared.entry.StartEntry.{StartEntry}
use Rattle.start_entries.specs.Rows.{entry, mov_constant, mov_register, mov_nop_nop}
use Rattle.start_list.specs.TurnViews.{TurnView, memory_now}
use Rattle.start_list.specs.PlanJumps.{is_punned, after_writes}
use Rattle.start_list.specs.Forms.{Candidate, B1, B2, T1, T2, T3, jumps_of, trampolines_of, work_length, HasForm}
use Rattle.start_list.specs.Admissible.{size_of}
use Rattle.start_list.specs.Plans.{bytes_from}

-- The first turn over a text for a guest of one thread, with the private range at 0x20000 and an
-- event's code of eight bytes.
abbrev pub first_turn : List ℕ → List StartEntry → TurnView
first_turn text es = record {
  image = text_image text;
  segments = text_segment (length text) ∷ [];
  entries = es;
  lock = λ a. Free;
  taken = record { lo = 0x20000; hi = 0x21000 } ∷ record { lo = 0x401000; hi = 0x402000 } ∷ [];
  event_size = 8;
  can = work_length;
}

-- mov rax, rbx; add rbx, rax; nop; nop
abbrev pub sum : List ℕ
sum = 0x48 ∷ 0x89 ∷ 0xd8 ∷ 0x48 ∷ 0x01 ∷ 0xc3 ∷ 0x90 ∷ 0x90 ∷ []

-- mov rax, rbx; mov rbx, rax; pop rbx; nop
abbrev pub moves : List ℕ
moves = 0x48 ∷ 0x89 ∷ 0xd8 ∷ 0x48 ∷ 0x89 ∷ 0xc3 ∷ 0x5b ∷ 0x90 ∷ []

-- mov rax, rbx; add rbx, -0x70; nop
abbrev pub victim_behind : List ℕ
victim_behind = 0x48 ∷ 0x89 ∷ 0xd8 ∷ 0x48 ∷ 0x81 ∷ 0xc3 ∷ 0x90 ∷ 0xff ∷ 0xff ∷ 0xff ∷ 0x90 ∷ []

-- mov rax, rbx; mov rbx, rax; four nops; add rbx, 0x44332211; ret
abbrev pub victim_near : List ℕ
victim_near =
    0x48 ∷ 0x89 ∷ 0xd8 ∷ 0x48 ∷ 0x89 ∷ 0xc3 ∷ 0x90 ∷ 0x90 ∷ 0x90 ∷ 0x90
    ∷ 0x48 ∷ 0x81 ∷ 0xc3 ∷ 0x11 ∷ 0x22 ∷ 0x33 ∷ 0x44 ∷ 0xc3 ∷ []

-- add rbx, n
abbrev pub add_constant : ℕ → Option Insn
add_constant n = Some (Exact (Alu Add W64 (Reg 3) (Imm n) true))

-- mov eax, 60, a site that a whole jump fits
abbrev pub mov_of_five : StartEntry
mov_of_five = entry 0x401000 5 mov_constant

-- mov rax, rbx, a site that is too short for a whole jump
abbrev pub mov_of_three : StartEntry
mov_of_three = entry 0x401000 3 mov_register

-- add rbx, -0x70, the victim right after the site
abbrev pub behind : StartEntry
behind = entry 0x401003 7 (add_constant 0xffffffffffffff90)

-- add rbx, 0x44332211, the victim some bytes above the site
abbrev pub near : StartEntry
near = entry 0x40100a 7 (add_constant 0x44332211)

-- The text after a plan's writes.
abbrev pub text_after : List ℕ → StartEntry → Candidate → List ℕ
text_after text site c = bytes_from (after_writes (memory_now (first_turn text [])) (jumps_of site c)) 0x401000 (length text)

-- Which of the text's first eight bytes are punned.
abbrev pub puns_of : StartEntry → Candidate → List Bool
puns_of site c =
    map (is_punned (jumps_of site c))
    (0x401000 ∷ 0x401001 ∷ 0x401002 ∷ 0x401003 ∷ 0x401004 ∷ 0x401005 ∷ 0x401006 ∷ 0x401007 ∷ [])

-- How many bytes the trampolines of a plan have.
abbrev pub sizes_of : StartEntry → Candidate → List (Option ℕ)
sizes_of site c = map (size_of (first_turn [] [])) (trampolines_of site c)

-- Plans of each scheme over short texts write, pun and need what is worked out by hand.
pub record AreWorkedPlans : Type 0 where
  pub whole_jump : text_after mov_nop_nop mov_of_five (B1 0x21000) ≡ 0xe9 ∷ 0xfb ∷ 0xff ∷ 0xc1 ∷ 0xff ∷ 0x90 ∷ 0x90 ∷ []
  pub whole_puns : puns_of mov_of_five (B1 0x21000) ≡ false ∷ false ∷ false ∷ false ∷ false ∷ false ∷ false ∷ false ∷ []
  pub whole_size : sizes_of mov_of_five (B1 0x21000) ≡ Some 18 ∷ []
  pub punned_jump : text_after sum mov_of_three (B2 0x1881005) ≡ 0xe9 ∷ 0x00 ∷ 0x00 ∷ 0x48 ∷ 0x01 ∷ 0xc3 ∷ 0x90 ∷ 0x90 ∷ []
  pub punned_puns : puns_of mov_of_three (B2 0x1881005) ≡ false ∷ false ∷ false ∷ true ∷ true ∷ false ∷ false ∷ false ∷ []
  pub punned_size : sizes_of mov_of_three (B2 0x1881005) ≡ Some 16 ∷ []
  pub padded_jump : text_after moves mov_of_three (T1 2 0x5c03994f) ≡ 0x40 ∷ 0x40 ∷ 0xe9 ∷ 0x48 ∷ 0x89 ∷ 0xc3 ∷ 0x5b ∷ 0x90 ∷ []
  pub padded_puns : puns_of mov_of_three (T1 2 0x5c03994f) ≡ false ∷ false ∷ false ∷ true ∷ true ∷ true ∷ true ∷ false ∷ []
  pub behind_jumps : text_after victim_behind mov_of_three (T2 behind 0 0 0x40 0 0x1291005 0x21008) ≡ 0xe9 ∷ 0x00 ∷ 0x00 ∷ 0xe9 ∷ 0x00 ∷ 0x00 ∷ 0xc2 ∷ 0xff ∷ 0xff ∷ 0xff ∷ 0x90 ∷ []
  pub behind_sizes : sizes_of mov_of_three (T2 behind 0 0 0x40 0 0x1291005 0x21008) ≡ Some 16 ∷ Some 12 ∷ []
  pub behind_form : HasForm (first_turn victim_behind (mov_of_three ∷ behind ∷ [])) mov_of_three (T2 behind 0 0 0x40 0 0x1291005 0x21008)
  pub near_jumps : text_after victim_near mov_of_three (T3 near 2 0 0x21011 0x40f90f)
      ≡ 0xeb ∷ 0x0a ∷ 0xd8 ∷ 0x48 ∷ 0x89 ∷ 0xc3 ∷ 0x90 ∷ 0x90 ∷ 0x90 ∷ 0x90
      ∷ 0xe9 ∷ 0x00 ∷ 0xe9 ∷ 0x00 ∷ 0x00 ∷ 0xc2 ∷ 0xff ∷ 0xc3 ∷ []
  pub near_sizes : sizes_of mov_of_three (T3 near 2 0 0x21011 0x40f90f) ≡ Some 16 ∷ Some 12 ∷ []
  pub near_form : HasForm (first_turn victim_near (mov_of_three ∷ near ∷ [])) mov_of_three (T3 near 2 0 0x21011 0x40f90f)
