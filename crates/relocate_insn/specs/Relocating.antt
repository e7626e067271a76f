-- Relocated code: what stands at a place for an instruction that stood elsewhere. Theorems cite it.
-- p is the first address of the private range, whose bytes 0 to 7 and 16 to 23 the code may write, and next is the address behind
-- the instruction.
use Rattle.std.specs.Prelude.{ℕ, ◌+◌, ◌*◌, ◌/◌, ◌%◌, ◌==◌, Bool, true, false, if◌then◌else◌, List, [], ◌∷◌, ◌++◌, length, option_to_list, Some}
use Rattle.length_decode.specs.declared.instruction_parts.Parts.{Parts}
use Rattle.length_decode.specs.declared.escape_bytes.Escape.TheVariants.{OneByte}
use Rattle.length_decode.specs.Spelling.{Fields, spelling, parts_of}
use Rattle.insn_form.specs.declared.form.Target.TheVariants.{Rel, Through}
use Rattle.insn_form.specs.declared.form.Op.TheVariants.{Jcc, Loop, Jmp, Call}
use Rattle.insn_form.specs.declared.form.Insn.{Insn}
use Rattle.insn_form.specs.declared.form.Insn.TheVariants.{Exact, Asked, Ending}
use Rattle.insn_form.specs.Classes.{has_rip, mod_of, modrm_of}
use Rattle.insn_form.specs.Instruction.{insn_of}
pub use Rattle.insn_form.specs.Instruction.{Spells}
use Rattle.insn_form.specs.Displacing.{goes_to}
use Rattle.relocate_insn.specs.Pieces.{jump_code, store_rax, load_rax, jump_through, push_code, ecx_code}
use Rattle.insn_form.specs.Moved.{rel_bytes, named, moved_fields}

-- a RIP displacement by which the same address is named from another next address; other displacements stay
abbrev pub moved_disp : Fields → ℕ → ℕ → List ℕ
moved_disp f next next' = if has_rip (parts_of f) then rel_bytes next' (named f next) else f.disp

-- the same instruction, with its RIP displacement rewritten
abbrev pub copy_of : Fields → ℕ → ℕ → List ℕ
copy_of f next place = spelling (moved_fields f next (place + length (spelling f)))

-- the prefix bytes of an operand in memory
abbrev pub memory_prefixes : Bool → Bool → Bool → List ℕ
memory_prefixes fs gs addrsize = (if fs then 0x64 ∷ [] else (if gs then 0x65 ∷ [] else [])) ++ (if addrsize then 0x67 ∷ [] else [])

-- the prefix bytes of a load: those of the operand in memory, and REX with W
abbrev pub load_prefixes : Bool → Bool → Bool → Bool → ℕ → List ℕ
load_prefixes of_register fs gs addrsize low = (if of_register then [] else memory_prefixes fs gs addrsize) ++ (0x48 + low) ∷ []

-- ModRM with reg 0
abbrev pub load_modrm : ℕ → ℕ
load_modrm m = m / 64 * 64 + m % 8

-- MOV rax, r/m64 of the operand of an instruction
abbrev pub load_of : Fields → ℕ → ℕ → Fields
load_of f next next' =
    let p = parts_of f in
    record {
      prefixes = load_prefixes (mod_of p == 3) p.prefixes.fs p.prefixes.gs p.prefixes.addrsize (p.rex % 4);
      escape = OneByte;
      opcode = 0x8b;
      modrm = Some (load_modrm (modrm_of p));
      sib = f.sib;
      disp = moved_disp f next next';
      imm = [];
    }

-- its length by the parts
abbrev pub load_bytes : Parts → ℕ
load_bytes p = if mod_of p == 3 then 3 else 3 + length (memory_prefixes p.prefixes.fs p.prefixes.gs p.prefixes.addrsize) + length (option_to_list p.sib) + p.disp_len

-- how long the load is: that doesn't depend on where it stands
abbrev pub load_size : Fields → ℕ → ℕ
load_size f next = length (spelling (load_of f next 0))

-- a call through an operand, by the bytes of its load: rax is saved, and the target lies at p + 16
abbrev pub through_code : ℕ → List ℕ → ℕ → List ℕ
through_code p load next = store_rax p ++ (load ++ (store_rax (p + 16) ++ (load_rax p ++ (push_code next ++ jump_through (p + 16)))))

-- an asked instruction: behind SYSCALL rcx becomes the next address
abbrev pub asked_code : Bool → List ℕ → ℕ → List ℕ
asked_code true copy next = copy ++ ecx_code next
asked_code false copy next = copy

-- the code at a place: a line for each kind of instruction
abbrev pub relocated_by : Insn → ℕ → Fields → ℕ → ℕ → List ℕ
relocated_by (Exact (Jcc cc rel)) p f next place = 0x0f ∷ (0x80 + cc) ∷ rel_bytes (place + 6) (goes_to next rel)
relocated_by (Exact (Loop kind rel short)) p f next place = []
relocated_by (Exact (Jmp (Rel rel))) p f next place = jump_code place (goes_to next rel)
relocated_by (Exact (Call (Rel rel))) p f next place = push_code next ++ jump_code (place + 5) (goes_to next rel)
relocated_by (Exact (Call (Through s))) p f next place = through_code p (spelling (load_of f next (place + 8 + load_size f next))) next
relocated_by (Exact op) p f next place = copy_of f next place
relocated_by (Asked form) p f next place = asked_code form.syscall (copy_of f next place) next
relocated_by Ending p f next place = []

-- the code at a place for the instruction of these fields
abbrev pub relocated_code : ℕ → Fields → ℕ → ℕ → List ℕ
relocated_code p f next place = relocated_by (insn_of f) p f next place
