-- The file of a guest is bytes.
use Rattle.std.proofs.Common.{ℕ, zero, suc, ◌+◌, List, [], ◌∷◌, ◌++◌, length, replicate, refl, sym, subst, arith}
use Rattle.std.specs.Int.{bytes_low_first}
use Rattle.byteorder.specs.Endian.{little_bytes}
use Rattle.hex.specs.Hex.{IsBytes}
use Rattle.elf_read.specs.declared.segment.Segment.{Segment}
use Rattle.elf_read.specs.Entries.{fields, table}
use Rattle.elf_read.specs.Entries as entries
use Rattle.elf_read.specs.Plain.{header}
use Rattle.elf_read.specs.Writing.{header_of}
use Rattle.insn_form.specs.Moved.{rel_bytes}
use Rattle.patch_report.proofs.ByteLists.{more_bytes, bytes_append, bytes_all, bytes_zeros}
use Rattle.guest_gen.specs.declared.instruction.GuestInsn.{GuestInsn}
use Rattle.guest_gen.specs.declared.instruction.GuestInsn.TheVariants.{Ret, MovRaxRbx, AddRbxRax, MovEax, AddRbx, AddRcxOne, PushRax, PopRax, CmpRaxRbx, JeOverInc, IncRdx, LoadRax, StoreRax, CallRet, LeaData, XorRaxRcx, Nop, Cpuid, LeaRcx, CallRsi, JmpBack}
use Rattle.guest_gen.specs.Instructions.{text_start, blocks_start, data_start, spelled}
use Rattle.guest_gen.specs.Texts.{text_from, guest_insns, guest_text}
use Rattle.guest_gen.specs.Files.{guest_header, file_of, guest_file}
use Rattle.image_step.proofs.Numbers.{byte_small}
use Rattle.guest_gen.proofs.GuestImages.{both, file_parts}

-- ---- bytes in parts

-- four parts of bytes
four_parts : (a b c d : List ℕ) → IsBytes a → IsBytes b → IsBytes c → IsBytes d → IsBytes (a ++ (b ++ (c ++ d)))
four_parts a b c d h k l m = bytes_append a (b ++ (c ++ d)) h (bytes_append b (c ++ d) k (bytes_append c d l m))

-- the bytes of a number, the lowest first
low_bytes : (i k n : ℕ) → IsBytes (bytes_low_first i k n)
low_bytes i zero n j = omega arith
low_bytes zero (suc k) n zero = byte_small n
low_bytes (suc i) (suc k) n zero = byte_small _
low_bytes i (suc k) n (suc j) = low_bytes (suc i) k n j

-- ---- a text

-- four bytes by which a place is told
rel_small : (next target : ℕ) → IsBytes (rel_bytes next target)
rel_small next target = low_bytes 0 4 _

-- an instruction's bytes
insn_bytes : (i : GuestInsn) (at : ℕ) → IsBytes (spelled i at)
insn_bytes Ret at = bytes_all (spelled Ret at) refl
insn_bytes MovRaxRbx at = bytes_all (spelled MovRaxRbx at) refl
insn_bytes AddRbxRax at = bytes_all (spelled AddRbxRax at) refl
insn_bytes (MovEax n) at = more_bytes 0xb8 (bytes_low_first 0 4 n) (omega arith) (low_bytes 0 4 n)
insn_bytes (AddRbx n) at =
    bytes_append (0x48 ∷ 0x81 ∷ 0xc3 ∷ []) (bytes_low_first 0 4 n) (bytes_all (0x48 ∷ 0x81 ∷ 0xc3 ∷ []) refl) (low_bytes 0 4 n)
insn_bytes AddRcxOne at = bytes_all (spelled AddRcxOne at) refl
insn_bytes PushRax at = bytes_all (spelled PushRax at) refl
insn_bytes PopRax at = bytes_all (spelled PopRax at) refl
insn_bytes CmpRaxRbx at = bytes_all (spelled CmpRaxRbx at) refl
insn_bytes JeOverInc at = bytes_all (spelled JeOverInc at) refl
insn_bytes IncRdx at = bytes_all (spelled IncRdx at) refl
insn_bytes LoadRax at = bytes_all (spelled LoadRax at) refl
insn_bytes StoreRax at = bytes_all (spelled StoreRax at) refl
insn_bytes CallRet at = more_bytes 0xe8 (rel_bytes (at + 5) text_start) (omega arith) (rel_small (at + 5) text_start)
insn_bytes LeaData at =
    bytes_append (0x48 ∷ 0x8d ∷ 0x05 ∷ []) (rel_bytes (at + 7) data_start) (bytes_all (0x48 ∷ 0x8d ∷ 0x05 ∷ []) refl)
    (rel_small (at + 7) data_start)
insn_bytes XorRaxRcx at = bytes_all (spelled XorRaxRcx at) refl
insn_bytes Nop at = bytes_all (spelled Nop at) refl
insn_bytes Cpuid at = bytes_all (spelled Cpuid at) refl
insn_bytes LeaRcx at = bytes_all (spelled LeaRcx at) refl
insn_bytes CallRsi at = bytes_all (spelled CallRsi at) refl
insn_bytes JmpBack at = more_bytes 0xe9 (rel_bytes (at + 5) blocks_start) (omega arith) (rel_small (at + 5) blocks_start)

-- those of instructions
text_bytes : (at : ℕ) (is : List GuestInsn) → IsBytes (text_from at is)
text_bytes at [] k = omega arith
text_bytes at (i ∷ is) k =
    let next = at + length (spelled i at) in
    bytes_append (spelled i at) (text_from next is) (insn_bytes i at) (text_bytes next is) k

-- ---- a file

-- fields of a header or an entry
field_bytes : (fs : List (ℕ × ℕ)) → IsBytes (fields fs)
field_bytes [] i = omega arith
field_bytes (f ∷ fs) i = bytes_append (little_bytes f.0 f.1) (fields fs) (low_bytes 0 f.0 f.1) (field_bytes fs) i

-- an entry
entry_bytes : (s : Segment) → IsBytes (entries.spelled s)
unfolding entries.spelled
entry_bytes s = field_bytes (
    (4, s.kind) ∷ (4, s.flags) ∷ (8, s.offset) ∷ (8, s.vaddr) ∷ (8, s.paddr) ∷ (8, s.filesz) ∷ (8, s.memsz) ∷ (8, s.align) ∷ [])

-- a table
table_bytes : (ss : List Segment) → IsBytes (table ss)
table_bytes [] i = omega arith
table_bytes (s ∷ ss) i = bytes_append (entries.spelled s) (table ss) (entry_bytes s) (table_bytes ss) i

-- the header
header_bytes : IsBytes guest_header
unfolding guest_header header_of header
header_bytes = bytes_all guest_header refl

-- a file of a text
file_bytes : (text : List ℕ) → IsBytes text → IsBytes (file_of text)
file_bytes text h =
    subst IsBytes (sym (file_parts text))
    (four_parts guest_header (table (both (length text))) (replicate 3920 0) text header_bytes (table_bytes (both (length text)))
    (bytes_zeros 3920) h)

-- so the file of each guest
pub guest_bytes : (seed n : ℕ) → IsBytes (guest_file seed n)
guest_bytes seed n = file_bytes (guest_text seed n) (text_bytes text_start (guest_insns seed n))
