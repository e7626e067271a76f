-- What an accepted file keeps, and what it loads at an address, by the segment that holds it.
use Rattle.std.proofs.Common.{◌≡◌, ℕ, ◌+◌, ◌-◌, ◌<◌, ◌≤◌, Bool, true, false, cond, List, [], length, get_or, take, drop, slice_index, Option, Some, None, option_map, sym, ap, ◌∙◌, subst}
use Rattle.pun_base.specs.Memory.{Cell}
use Rattle.elf_read.specs.declared.segment.Segment.{Segment}
use Rattle.elf_read.specs.Entries.{segments, loads}
use Rattle.elf_read.specs.Image.{chunk_of, image_of, cell_in}
use Rattle.elf_read.specs.Find.{segment_holding}
use Rattle.elf_read.specs.Code.{is_exec_in, is_exec, code_of, code_from, window}
use Rattle.elf_read.specs.Refusals.{refusal}
use Rattle.elf_read.specs.Accepted.{Ascends, IsFile}
use Rattle.elf_read.proofs.AcceptedFiles.{is_accepted, accepted_lower}
use Rattle.elf_read.proofs.SegmentSearch.{Held, found_held, image_by, exec_of, find_executed, is_exec_some, is_exec_none, executed_one}

-- what the struct keeps
pub is_file : (low : ℕ) (bytes : List ℕ) (entries loaded : List Segment) → 0x10000 ≤ low → entries ≡ segments bytes → loaded ≡ loads entries → refusal low bytes ≡ None → IsFile bytes entries loaded
is_file low bytes entries loaded l e f r = record { entries_are = e; loaded_are = f; accepted = accepted_lower low 0x10000 bytes l r }

-- the loaded entries that are kept are those of the file's bytes
pub same_loads : (bytes : List ℕ) (entries loaded : List Segment) → IsFile bytes entries loaded → loaded ≡ loads (segments bytes)
same_loads bytes entries loaded i = i.loaded_are ∙ ap loads i.entries_are

-- the loaded entries ascend by whole pages
pub file_ascends : (bytes : List ℕ) (entries loaded : List Segment) → IsFile bytes entries loaded → Ascends 0 loaded
file_ascends bytes entries loaded i =
    subst (λ (ss : List Segment). Ascends 0 ss) (sym (same_loads bytes entries loaded i)) (is_accepted 0x10000 bytes i.accepted).ascends

-- an accepted file is at least as long as a header
pub file_header : (bytes : List ℕ) (entries loaded : List Segment) → IsFile bytes entries loaded → 64 ≤ length bytes
file_header bytes entries loaded i = (is_accepted 0x10000 bytes i.accepted).header

-- the segment that holds an address lies in the file
pub held_at : (bytes : List ℕ) (a : ℕ) (o : Option Segment) (s : Segment) → refusal 0x10000 bytes ≡ None → o ≡ segment_holding bytes a → o ≡ Some s → Held (length bytes) a s
held_at bytes a o s r e q =
    found_held 0x10000 (length bytes) a (loads (segments bytes)) s (is_accepted 0x10000 bytes r).placed (sym e ∙ q)

-- the segment that holds an address lies in a list that is the file's bytes
pub inside_at : (bytes file : List ℕ) (a : ℕ) (o : Option Segment) (s : Segment) → refusal 0x10000 bytes ≡ None → file ≡ bytes → o ≡ segment_holding bytes a → o ≡ Some s → s.offset + s.filesz ≤ length file
inside_at bytes file a o s r f e q = subst (λ (xs : List ℕ). s.offset + s.filesz ≤ length xs) (sym f) (held_at bytes a o s r e q).inside

-- the image at an address, by the segment that holds it
pub image_at : (bytes : List ℕ) (a : ℕ) (o r : Option Segment) → o ≡ segment_holding bytes a → o ≡ r → image_of bytes a ≡ option_map (λ s. cell_in (chunk_of bytes s) a) r
image_at bytes a o r e q =
    image_by bytes (loads (segments bytes)) a ∙ ap (λ (x : Option Segment). option_map (λ s. cell_in (chunk_of bytes s) a) x) (sym e ∙ q)

-- a byte of the segment that holds an address, read from a list that is the file's bytes, is the image's there
pub byte_at : (bytes file : List ℕ) (a b : ℕ) (o : Option Segment) (s : Segment) → file ≡ bytes → o ≡ segment_holding bytes a → o ≡ Some s → b ≡ slice_index (take s.filesz (drop s.offset file)) (a - s.vaddr) → Some b ≡ option_map (λ (c : Cell). c.byte) (image_of bytes a)
byte_at bytes file a b o s f e q h =
    ap Some (h ∙ ap (λ (xs : List ℕ). slice_index (take s.filesz (drop s.offset xs)) (a - s.vaddr)) f)
    ∙ sym (ap (option_map (λ (c : Cell). c.byte)) (image_at bytes a o (Some s) e q))

-- whether the byte at an address can be executed, by the segment that holds it
pub exec_at : (bytes : List ℕ) (a : ℕ) (o : Option Segment) (s : Segment) → refusal 0x10000 bytes ≡ None → o ≡ segment_holding bytes a → o ≡ Some s → is_exec bytes a ≡ is_exec_in a s
exec_at bytes a o s r e q =
    let i = is_accepted 0x10000 bytes r in
    is_exec_some 0x10000 (length bytes) a (segments bytes) s i.ascends i.placed (sym e ∙ q)

-- where no segment holds an address, no byte there can be executed
pub exec_nowhere : (bytes : List ℕ) (a : ℕ) (o : Option Segment) → refusal 0x10000 bytes ≡ None → o ≡ segment_holding bytes a → o ≡ None → is_exec bytes a ≡ false
exec_nowhere bytes a o r e q =
    let i = is_accepted 0x10000 bytes r in
    is_exec_none 0x10000 (length bytes) a (segments bytes) i.ascends i.placed (sym e ∙ q)

-- the window at an address, by the segment that holds it
pub window_at : (bytes : List ℕ) (a : ℕ) (o r : Option Segment) → refusal 0x10000 bytes ≡ None → o ≡ segment_holding bytes a → o ≡ r → window bytes a ≡ code_of bytes a (exec_of a r)
window_at bytes a o r k e q =
    let i = is_accepted 0x10000 bytes k in
    ap (λ (x : Option Segment). code_of bytes a x) (find_executed 0x10000 (length bytes) a (segments bytes) i.ascends i.placed ∙ ap (λ (x : Option Segment). exec_of a x) (sym e ∙ q))

-- the window in a segment from which the address is executed is that segment's bytes from there on, at most 15
pub window_some : (bytes : List ℕ) (a : ℕ) (s : Segment) → is_exec_in a s ≡ true → code_of bytes a (exec_of a (Some s)) ≡ code_from bytes s a 15
window_some bytes a s e = ap (λ (b : Bool). code_of bytes a (cond b (Some s) None)) e

-- in a segment from which the address isn't executed the window is empty
pub window_none : (bytes : List ℕ) (a : ℕ) (s : Segment) → is_exec_in a s ≡ false → code_of bytes a (exec_of a (Some s)) ≡ []
window_none bytes a s e = ap (λ (b : Bool). code_of bytes a (cond b (Some s) None)) e

-- a loaded entry from which an address is executed is the one that holds it
pub executed_at : (bytes : List ℕ) (ss : List Segment) (a i : ℕ) (d : Segment) → refusal 0x10000 bytes ≡ None → ss ≡ loads (segments bytes) → i < length ss → is_exec_in a (get_or ss i d) ≡ true → segment_holding bytes a ≡ Some (get_or ss i d)
executed_at bytes ss a i d r e l x =
    let f = is_accepted 0x10000 bytes r in
    subst (λ (ts : List Segment). (i < length ts) → (is_exec_in a (get_or ts i d) ≡ true) → segment_holding bytes a ≡ Some (get_or ts i d)) (sym e)
    (λ m y. executed_one 0x10000 (length bytes) a i (loads (segments bytes)) d f.ascends f.placed m y) l x
