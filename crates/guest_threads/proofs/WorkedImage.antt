-- What the written file of the first worked row loads.
use Rattle.std.proofs.Common.{◌≡◌, inr, inl, ℕ, ◌+◌, ◌-◌, ◌*◌, ◌<◌, ◌≤◌, Bool, true, false, ◌&&◌, ◌||◌, leb, ltb, if◌then◌else◌, [], ◌∷◌, length, slice_index, Option, Some, None, refl, sym, ap, ◌∙◌, arith, option_map}
use Rattle.std.proofs.Math.Bool.{or-false}
use Rattle.std.proofs.lemmas.Bool.{cond-true, cond-false}
use Rattle.std.proofs.lemmas.Bool.Decides.{nat_tests}
use Rattle.pun_base.specs.Memory.{Cell, Bytes, joined, or_else}
use Rattle.pun_base.specs.Ranges.{is_within}
use Rattle.elf_read.specs.Entries.{table, entry_of}
use Rattle.elf_read.specs.Image.{Chunk, image, image_of}
use Rattle.elf_read.specs.Plain.{text_image}
use Rattle.elf_read.proofs.PlainImages.{plain_entry}
use Rattle.elf_emit.specs.Layout.{frame_of, in_patch, written_at}
use Rattle.elf_emit.specs.Frames as frames
use Rattle.elf_emit.specs.FrameLaws.{with_writes}
use Rattle.elf_emit.specs.Laws.{table_image, pages_image, loaded}
use Rattle.scheme_search.proofs.OneJumpBytes.{within_false, within_parts}
use Rattle.guest_threads.specs.WorkedFile.{row_text, row_file, row_code, row_job, row_written}
use Rattle.guest_threads.proofs.WorkedFile.{original_path, count_is, written_loads}

-- the table, and the private range
abbrev table_chunk : Chunk
table_chunk = record { lo = 0x10000; size = 0xe0; perms = 4; bytes = table (frames.entries (frame_of row_job.emit)) }

abbrev private_chunk : Chunk
private_chunk = record { lo = 0x20000; size = 0x1000; perms = 6; bytes = [] }

-- the page of the trampoline
abbrev code_page : Bytes
code_page x = if is_within 0x2401000 4096 x then Some (record { byte = written_at row_job.emit.pieces x 0; perms = 5 }) else None

-- the text, of which two bytes are written
abbrev text_page : Bytes
text_page = with_writes row_job.emit.writes (text_image row_text)

-- all that is loaded, byte by byte
abbrev pub row_image : Bytes
row_image = joined (image (table_chunk ∷ [])) (joined (image (private_chunk ∷ [])) (joined code_page text_page))

-- the table lies below
no_table : (x : ℕ) → 0x20000 ≤ x → image (table_chunk ∷ []) x ≡ None
no_table x l = cond-false (is_within 0x10000 0xe0 x) _ _ (within_false 0x10000 0xe0 x (inr (omega arith)))

-- from 0x21000 on no byte of the private range is loaded
no_private : (x : ℕ) → 0x21000 ≤ x → image (private_chunk ∷ []) x ≡ None
no_private x l = cond-false (is_within 0x20000 0x1000 x) _ _ (within_false 0x20000 0x1000 x (inr (omega arith)))

-- the written file loads on the page the code, and zeros beside it
on_page : (x : ℕ) (b : Bool) → in_patch (record { addr = 0x2401005; now = row_code }) x ≡ b → is_within 0x2401000 4096 x ≡ true
    → Some (record { byte = written_at row_job.emit.pieces x 0; perms = 5 }) ≡ image_of row_written x
on_page x true e p =
    let few : length row_code ≡ 37 = refl in
    let k = within_parts 0x2401005 (length row_code) x e in
    let same : 0x2401005 + (x - 0x2401005) ≡ x = omega (arith, k.0) in
    ap (λ (n : ℕ). Some (record { byte = n; perms = 5 })) (cond-true (is_within 0x2401005 (length row_code) x) (slice_index row_code (x - 0x2401005)) 0 e)
    ∙ sym (written_loads.code.0 (x - 0x2401005) (omega (arith, k.0, k.1))) ∙ ap (image_of row_written) same
on_page x false e p =
    let k = within_parts 0x2401000 4096 x p in
    let same : 0x2401000 + (x - 0x2401000) ≡ x = omega (arith, k.0) in
    ap (λ (n : ℕ). Some (record { byte = n; perms = 5 })) (cond-false (is_within 0x2401005 (length row_code) x) (slice_index row_code (x - 0x2401005)) 0 e)
    ∙ sym (written_loads.zeros.0 (x - 0x2401000) (omega (arith, k.0, k.1))
    ((λ g. ap (λ (z : ℕ). in_patch (record { addr = 0x2401005; now = row_code }) z || false) same ∙ or-false (in_patch (record { addr = 0x2401005; now = row_code }) x) ∙ e), tt))
    ∙ ap (image_of row_written) same

-- the written file loads the row's image
patched_is : (x : ℕ) (b : Bool) → is_within 0x2401000 4096 x ≡ b → row_image x ≡ image_of row_written x
patched_is x true e =
    let k = within_parts 0x2401000 4096 x e in
    ap (λ (o : Option Cell). or_else o (or_else (image (private_chunk ∷ []) x) (or_else (code_page x) (text_page x)))) (no_table x (omega (arith, k.0)))
    ∙ ap (λ (o : Option Cell). or_else o (or_else (code_page x) (text_page x))) (no_private x (omega (arith, k.0)))
    ∙ ap (λ (o : Option Cell). or_else o (text_page x)) (cond-true (is_within 0x2401000 4096 x) _ _ e)
    ∙ on_page x (in_patch (record { addr = 0x2401005; now = row_code }) x) refl e
patched_is x false e =
    let t : image (table_chunk ∷ []) x ≡ table_image row_job.emit x =
    ap (λ n. image (record { lo = 0x10000; size = 56 * n; perms = 4; bytes = table (frames.entries (frame_of row_job.emit)) } ∷ []) x) (sym count_is) in
    let page : code_page x ≡ pages_image row_job.emit x = cond-false (is_within 0x2401000 4096 x) _ _ e ∙ sym (cond-false (is_within 0x2401000 4096 x) _ _ e) in
    let text : text_page x ≡ with_writes row_job.emit.writes (image_of row_file) x = ap (λ (m : Bytes). with_writes row_job.emit.writes m x) original_path in
    let whole : row_image x ≡ loaded row_job.emit x = λ i. or_else (t i) (or_else (image (private_chunk ∷ []) x) (or_else (page i) (text i))) in
    whole ∙ sym (written_loads.image x)

-- the written file loads the row's image
pub patched_path : row_image ≡ image_of row_written
patched_path = λ i x. patched_is x (is_within 0x2401000 4096 x) refl i

-- the row's file starts at 0x401000
pub entry_is : entry_of row_file ≡ 0x401000
entry_is = plain_entry row_text

-- nothing is loaded where the stacks are
pub none_at_stacks : (x : ℕ) → 0x600000 ≤ x → x < 0x602000 → (text_image row_text x ≡ None) × (row_image x ≡ None)
none_at_stacks x l h = (
  text,
  ap (λ (o : Option Cell). or_else o (or_else (image (private_chunk ∷ []) x) (or_else (code_page x) (text_page x)))) (no_table x (omega arith))
      ∙ ap (λ (o : Option Cell). or_else o (or_else (code_page x) (text_page x))) (no_private x (omega arith))
      ∙ ap (λ (o : Option Cell). or_else o (text_page x)) (cond-false (is_within 0x2401000 4096 x) _ _ (within_false 0x2401000 4096 x (inl (omega arith))))
      ∙ ap (λ (o : Option Cell). option_map (λ (c : Cell). record { byte = written_at row_job.emit.writes x c.byte; perms = c.perms }) o) text,
)
  where
    above : (leb 0x401000 x && ltb x (0x401000 + length row_text)) ≡ false
    above = grind (arith, nat_tests)

    text : text_image row_text x ≡ None
    text = cond-false (leb 0x401000 x && ltb x (0x401000 + length row_text)) _ _ above
