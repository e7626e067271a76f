-- Each page of the layout is a page of the part that it lies in.
use Rattle.std.proofs.Common.{◌≡◌, ℕ, ◌+◌, ◌-◌, ◌*◌, ◌%◌, ◌<◌, ◌≤◌, inl, inr, List, ◌++◌, length, replicate, sym, ap, ◌∙◌, arith, append_assoc}
use Rattle.std.proofs.lemmas.Bool.{cases_lt, cond-true, cond-false, lt-ltb, le-ltb}
use Rattle.std.proofs.lemmas.List.{length-append, length-replicate, replicate-append-replicate}
use Rattle.elf_read.specs.Entries.{table}
use Rattle.elf_read.proofs.FileSlices.{slice_past, slice_within}
use Rattle.elf_emit.specs.Job.{Frame}
use Rattle.elf_emit.specs.Frames.{slice, pad, padded, up, rewritten, olds, count, moved_part, table_at, private_at, private_len, pages_at, entries, original_part, layout}
use Rattle.elf_emit.specs.FrameLaws.{IsFrame}
use Rattle.elf_emit.specs.FramePages.{in_front, front_page, page_at, file_len, HasPages, FrameHasPages}
use Rattle.elf_emit.proofs.OriginalFacts.{Facts, facts_of}
use Rattle.elf_emit.proofs.WrittenTable.{front, length_front}
use Rattle.elf_emit.proofs.LoadedImage.{to_private, to_pages, length_to_private, length_to_pages, length_third, behind_table, layout_pages, pages_part}
use Rattle.elf_emit.proofs.PartialWrites.{slice-rewritten, slice_zeros, slice_filled}
use Rattle.elf_emit.proofs.FrontPages.{bare, front_written, length_moved, moved_whole}

-- the table begins at a whole page of the file
pub table_whole : (j : Frame) → Facts j → table_at j % 4096 ≡ 0
table_whole j f =
    let a = length_moved j.writes j.orig (olds j) (olds j) f.inside in
    let b = moved_whole (olds j) (olds j) in sum (length j.orig) (length (moved_part j)) (ap (λ (x : ℕ). x % 4096) a ∙ b)
  where
    sum : (n m : ℕ) → m % 4096 ≡ 0 → (up n + m) % 4096 ≡ 0
    sum n m e = omega arith

-- the private range begins at a whole page of the file
pub private_whole : (j : Frame) → Facts j → private_at j % 4096 ≡ 0
private_whole j f = sum (table_at j) (56 * count j) (table_whole j f)
  where
    sum : (m n : ℕ) → m % 4096 ≡ 0 → (m + up n) % 4096 ≡ 0
    sum m n e = omega arith

range_whole : (j : Frame) → IsFrame j → private_len j % 4096 ≡ 0
range_whole j h = let a = h.private_whole.0 in let b = h.private_whole.1 in omega arith

-- so do the pages behind it
pub pages_whole : (j : Frame) → IsFrame j → Facts j → pages_at j % 4096 ≡ 0
pages_whole j h f = let a = private_whole j f in let b = range_whole j h in omega arith

-- the bytes in front of the table
bare_parts : (j : Frame) → bare j ≡ j.orig ++ replicate (pad (length j.orig) + length (moved_part j)) 0
bare_parts j =
    append_assoc j.orig (replicate (pad (length j.orig)) 0) (replicate (length (moved_part j)) 0)
    ∙ ap (λ (z : List ℕ). j.orig ++ z) (replicate-append-replicate {A = ℕ} (pad (length j.orig)) (length (moved_part j)) 0)

bare_page : (n at m : ℕ) (xs : List ℕ) → at + n ≤ length xs + m → slice n at (xs ++ replicate m 0) ≡ slice n at xs ++ replicate (n - length (slice n at xs)) 0
bare_page n at m xs l = slice_filled n at m xs l

-- each page in front of the table is the original's, with the header's fields and the segments' bytes written over it
pub front_pages : (j : Frame) (at : ℕ) → Facts j → at + 4096 ≤ table_at j → slice 4096 at (layout j) ≡ front_page j at
front_pages j at f l =
    let rest : List ℕ = padded (table (entries j)) ++ (replicate (private_len j) 0 ++ j.body) in
    let n = length_front j f in
    let e : 0 + at ≡ at = omega arith in
    ap (λ (z : List ℕ). slice 4096 at z) (sym (append_assoc (padded (original_part j)) (moved_part j) rest))
    ∙ slice_within 4096 at (front j) rest (omega arith)
    ∙ ap (λ (z : List ℕ). slice 4096 at z) (sym (front_written j f))
    ∙ slice-rewritten (in_front j) 0 4096 at (bare j)
    ∙ (λ i. rewritten (in_front j) (e i) (slice 4096 at (bare_parts j i)))
    ∙ ap (λ (z : List ℕ). rewritten (in_front j) at z) (bare_page 4096 at (pad (length j.orig) + length (moved_part j)) j.orig (omega arith))

table_pages : (j : Frame) (at : ℕ) → Facts j → table_at j ≤ at → at + 4096 ≤ private_at j → slice 4096 at (layout j) ≡ slice 4096 (at - table_at j) (padded (table (entries j)))
table_pages j at f l m =
    let t : List ℕ = padded (table (entries j)) in
    let rest : List ℕ = replicate (private_len j) 0 ++ j.body in
    let e : at ≡ table_at j + (at - table_at j) = omega arith in
    let n = length_third j in
    ap (λ (x : ℕ). slice 4096 x (layout j)) e
    ∙ ap (λ (z : List ℕ). slice 4096 (table_at j + (at - table_at j)) z) (sym (append_assoc (padded (original_part j)) (moved_part j) (t ++ rest)))
    ∙ slice_past 4096 (table_at j) (at - table_at j) (front j) (t ++ rest) (length_front j f)
    ∙ slice_within 4096 (at - table_at j) t rest (omega arith)

private_pages : (j : Frame) (at : ℕ) → Facts j → private_at j ≤ at → at + 4096 ≤ pages_at j → slice 4096 at (layout j) ≡ replicate 4096 0
private_pages j at f l m =
    let zs : List ℕ = replicate (private_len j) 0 in
    let gs : List ℕ = j.body in
    let e : at ≡ private_at j + (at - private_at j) = omega arith in
    let n = length-replicate {A = ℕ} (private_len j) 0 in
    ap (λ (x : ℕ). slice 4096 x (layout j)) e
    ∙ ap (λ (z : List ℕ). slice 4096 (private_at j + (at - private_at j)) z) (behind_table (padded (original_part j)) (moved_part j) (padded (table (entries j))) zs gs)
    ∙ slice_past 4096 (private_at j) (at - private_at j) (to_private j) (zs ++ gs) (length_to_private j f)
    ∙ slice_within 4096 (at - private_at j) zs gs (omega arith)
    ∙ slice_zeros 4096 (at - private_at j) (private_len j) (omega arith)

shared_pages : (j : Frame) (at : ℕ) → Facts j → pages_at j ≤ at → slice 4096 at (layout j) ≡ slice 4096 (at - pages_at j) j.body
shared_pages j at f l =
    let e : at ≡ pages_at j + (at - pages_at j) = omega (arith, l) in
    ap (λ (x : ℕ). slice 4096 x (layout j)) e ∙ pages_part 4096 (at - pages_at j) j f

one_page : (j : Frame) (k : ℕ) → IsFrame j → Facts j → 4096 * k < file_len j → slice 4096 (4096 * k) (layout j) ≡ page_at j (4096 * k)
one_page j k h f l =
    let a = table_whole j f in
    let b = private_whole j f in
    let c = pages_whole j h f in
    elim (cases_lt (4096 * k) (table_at j)) [
      | inl m ↦ front_pages j (4096 * k) f (omega arith) ∙ sym (cond-true _ _ _ (lt-ltb (4096 * k) (table_at j) m))
      | inr m ↦ elim (cases_lt (4096 * k) (private_at j)) [
        | inl n ↦
            table_pages j (4096 * k) f m (omega arith)
            ∙ sym (cond-false _ _ _ (le-ltb (4096 * k) (table_at j) m) ∙ cond-true _ _ _ (lt-ltb (4096 * k) (private_at j) n))
        | inr n ↦ elim (cases_lt (4096 * k) (pages_at j)) [
          | inl p ↦
              private_pages j (4096 * k) f n (omega arith)
              ∙ sym (cond-false _ _ _ (le-ltb (4096 * k) (table_at j) m) ∙ cond-false _ _ _ (le-ltb (4096 * k) (private_at j) n) ∙ cond-true _ _ _ (lt-ltb (4096 * k) (pages_at j) p))
          | inr p ↦
              shared_pages j (4096 * k) f p
              ∙ sym (cond-false _ _ _ (le-ltb (4096 * k) (table_at j) m) ∙ cond-false _ _ _ (le-ltb (4096 * k) (private_at j) n) ∙ cond-false _ _ _ (le-ltb (4096 * k) (pages_at j) p))
        ]
      ]
    ]

-- the file has as many bytes as its parts
pub length_layout : (j : Frame) → IsFrame j → Facts j → length (layout j) ≡ file_len j
length_layout j h f =
    ap length (layout_pages j) ∙ length-append (to_pages j) j.body
    ∙ (λ i. length_to_pages j f i + h.long i)

-- the file is whole pages, and each is what the definition tells
pub pages_of_layout : (j : Frame) → IsFrame j → Facts j → HasPages j
pages_of_layout j h f = record {
  size = length_layout j h f;
  whole = (let c = pages_whole j h f in omega arith);
  page = λ k l. one_page j k h f l;
}

-- so for each written file that meets the conditions and whose table isn't too long
pub frame_has_pages : FrameHasPages
frame_has_pages j h few = pages_of_layout j h (facts_of j h few)
