-- The written file by its parts, and its table, which is read back.
use Rattle.std.proofs.Common.{◌≡◌, ℕ, suc, ◌+◌, ◌-◌, ◌*◌, ◌%◌, ◌^◌, ◌<◌, ◌≤◌, ◌==◌, inl, inr, Bool, true, false, cond, nat_le, List, [], ◌∷◌, ◌++◌, length, drop, map, replicate, refl, sym, ap, ◌∙◌, subst, arith, append_assoc, eqb-true, ◌&&◌, lit<}
use Rattle.std.proofs.lemmas.Bool.{and_parts, cases_Bool, cond-true, cond-false}
use Rattle.std.proofs.lemmas.List.{append-nil, length-append, length-map}
use Rattle.std.specs.List.{AllByRecursion}
use Rattle.byteorder.specs.Endian.{little_number, little_bytes}
use Rattle.byteorder.specs.Numbers.{little_from-take, little_number-reads_back}
use Rattle.pun_base.specs.Field.{field}
pub use Rattle.pun_base.proofs.JoinedLists.{all_appended as all_append}
use Rattle.elf_read.specs.declared.segment.Segment.{Segment}
use Rattle.elf_read.specs.Entries.{Fits, segments, table, table_place, table_count, is_load}
use Rattle.elf_read.specs.Writing.{load_entry}
use Rattle.elf_read.proofs.FileSlices.{slice_within}
use Rattle.elf_read.proofs.FileTables.{segments_read}
use Rattle.elf_emit.specs.declared.runs.Page.{Page}
use Rattle.elf_emit.specs.Job.{BytesAt, Part, Frame}
use Rattle.elf_emit.specs.declared.runs.Run.{Run}
use Rattle.elf_emit.specs.Frames.{slice, pad, padded, up, olds, others, is_other, count, is_moved, moved_bytes, renewed, content, moved_part, moved_at, table_at, private_at, private_len, pages_at, part_load, with_table, new_loads, insert_load, in_order, entries, original_part, layout}
use Rattle.elf_emit.specs.Layout.{runs_of, join_page}
use Rattle.elf_emit.specs.FrameLaws.{IsPart, IsFrame}
use Rattle.elf_emit.specs.Laws.{IsPage}
use Rattle.elf_emit.specs.Views.{InFile}
use Rattle.elf_emit.proofs.PlacedSlices.{length_padded}
use Rattle.elf_emit.proofs.StayingSegments.{all_filtered, all_map}
use Rattle.elf_emit.proofs.OriginalFacts.{Facts, length_original, place_kept, count_kept, table_bound, fits_from, length_moved_one}

-- what stands before the table
abbrev pub front : Frame → List ℕ
front j = padded (original_part j) ++ moved_part j

-- what stands behind the table
abbrev pub after_table : Frame → List ℕ
after_table j = replicate (pad (length (table (entries j)))) 0 ++ (replicate (private_len j) 0 ++ j.body)

parts : (a m t z r : List ℕ) → a ++ (m ++ ((t ++ z) ++ r)) ≡ (a ++ m) ++ (t ++ (z ++ r))
parts a m t z r = simp append_assoc

-- the file is what stands in front of the table, the table, and what stands behind it
pub layout_parts : (j : Frame) → layout j ≡ front j ++ (table (entries j) ++ after_table j)
layout_parts j = parts (padded (original_part j)) (moved_part j) (table (entries j)) (replicate (pad (length (table (entries j)))) 0) (replicate (private_len j) 0 ++ j.body)

-- what stands in front of the table ends where the table begins
pub length_front : (j : Frame) → Facts j → length (front j) ≡ table_at j
length_front j f =
    length-append (padded (original_part j)) (moved_part j)
    ∙ ap (λ (n : ℕ). n + length (moved_part j)) (length_padded (original_part j) ∙ ap up (length_original j f))

-- a part of the file inside the original's bytes is one of the part that keeps them
pub layout_slice : (n k : ℕ) (j : Frame) → k + n ≤ length (original_part j) → slice n k (layout j) ≡ slice n k (original_part j)
layout_slice n k j l =
    let p = length_padded (original_part j) in
    slice_within n k (padded (original_part j)) _ (omega arith) ∙ slice_within n k (original_part j) (replicate (pad (length (original_part j))) 0) l

-- a field is the number that its own bytes spell
pub field_of_bytes : (n k : ℕ) (file : List ℕ) → field n k file ≡ little_number n (slice n k file)
field_of_bytes n k file = sym (little_from-take 0 n n (drop k file) (omega arith))

-- a field whose bytes are those of a number is that number
pub field_back : (n k x : ℕ) (xs : List ℕ) → x < 256 ^ n → slice n k xs ≡ little_bytes n x → field n k xs ≡ x
field_back n k x xs l e =
    field_of_bytes n k xs ∙ ap (λ (z : List ℕ). little_number n z) (e ∙ sym (append-nil (little_bytes n x))) ∙ little_number-reads_back n x [] l

-- the written file's header tells where the table begins
pub place_back : (j : Frame) → Facts j → IsFrame j → table_place (layout j) ≡ table_at j
unfolding table_place
place_back j f h =
    let b = table_bound j f in let s = h.size in let o = length_original j f in let g = f.long in
    field_back 8 32 (table_at j) (layout j) (omega arith) (layout_slice 8 32 j (omega arith) ∙ place_kept j f)

-- the written file's header tells how many entries it has
pub count_back : (j : Frame) → Facts j → IsFrame j → table_count (layout j) ≡ count j
unfolding table_count
count_back j f h =
    let b = f.few in let o = length_original j f in let g = f.long in
    field_back 2 56 (count j) (layout j) (omega arith) (layout_slice 2 56 j (omega arith) ∙ count_kept j f)

-- how many entries there are
length_insert : (s : Segment) (ss : List Segment) → length (insert_load s ss) ≡ suc (length ss)
length_insert s [] = refl
length_insert s (t ∷ ts) = choose (nat_le s.vaddr t.vaddr) (s ∷ t ∷ ts) (t ∷ insert_load s ts) (suc (suc (length ts))) refl (ap suc (length_insert s ts))
  where
    choose : (b : Bool) (xs ys : List Segment) (n : ℕ) → length xs ≡ n → length ys ≡ n → length (cond b xs ys) ≡ n
    choose true xs ys n e f = e
    choose false xs ys n e f = f

length_order : (ss : List Segment) → length (in_order ss) ≡ length ss
length_order [] = refl
length_order (s ∷ ss) = length_insert s (in_order ss) ∙ ap suc (length_order ss)

length_renewed : (all : List Segment) (at : ℕ) (ss : List Segment) → length (renewed all at ss) ≡ length ss
length_renewed all at [] = refl
length_renewed all at (s ∷ ss) = choose (is_moved all s) _ _ _ (ap suc (length_renewed all (at + up (s.vaddr % 4096 + s.filesz)) ss)) (ap suc (length_renewed all at ss))
  where
    choose : (b : Bool) (xs ys : List Segment) (n : ℕ) → length xs ≡ n → length ys ≡ n → length (cond b xs ys) ≡ n
    choose true xs ys n e f = e
    choose false xs ys n e f = f

-- the new table has as many entries as are counted
pub length_entries : (j : Frame) → length (entries j) ≡ count j
length_entries j =
    let a : length (new_loads j) ≡ 2 + (length j.parts + length (olds j)) =
    omega (arith, length-append (map (part_load (pages_at j)) j.parts) (renewed (olds j) (moved_at j) (olds j)), length-map j.parts (part_load (pages_at j)), length_renewed (olds j) (moved_at j) (olds j)) in
    length-append (map (with_table (table_at j) (56 * count j)) (others j)) (in_order (new_loads j))
    ∙ (λ i. length-map (others j) (with_table (table_at j) (56 * count j)) i + (length_order (new_loads j) ∙ a) i)

-- what holds of two lists holds of whichever a test chooses
pub all_cond : {X : Type 0} (P : List X → Type 0) (b : Bool) (xs ys : List X) → P xs → P ys → P (cond b xs ys)
all_cond P true xs ys p q = p
all_cond P false xs ys p q = q

-- what holds of a segment and of all in a list holds of all with it put in order
pub all_insert : (P : Segment → Type 0) (s : Segment) (ss : List Segment) → P s → AllByRecursion P ss → AllByRecursion P (insert_load s ss)
all_insert P s [] p h = (p, tt)
all_insert P s (t ∷ ts) p h = all_cond (λ z. AllByRecursion P z) (nat_le s.vaddr t.vaddr) (s ∷ t ∷ ts) (t ∷ insert_load s ts) (p, h) (h.0, all_insert P s ts p h.1)

-- what holds of all holds of all in order
pub all_order : (P : Segment → Type 0) (ss : List Segment) → AllByRecursion P ss → AllByRecursion P (in_order ss)
all_order P [] h = tt
all_order P (s ∷ ss) h = all_insert P s (in_order ss) h.0 (all_order P ss h.1)

-- what holds of the image of each holds of all in the mapped list
pub all_mapped : {X Y : Type 0} (P : Y → Type 0) (f : X → Y) (xs : List X) → AllByRecursion (λ x. P (f x)) xs → AllByRecursion P (map f xs)
all_mapped P f [] h = tt
all_mapped P f (x ∷ xs) h = (h.0, all_mapped P f xs h.1)

-- a run of whole pages among a program's addresses, shown by group pages that there are
pub record IsRun (files : ℕ) (r : Run) : Type 0 where
  pub low : 0x20000 ≤ r.addr
  pub high : r.addr + 4096 * r.count ≤ 0x7fff0000
  pub whole : r.addr % 4096 ≡ 0
  pub some : 0 < r.count
  pub shown : r.first + r.count ≤ files

one_run : (lo hi files : ℕ) (p : Page) → IsPage lo hi files p → IsRun files (record { addr = p.addr; first = p.group; count = 1 })
one_run lo hi files p h = record { low = h.low; high = h.high; whole = h.whole; some = lit< tt; shown = (let q = h.shown in omega arith) }

more_run : (lo hi files : ℕ) (p : Page) (r : Run) → IsPage lo hi files p → IsRun files r → p.addr + 4096 ≡ r.addr → p.group + 1 ≡ r.first → IsRun files (record { addr = p.addr; first = p.group; count = suc r.count })
more_run lo hi files p r h k e d = record { low = h.low; high = (let q = k.high in omega arith); whole = h.whole; some = omega arith; shown = (let q = k.shown in omega arith) }

-- what holds of a page alone and of all runs, and of one with a page more before it, holds of all runs with the page
pub all_joined : (P : Run → Type 0) (p : Page) (rs : List Run) → P (record { addr = p.addr; first = p.group; count = 1 }) → ((r : Run) → P r → p.addr + 4096 ≡ r.addr → p.group + 1 ≡ r.first → P (record { addr = p.addr; first = p.group; count = suc r.count })) → AllByRecursion P rs → AllByRecursion P (join_page p rs)
all_joined P p [] o m h = (o, tt)
all_joined P p (r ∷ rs) o m h = step ((p.addr + 4096 == r.addr) && (p.group + 1 == r.first)) refl
  where
    step : (b : Bool) → ((p.addr + 4096 == r.addr) && (p.group + 1 == r.first)) ≡ b → AllByRecursion P (cond b (record { addr = p.addr; first = p.group; count = suc r.count } ∷ rs) (record { addr = p.addr; first = p.group; count = 1 } ∷ r ∷ rs))
    step true e = let k = and_parts (p.addr + 4096 == r.addr) (p.group + 1 == r.first) e in (m r h.0 (eqb-true _ _ k.0) (eqb-true _ _ k.1), h.1)
    step false e = (o, h)

-- the runs of pages for code are whole pages among a program's addresses, shown by group pages that there are
pub runs_are : (lo hi files : ℕ) (ps : List Page) → AllByRecursion (IsPage lo hi files) ps → AllByRecursion (IsRun files) (runs_of ps)
runs_are lo hi files [] h = tt
runs_are lo hi files (p ∷ ps) h =
    all_joined (IsRun files) p (runs_of ps) (one_run lo hi files p h.0) (λ r k e d. more_run lo hi files p r h.0 k e d) (runs_are lo hi files ps h.1)

-- the entries fit their fields
fits_new : (flags offset vaddr size : ℕ) → flags < 2 ^ 32 → offset < 2 ^ 64 → vaddr < 2 ^ 64 → size < 2 ^ 64 → Fits (load_entry flags offset vaddr size)
fits_new flags offset vaddr size a b c d = record { kind = lit< tt; flags = a; offset = b; vaddr = c; paddr = c; filesz = d; memsz = d; align = lit< tt }

fits_tabled : (at size : ℕ) (s : Segment) → at < 2 ^ 64 → size < 2 ^ 64 → Fits s → Fits (with_table at size s)
fits_tabled at size s a b h = step (s.kind == 6)
  where
    step : (c : Bool) → Fits (cond c (record s { offset = at; vaddr = 0x10000; paddr = 0x10000; filesz = size; memsz = size }) s)
    step true = record { kind = h.kind; flags = h.flags; offset = a; vaddr = lit< tt; paddr = lit< tt; filesz = b; memsz = b; align = h.align }
    step false = h

fits_moved : (at : ℕ) (s : Segment) → at < 2 ^ 64 → Fits s → Fits (record s { offset = at })
fits_moved at s l h = record { kind = h.kind; flags = h.flags; offset = l; vaddr = h.vaddr; paddr = h.paddr; filesz = h.filesz; memsz = h.memsz; align = h.align }

fits_part : (lo hi files at : ℕ) (r : Part) → at < 2 ^ 64 - 2 ^ 45 → files < 2 ^ 33 → IsPart lo hi files r → Fits (part_load at r)
fits_part lo hi files at r l f h =
    let a = h.shown in let b = h.high in let p = h.perms in
    fits_new r.perms (at + 4096 * r.first) r.addr (4096 * r.count) (omega arith) (omega arith) (omega arith) (omega arith)

-- what holds of each segment at its old place, and of a moved one at each place for it in the file, holds of all at their new ones
pub renewed_all : (P Q : Segment → Type 0) (ws : List BytesAt) (orig : List ℕ) (all ss : List Segment) (at lim : ℕ) → at % 4096 ≡ 0 → at + length (moved_bytes ws orig all ss) ≤ lim → AllByRecursion (InFile (length orig)) ss → AllByRecursion P ss
    → ((s : Segment) → P s → Q s) → ((s : Segment) (to : ℕ) → P s → to % 4096 ≡ s.vaddr % 4096 → to + s.filesz ≤ lim → Q (record s { offset = to })) → AllByRecursion Q (renewed all at ss)
renewed_all P Q ws orig all [] at lim w l i h f g = tt
renewed_all P Q ws orig all (s ∷ ss) at lim w l i h f g = elim (cases_Bool (is_moved all s)) [
  | inl t ↦
      let a = length_moved_one ws orig s i.0 in
      let k : at + length (padded (replicate (s.vaddr % 4096) 0 ++ content ws orig s) ++ moved_bytes ws orig all ss) ≤ lim =
      subst (λ (z : List ℕ). at + length z ≤ lim) (cond-true (is_moved all s) _ _ t) l in
      let b = length-append (padded (replicate (s.vaddr % 4096) 0 ++ content ws orig s)) (moved_bytes ws orig all ss) in
      subst (λ (z : List Segment). AllByRecursion Q z) (sym (cond-true (is_moved all s) _ _ t)) (
        g s (at + s.vaddr % 4096) h.0 (omega arith) (omega arith),
        renewed_all P Q ws orig all ss (at + up (s.vaddr % 4096 + s.filesz)) lim (omega arith) (omega arith) i.1 h.1 f g,
      )
  | inr n ↦
      let k : at + length (moved_bytes ws orig all ss) ≤ lim = subst (λ (z : List ℕ). at + length z ≤ lim) (cond-false (is_moved all s) _ _ n) l in
      subst (λ (z : List Segment). AllByRecursion Q z) (sym (cond-false (is_moved all s) _ _ n))
      (f s h.0, renewed_all P Q ws orig all ss at lim w k i.1 h.1 f g)
]

-- the table begins below 2^63 + 2^33
pub table_low : (j : Frame) → Facts j → IsFrame j → table_at j < 2 ^ 63 + 2 ^ 33
table_low j f h = let b = table_bound j f in let s = h.size in omega arith

-- the pages behind the private range begin more than 2^45 below 2^64
pub pages_low : (j : Frame) → Facts j → IsFrame j → pages_at j < 2 ^ 64 - 2 ^ 45
pages_low j f h = let t = table_low j f h in let c = f.few in let p = h.private_high in omega arith

moved_fits : (j : Frame) → Facts j → IsFrame j → AllByRecursion Fits (renewed (olds j) (moved_at j) (olds j))
moved_fits j f h =
    let t = table_low j f h in
    renewed_all Fits Fits j.writes j.orig (olds j) (olds j) (moved_at j) (table_at j) (omega arith) (omega arith) f.inside
    (all_filtered Fits is_load (segments j.orig) (fits_from (table_count j.orig) (table_place j.orig) j.orig h.bytes))
    (λ s k. k) (λ s to k w l. fits_moved to s (omega arith) k)

-- each entry of the new table fits its fields
pub all_fit : (j : Frame) → Facts j → IsFrame j → AllByRecursion Fits (entries j)
all_fit j f h =
    let t = table_low j f h in let c = f.few in let p = h.private_high in let q = pages_low j f h in
    all_append Fits (map (with_table (table_at j) (56 * count j)) (others j)) (in_order (new_loads j))
    (all_mapped Fits (with_table (table_at j) (56 * count j)) (others j)
    (all_map Fits (λ s. Fits (with_table (table_at j) (56 * count j) s)) (others j) (λ s k. fits_tabled (table_at j) (56 * count j) s (omega arith) (omega arith) k)
    (all_filtered Fits is_other (segments j.orig) (fits_from (table_count j.orig) (table_place j.orig) j.orig h.bytes))))
    (all_order Fits (new_loads j) (
      fits_new 4 (table_at j) 0x10000 (56 * count j) (lit< tt) (omega arith) (lit< tt) (omega arith),
      (
        fits_new 6 (private_at j) j.private_lo (private_len j) (lit< tt) (omega arith) (omega arith) (omega arith),
        all_append Fits (map (part_load (pages_at j)) j.parts) (renewed (olds j) (moved_at j) (olds j))
            (all_mapped Fits (part_load (pages_at j)) j.parts
            (all_map (IsPart j.private_lo j.private_hi j.files) (λ r. Fits (part_load (pages_at j) r)) j.parts (λ r k. fits_part j.private_lo j.private_hi j.files (pages_at j) r q h.few_files k) h.parts))
            (moved_fits j f h),
      ),
    ))

-- the written file's table, read back, has the new entries
pub reads_back : (j : Frame) → Facts j → IsFrame j → segments (layout j) ≡ entries j
reads_back j f h =
    segments_read (table_at j) (layout j) (front j) (after_table j) (entries j) (layout_parts j) (length_front j f) (place_back j f h)
    (count_back j f h ∙ sym (length_entries j)) (all_fit j f h)
