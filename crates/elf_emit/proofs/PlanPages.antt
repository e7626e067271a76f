-- The pages of a plan's file: in which part each lies, and what its bytes are.
use Rattle.std.proofs.Common.{◌≡◌, ℕ, ◌+◌, ◌-◌, ◌*◌, ◌/◌, ◌%◌, ◌^◌, ◌<◌, ◌≤◌, Bool, true, false, cond, List, [], ◌∷◌, ◌++◌, length, length-append, take, drop, replicate, sym, ap, ◌∙◌, subst, arith}
use Rattle.std.specs.List.{AllByRecursion}
use Rattle.std.proofs.lemmas.Bool.{cond-true, cond-false, lt-ltb, le-ltb}
use Rattle.elf_read.specs.declared.segment.Segment.{Segment}
use Rattle.elf_read.specs.Accepted.{IsPlaced}
use Rattle.elf_read.specs.Entries.{table}
use Rattle.elf_emit.specs.declared.patched_file.Plan.{Plan}
use Rattle.elf_emit.specs.Job.{Frame, Job}
use Rattle.elf_emit.specs.Frames.{slice, padded, up, rewritten, olds, is_moved, renewed, moved_at, table_at, private_at, pages_at, entries}
use Rattle.elf_emit.specs.Layout.{group_page, group_pages}
use Rattle.elf_emit.specs.Views.{patches_of, job_in}
use Rattle.elf_emit.specs.FramePages.{filled, contents, entry_fields, place_field, count_field, news, front_page, page_at, file_len}
use Rattle.elf_emit.specs.Windows.{AreHeld}
use Rattle.elf_emit.specs.Plans.{planned, IsPlan}
use Rattle.elf_read.proofs.FileSlices.{slice_within, slice_past}
use Rattle.elf_emit.proofs.OriginalFacts.{Facts, facts_of}
use Rattle.elf_emit.proofs.WrittenTable.{pages_low}
use Rattle.elf_emit.proofs.LoadedImage.{length_third}
use Rattle.elf_emit.proofs.GroupPages.{length_group_pages, group_found}
use Rattle.elf_emit.proofs.PagesOfLayout.{table_whole, private_whole, pages_whole}

-- segments at their new places
held_from : (len : ℕ) (all ss : List Segment) (at : ℕ) → at % 4096 ≡ 0 → AllByRecursion (IsPlaced 0x20000 len) ss → AreHeld len ss (renewed all at ss)
held_from len all [] at w h = tt
held_from len all (s ∷ ss) at w h =
    step (is_moved all s) h.0 (held_from len all ss (at + up (s.vaddr % 4096 + s.filesz)) (whole at (s.vaddr % 4096 + s.filesz) w) h.1) (held_from len all ss at w h.1)
  where
    whole : (a n : ℕ) → a % 4096 ≡ 0 → (a + up n) % 4096 ≡ 0
    whole a n e = omega arith

    step : (b : Bool) → IsPlaced 0x20000 len s → AreHeld len ss (renewed all (at + up (s.vaddr % 4096 + s.filesz)) ss) → AreHeld len ss (renewed all at ss)
        → AreHeld len (s ∷ ss) (cond b (record s { offset = at + s.vaddr % 4096 } ∷ renewed all (at + up (s.vaddr % 4096 + s.filesz)) ss) (s ∷ renewed all at ss))
    step true p a b =
        let x = p.in_file in let y = p.sizes in let z = p.high in (record { in_file = x; low = omega arith; aligned = omega arith }, a)
    step false p a b =
        let x = p.in_file in let y = p.sizes in let z = p.high in (record { in_file = x; low = omega arith; aligned = p.aligned }, b)

frame_held : (j : Frame) → Facts j → AreHeld (length j.orig) (olds j) (news j)
frame_held j f = held_from (length j.orig) (olds j) (olds j) (moved_at j) (whole (length j.orig)) f.placed
  where
    whole : (n : ℕ) → up n % 4096 ≡ 0
    whole n = omega arith

plan_facts : (p : Plan) → IsPlan p → Facts (planned p)
plan_facts p h = facts_of (planned p) h.frame h.few

-- a plan's segments are held at their new places
pub plan_held : (p : Plan) → IsPlan p → AreHeld (length p.file.now) p.loads.now p.news.items
plan_held p h =
    let held = frame_held (planned p) (plan_facts p h) in
    subst (λ z. AreHeld (length p.file.now) p.loads.now z) (sym h.news) (subst (λ z. AreHeld (length p.file.now) z (news (planned p))) (sym h.loads) held)

-- the start, the two fields and the segments' bytes, over the original's page, are the page in front of the table
pub front_is : (p : Plan) (at : ℕ) (page : List ℕ) → IsPlan p
    → page ≡ rewritten (entry_fields p.changes.tail.start
    ++ (place_field p.places.table_at ∷ count_field p.count ∷ contents (patches_of p.changes.writes.now) p.file.now p.loads.now p.news.items)) at (filled (slice 4096 at p.file.now))
    → page ≡ front_page (planned p) at
front_is p at page h e =
    e ∙ (λ i. rewritten (entry_fields p.changes.tail.start
    ++ (place_field (h.table_at i) ∷ count_field (h.count i) ∷ contents (patches_of p.changes.writes.now) p.file.now (h.loads i) (h.news i))) at (filled (slice 4096 at p.file.now)))

-- a page that begins in the table's part lies in it whole
pub table_room : (p : Plan) (at : ℕ) → IsPlan p → at % 4096 ≡ 0 → table_at (planned p) ≤ at → at < private_at (planned p) → at - table_at (planned p) + 4096 ≤ length p.table.items
table_room p at h w l m =
    let f = plan_facts p h in
    let a = table_whole (planned p) f in
    let b = private_whole (planned p) f in
    let c = ap length h.table ∙ length_third (planned p) in omega arith

-- the pages behind the private range begin more than 2^45 below 2^64
pub plan_low : (p : Plan) → IsPlan p → pages_at (planned p) < 2 ^ 64 - 2 ^ 45
plan_low p h = pages_low (planned p) (plan_facts p h) h.frame

-- a plan has fewer than 2^33 pages behind the private range
pub plan_few : (p : Plan) → IsPlan p → (planned p).files < 2 ^ 33
plan_few p h = h.frame.few_files

-- the pages behind the private range begin at a whole page
pub plan_whole : (p : Plan) → IsPlan p → pages_at (planned p) % 4096 ≡ 0
plan_whole p h = pages_whole (planned p) h.frame (plan_facts p h)

-- how many bytes stand behind the group pages: whole pages
pub tail_length : (p : Plan) → IsPlan p → length p.changes.tail.bytes.now ≡ 4096 * (length p.changes.tail.bytes.now / 4096)
tail_length p h =
    let j : Job = job_in p.file.now p.changes in
    let g = length_group_pages j 0 p.changes.groups in
    let e = length-append (group_pages j.pieces j.pages 0 j.groups) p.changes.tail.bytes.now in
    let l = h.frame.long in omega (arith, g, e, l)

-- a group page is the file's page from the private range's end on, as far as there are group pages
pub group_is : (p : Plan) (at n : ℕ) (page : List ℕ) → IsPlan p → at % 4096 ≡ 0 → n ≡ (at - pages_at (planned p)) / 4096 → pages_at (planned p) ≤ at
    → at < pages_at (planned p) + 4096 * p.changes.groups → page ≡ group_page (job_in p.file.now p.changes).pieces (job_in p.file.now p.changes).pages n
    → page ≡ slice 4096 (at - pages_at (planned p)) (planned p).body
group_is p at n page h w q l m e =
    let j : Job = job_in p.file.now p.changes in
    let o : ℕ = at - pages_at (planned p) in
    let z = plan_whole p h in
    let k : o ≡ 4096 * n = omega (arith, q, w, z, l) in
    let g = length_group_pages j 0 p.changes.groups in
    let u : 0 + n ≡ n = omega arith in
    e ∙ ap (group_page j.pieces j.pages) (sym u)
    ∙ sym (ap (λ (x : ℕ). slice 4096 x (planned p).body) k
    ∙ slice_within 4096 (4096 * n) (group_pages j.pieces j.pages 0 j.groups) p.changes.tail.bytes.now (omega (arith, g, k, l, m))
    ∙ group_found j n p.changes.groups 0 (omega (arith, k, l, m)))

-- a page behind the group pages is a page of the tail's bytes
pub tail_is : (p : Plan) (at first : ℕ) (page : List ℕ) → IsPlan p → first ≡ at - (pages_at (planned p) + 4096 * p.changes.groups)
    → pages_at (planned p) + 4096 * p.changes.groups ≤ at → page ≡ take (first + 4096 - first) (drop first p.changes.tail.bytes.now)
    → page ≡ slice 4096 (at - pages_at (planned p)) (planned p).body
tail_is p at first page h q l e =
    let j : Job = job_in p.file.now p.changes in
    let g = length_group_pages j 0 p.changes.groups in
    let k : first + 4096 - first ≡ 4096 = omega arith in
    let u : at - pages_at (planned p) ≡ 4096 * p.changes.groups + first = omega (arith, q, l) in
    e ∙ ap (λ (x : ℕ). take x (drop first p.changes.tail.bytes.now)) k
    ∙ sym (ap (λ (x : ℕ). slice 4096 x (planned p).body) u
    ∙ slice_past 4096 (4096 * p.changes.groups) first (group_pages j.pieces j.pages 0 j.groups) p.changes.tail.bytes.now g)

-- such a page lies in the file
pub tail_room : (p : Plan) (at first : ℕ) → IsPlan p → at % 4096 ≡ 0 → first ≡ at - (pages_at (planned p) + 4096 * p.changes.groups)
    → pages_at (planned p) + 4096 * p.changes.groups ≤ at → at < file_len (planned p) → first + 4096 ≤ length p.changes.tail.bytes.now
tail_room p at first h w q l m =
    let z = plan_whole p h in
    let t = tail_length p h in
    omega (arith, z, t, w, q, l, m)

-- a page of zeros is the file's page in the private range
pub in_private : (j : Frame) (at n m o : ℕ) (page : List ℕ) → n ≡ table_at j → m ≡ private_at j → o ≡ pages_at j → n ≤ at → m ≤ at → at < o
    → page ≡ replicate 4096 0 → page ≡ page_at j at
in_private j at n m o page e f g l k q is =
    is ∙ sym (cond-false _ _ _ (le-ltb at (table_at j) (omega arith)) ∙ cond-false _ _ _ (le-ltb at (private_at j) (omega arith)) ∙ cond-true _ _ _ (lt-ltb at (pages_at j) (omega arith)))

-- what is copied out of a plan's table is the page of the table there
pub table_cut : (p : Plan) (at : ℕ) → IsPlan p → (page : List ℕ) → page ≡ take (at - p.places.table_at + 4096 - (at - p.places.table_at)) (drop (at - p.places.table_at) p.table.items)
    → page ≡ slice 4096 (at - table_at (planned p)) (padded (table (entries (planned p))))
table_cut p at h page e =
    let k : at - p.places.table_at + 4096 - (at - p.places.table_at) ≡ 4096 = omega arith in
    e ∙ ap (λ (n : ℕ). take n (drop (at - p.places.table_at) p.table.items)) k
    ∙ (λ i. slice 4096 (at - h.table_at i) (h.table i))
