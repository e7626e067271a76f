-- What an accepted original leaves, and the part of the file that keeps its bytes.
use Rattle.std.proofs.Common.{◌≡◌, ℕ, zero, suc, ◌+◌, ◌-◌, ◌*◌, ◌/◌, ◌%◌, ◌^◌, ◌<◌, ◌≤◌, ◌⊎◌, inl, inr, Bool, true, false, cond, List, [], ◌∷◌, ◌++◌, length, take, drop, filter, replicate, slice_index, Option, Some, None, refl, sym, ap, ◌∙◌, subst, arith, lit<, lit≤}
use Rattle.std.proofs.Math.Nat.{pow-suc}
use Rattle.std.proofs.lemmas.Bool.{cases_lt}
use Rattle.std.proofs.lemmas.Bool.Decides.{nat_tests}
use Rattle.std.proofs.lemmas.List.{length-append, length-replicate, get_or-drop}
use Rattle.std.specs.List.{AllByRecursion}
use Rattle.byteorder.specs.Endian.{little_bytes, little_from}
use Rattle.byteorder.specs.Numbers.{length-bytes_low_first}
use Rattle.pun_base.specs.Field.{field, with_field}
use Rattle.elf_read.specs.declared.segment.Segment.{Segment}
use Rattle.elf_read.specs.Entries.{Fits, segment_at, segments_from}
use Rattle.elf_read.specs.Refusals.{first_page, last_page}
use Rattle.elf_read.specs.Accepted.{IsPlaced, Ascends}
use Rattle.elf_read.proofs.AcceptedFiles.{is_accepted}
use Rattle.elf_emit.specs.Job.{BytesAt, Frame}
use Rattle.elf_emit.specs.Frames.{slice, placed, padded, up, rewritten, content, olds, count, is_moved, stays, moved_bytes, table_at, with_entry, with_header, original_part}
use Rattle.elf_emit.specs.FrameLaws.{IsFrame}
use Rattle.elf_emit.specs.Views.{InFile}
use Rattle.elf_emit.proofs.PlacedSlices.{AwayFrom, length_padded, length_placed, slice_placed, slice_elsewhere, length_placed_all, length_content, away, contents_found}
use Rattle.elf_emit.proofs.StayingSegments.{all_filtered, all_passed, all_map, stays_apart, stays_past, not_moved, page_order}

-- a table that isn't too long, a file with room for a header, and segments that are placed, ascend by pages and lie in the file
pub record Facts (j : Frame) : Type 0 where
  pub few : count j ≤ 1024
  pub long : 64 ≤ length j.orig
  pub placed : AllByRecursion (IsPlaced 0x20000 (length j.orig)) (olds j)
  pub ascends : Ascends 0 (olds j)
  pub inside : AllByRecursion (InFile (length j.orig)) (olds j)

-- a written file that meets the conditions and whose table isn't too long has them
pub facts_of : (j : Frame) → IsFrame j → count j ≤ 1024 → Facts j
facts_of j h few =
    let a = is_accepted 0x20000 j.orig h.accepted in
    record {
      few = few;
      long = a.header;
      placed = a.placed;
      ascends = a.ascends;
      inside = all_map (IsPlaced 0x20000 (length j.orig)) (InFile (length j.orig)) (olds j) (λ s p. p.in_file) a.placed;
    }

-- a field that is set is the bytes of its number, put at its place
pub placed_field : (n at v : ℕ) (xs : List ℕ) → with_field n at v xs ≡ placed xs at (little_bytes n v)
placed_field n at v xs = λ i. take at xs ++ (little_bytes n v ++ drop (at + sym (length-bytes_low_first 0 n v) i) xs)

-- a list in which a field is set has as many bytes as before
pub length_field : (n at v : ℕ) (xs : List ℕ) → at + n ≤ length xs → length (with_field n at v xs) ≡ length xs
length_field n at v xs l =
    let e = length-bytes_low_first 0 n v in
    ap length (placed_field n at v xs) ∙ length_placed xs at (little_bytes n v) (omega arith)

-- the bytes of a field that was set are those of its number
pub field_found : (n at v : ℕ) (xs : List ℕ) → at + n ≤ length xs → slice n at (with_field n at v xs) ≡ little_bytes n v
field_found n at v xs l =
    ap (λ (z : List ℕ). slice n at z) (placed_field n at v xs)
    ∙ subst (λ (m : ℕ). slice m at (placed xs at (little_bytes n v)) ≡ little_bytes n v) (length-bytes_low_first 0 n v) (slice_placed xs at (little_bytes n v) (omega arith))

field_away : (m k n at v : ℕ) (xs : List ℕ) → at + n ≤ length xs → (k + m ≤ at) ⊎ (at + n ≤ k) → slice m k (with_field n at v xs) ≡ slice m k xs
field_away m k n at v xs l o =
    let e = length-bytes_low_first 0 n v in
    ap (λ (z : List ℕ). slice m k z) (placed_field n at v xs)
    ∙ slice_elsewhere m k xs at (little_bytes n v) (omega arith) (turned o e)
  where
    turned : (k + m ≤ at) ⊎ (at + n ≤ k) → length (little_bytes n v) ≡ n → (k + m ≤ at) ⊎ (at + length (little_bytes n v) ≤ k)
    turned (inl p) e = inl p
    turned (inr p) e = inr (omega arith)

-- the original with its new start has as many bytes as before
pub length_started : (entry : Option ℕ) (orig : List ℕ) → 64 ≤ length orig → length (with_entry entry orig) ≡ length orig
length_started None orig l = refl
length_started (Some e) orig l = length_field 8 24 e orig (omega arith)

started_else : (m k : ℕ) (entry : Option ℕ) (orig : List ℕ) → 64 ≤ length orig → (k + m ≤ 24) ⊎ (32 ≤ k) → slice m k (with_entry entry orig) ≡ slice m k orig
started_else m k None orig l o = refl
started_else m k (Some e) orig l o = field_away m k 8 24 e orig (omega arith) o

abbrev headed : ℕ → ℕ → List ℕ → List ℕ
headed place n orig = with_field 2 56 n (with_field 8 32 place orig)

length_headed : (place n : ℕ) (orig : List ℕ) → 64 ≤ length orig → length (headed place n orig) ≡ length orig
length_headed place n orig l =
    let a = length_field 8 32 place orig (omega arith) in
    length_field 2 56 n (with_field 8 32 place orig) (omega arith) ∙ a

headed_place : (place n : ℕ) (orig : List ℕ) → 64 ≤ length orig → slice 8 32 (headed place n orig) ≡ little_bytes 8 place
headed_place place n orig l =
    let a = length_field 8 32 place orig (omega arith) in
    field_away 8 32 2 56 n (with_field 8 32 place orig) (omega arith) (inl (lit≤ tt)) ∙ field_found 8 32 place orig (omega arith)

headed_count : (place n : ℕ) (orig : List ℕ) → 64 ≤ length orig → slice 2 56 (headed place n orig) ≡ little_bytes 2 n
headed_count place n orig l =
    let a = length_field 8 32 place orig (omega arith) in
    field_found 2 56 n (with_field 8 32 place orig) (omega arith)

headed_else : (m k place n : ℕ) (orig : List ℕ) → 64 ≤ length orig → k + m ≤ 56 → (k + m ≤ 32) ⊎ (40 ≤ k) → slice m k (headed place n orig) ≡ slice m k orig
headed_else m k place n orig l p o =
    let a = length_field 8 32 place orig (omega arith) in
    field_away m k 2 56 n (with_field 8 32 place orig) (omega arith) (inl p) ∙ field_away m k 8 32 place orig (omega arith) o

-- the part that keeps the original's bytes
stays_inside : (j : Frame) → Facts j → AllByRecursion (InFile (length j.orig)) (filter (stays (olds j)) (olds j))
stays_inside j f = all_filtered (InFile (length j.orig)) (stays (olds j)) (olds j) f.inside

-- the original with its new start is still long enough for a header
pub long_started : (j : Frame) → Facts j → 64 ≤ length (with_entry j.entry j.orig)
long_started j f = let e = length_started j.entry j.orig f.long in let l = f.long in omega (arith, e, l)

-- the original with its new header has as many bytes as before
pub length_header : (j : Frame) → Facts j → length (with_header j) ≡ length j.orig
length_header j f = length_headed (table_at j) (count j) (with_entry j.entry j.orig) (long_started j f) ∙ length_started j.entry j.orig f.long

-- the part that keeps the original's bytes is as long as the original
pub length_original : (j : Frame) → Facts j → length (original_part j) ≡ length j.orig
length_original j f =
    length_placed_all j.writes j.orig (filter (stays (olds j)) (olds j)) (with_header j) (length_header j f) (stays_inside j f)

away_past : (n k : ℕ) (ss : List Segment) → k + n ≤ 64 → AllByRecursion (λ s. 64 ≤ s.offset) ss → AllByRecursion (AwayFrom n k) ss
away_past n k [] l p = tt
away_past n k (s ∷ ss) l p = (inl (let q = p.0 in omega arith), away_past n k ss l p.1)

header_kept : (n k : ℕ) (j : Frame) → Facts j → k + n ≤ 64 → slice n k (original_part j) ≡ slice n k (with_header j)
header_kept n k j f l =
    away n k j.writes j.orig (filter (stays (olds j)) (olds j)) (with_header j) (length_header j f) (stays_inside j f)
    (away_past n k (filter (stays (olds j)) (olds j)) l (stays_past (olds j) (olds j)))

-- its header tells where the new table begins
pub place_kept : (j : Frame) → Facts j → slice 8 32 (original_part j) ≡ little_bytes 8 (table_at j)
place_kept j f = header_kept 8 32 j f (lit≤ tt) ∙ headed_place (table_at j) (count j) (with_entry j.entry j.orig) (long_started j f)

-- its header tells how many entries the new table has
pub count_kept : (j : Frame) → Facts j → slice 2 56 (original_part j) ≡ little_bytes 2 (count j)
count_kept j f = header_kept 2 56 j f (lit≤ tt) ∙ headed_count (table_at j) (count j) (with_entry j.entry j.orig) (long_started j f)

-- its first 32 bytes are those of the original with the new start
pub started_kept : (m k : ℕ) (j : Frame) → Facts j → k + m ≤ 32 → slice m k (original_part j) ≡ slice m k (with_entry j.entry j.orig)
started_kept m k j f l =
    header_kept m k j f (omega arith) ∙ headed_else m k (table_at j) (count j) (with_entry j.entry j.orig) (long_started j f) (omega arith) (inl l)

-- its header's bytes but for the start, the table's place and the count are the original's
pub else_kept : (m k : ℕ) (j : Frame) → Facts j → k + m ≤ 56 → (k + m ≤ 24) ⊎ (40 ≤ k) → slice m k (original_part j) ≡ slice m k j.orig
else_kept m k j f l o =
    header_kept m k j f (omega arith) ∙ headed_else m k (table_at j) (count j) (with_entry j.entry j.orig) (long_started j f) l (no_place o)
    ∙ started_else m k j.entry j.orig f.long (no_entry o)
  where
    no_place : (k + m ≤ 24) ⊎ (40 ≤ k) → (k + m ≤ 32) ⊎ (40 ≤ k)
    no_place (inl a) = inl (omega (arith, a))
    no_place (inr a) = inr a

    no_entry : (k + m ≤ 24) ⊎ (40 ≤ k) → (k + m ≤ 24) ⊎ (32 ≤ k)
    no_entry (inl a) = inl a
    no_entry (inr a) = inr (omega (arith, a))

-- segments that aren't moved are found where they were
empty_found : (n at v : ℕ) (ws : List BytesAt) (xs ys : List ℕ) → n ≡ 0 → slice n at xs ≡ rewritten ws v (slice n at ys)
empty_found n at v ws xs ys e = subst (λ (m : ℕ). slice m at xs ≡ rewritten ws v (slice m at ys)) (sym e) refl

-- each segment that isn't moved has its written bytes at its old place in it
pub kept_found : (j : Frame) → Facts j → AllByRecursion (λ s. is_moved (olds j) s ≡ false → slice s.filesz s.offset (original_part j) ≡ content j.writes j.orig s) (olds j)
kept_found j f =
    let st = filter (stays (olds j)) (olds j) in
    let P : Segment → Type 0 = λ s. slice s.filesz s.offset (original_part j) ≡ content j.writes j.orig s in
    all_map (λ s. stays (olds j) s ≡ true → P s) (λ s. is_moved (olds j) s ≡ false → P s) (olds j) (λ s g m. found s g m)
    (all_passed P (stays (olds j)) (olds j)
    (contents_found j.writes j.orig st (with_header j) (length_header j f) (stays_inside j f)
    (stays_apart (olds j) (olds j) 0 f.ascends (λ s m l. (not_moved (olds j) s m l).1))))
  where
    is_kept : (s : Segment) → is_moved (olds j) s ≡ false → 0 < s.filesz → stays (olds j) s ≡ true
    is_kept s m l = grind (arith, nat_tests)

    found : (s : Segment) → (stays (olds j) s ≡ true → slice s.filesz s.offset (original_part j) ≡ content j.writes j.orig s) → is_moved (olds j) s ≡ false → slice s.filesz s.offset (original_part j) ≡ content j.writes j.orig s
    found s g m = elim (cases_lt 0 s.filesz) [
      | inl l ↦ g (is_kept s m l)
      | inr l ↦ empty_found s.filesz s.offset s.vaddr j.writes (original_part j) j.orig (omega arith)
    ]

-- the parts' places
length_one : (v n : ℕ) (c : List ℕ) → length c ≡ n → length (padded (replicate (v % 4096) 0 ++ c)) ≡ up (v % 4096 + n)
length_one v n c e =
    length_padded (replicate (v % 4096) 0 ++ c) ∙ ap up (length-append (replicate (v % 4096) 0) c ∙ (λ i. length-replicate {A = ℕ} (v % 4096) 0 i + e i))

-- a moved segment takes its bytes and those in front of them on their page, filled up to whole pages
pub length_moved_one : (ws : List BytesAt) (orig : List ℕ) (s : Segment) → InFile (length orig) s → length (padded (replicate (s.vaddr % 4096) 0 ++ content ws orig s)) ≡ up (s.vaddr % 4096 + s.filesz)
length_moved_one ws orig s i = length_one s.vaddr s.filesz (content ws orig s) (length_content ws orig s i)

one_fits : (v f m : ℕ) → f ≤ m → 0 < m → up (v % 4096 + f) + 4096 * (v / 4096) ≤ 4096 * ((v + m - 1) / 4096 + 1)
one_fits v f m l p = omega arith

moved_step : (len page rest lim : ℕ) (s : Segment) (a b : List ℕ) (c : Bool) → page ≤ first_page s → IsPlaced 0x20000 len s → length a ≡ up (s.vaddr % 4096 + s.filesz) → length b + 4096 * (last_page s + 1) ≤ lim → length (cond c (a ++ b) b) + 4096 * page ≤ lim
moved_step len page rest lim s a b true p i e r =
    let o = one_fits s.vaddr s.filesz s.memsz i.sizes i.nonempty in omega (arith, length-append a b)
moved_step len page rest lim s a b false p i e r = let o = page_order s i.nonempty in omega arith

-- segments that ascend from a page on take, moved, no more bytes than there are addresses from it to 0x7fff0000
pub moved_bound : (ws : List BytesAt) (orig : List ℕ) (all ss : List Segment) (page : ℕ) → page ≤ 0x7fff0 → Ascends page ss → AllByRecursion (IsPlaced 0x20000 (length orig)) ss → length (moved_bytes ws orig all ss) + 4096 * page ≤ 0x7fff0000
moved_bound ws orig all [] page l a i = omega arith
moved_bound ws orig all (s ∷ ss) page l a i =
    let q = i.0 in
    let hi = q.high in let so = q.nonempty in
    let r = moved_bound ws orig all ss (last_page s + 1) (omega arith) a.2 i.1 in
    moved_step (length orig) page 0 0x7fff0000 s (padded (replicate (s.vaddr % 4096) 0 ++ content ws orig s)) (moved_bytes ws orig all ss) (is_moved all s) a.0 i.0
    (length_moved_one ws orig s q.in_file) r

-- the table begins at most 0x7fff0000 bytes behind the original, filled to whole pages
pub table_bound : (j : Frame) → Facts j → table_at j ≤ up (length j.orig) + 0x7fff0000
table_bound j f = let r = moved_bound j.writes j.orig (olds j) (olds j) 0 (lit≤ tt) f.ascends f.placed in omega arith

-- entries of a file fit their fields
number_bound : (n i : ℕ) (xs : List ℕ) → ((k : ℕ) → slice_index xs k < 256) → little_from i n xs < 256 ^ n
number_bound zero i xs h = lit< tt
number_bound (suc n) i xs h =
    let r = number_bound n (suc i) xs h in let b = h i in let e = pow-suc 256 n in omega arith

-- a field of n bytes is less than 256 to the power of n
pub field_bound : (n at : ℕ) (xs : List ℕ) → ((k : ℕ) → slice_index xs k < 256) → field n at xs < 256 ^ n
field_bound n at xs h = number_bound n 0 (drop at xs) (λ k. subst (λ (z : ℕ). z < 256) (sym (get_or-drop at xs k 0)) (h (at + k)))

fits_at : (at : ℕ) (xs : List ℕ) → ((k : ℕ) → slice_index xs k < 256) → Fits (segment_at xs at)
unfolding segment_at
fits_at at xs h = record {
  kind = field_bound 4 at xs h;
  flags = field_bound 4 (at + 4) xs h;
  offset = field_bound 8 (at + 8) xs h;
  vaddr = field_bound 8 (at + 16) xs h;
  paddr = field_bound 8 (at + 24) xs h;
  filesz = field_bound 8 (at + 32) xs h;
  memsz = field_bound 8 (at + 40) xs h;
  align = field_bound 8 (at + 48) xs h;
}

-- entries that are read from bytes fit their fields
pub fits_from : (n at : ℕ) (xs : List ℕ) → ((k : ℕ) → slice_index xs k < 256) → AllByRecursion Fits (segments_from xs at n)
fits_from zero at xs h = tt
fits_from (suc n) at xs h = (fits_at at xs h, fits_from n (at + 56) xs h)
