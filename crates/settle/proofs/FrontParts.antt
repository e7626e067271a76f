-- The front of a settled file: its length, and what its header and its first entry tell.
use Rattle.std.proofs.Common.{◌≡◌, ℕ, zero, suc, ◌*◌, ◌==◌, ◌%◌, [], ◌&&◌, Bool, true, false, cond, nat_le, nat_lt, take, ◌+◌, ◌-◌, ◌^◌, ◌<◌, ◌≤◌, List, ◌++◌, length, drop, map, replicate, refl, ap, ◌∙◌, arith, append_assoc}
use Rattle.std.proofs.lemmas.List.{length-append, length-drop, length-map, length-replicate, length-take-le}
use Rattle.byteorder.specs.Numbers.{little_number-reads_back}
use Rattle.pun_base.specs.Field.{field, with_field}
use Rattle.elf_read.specs.declared.segment.Segment.{Segment}
use Rattle.elf_read.specs.Entries.{table_place, table_count, entry_of, segments, spelled, table}
use Rattle.elf_read.specs.Plain.{header}
use Rattle.elf_read.specs.Writing.{header_of, filled_to}
use Rattle.elf_read.proofs.FileTables.{field_past, length-table}
use Rattle.std.proofs.lemmas.Bool.{and_parts, leb-true}
use Rattle.elf_emit.proofs.OriginalFacts.{length_field}
use Rattle.settle.specs.Stub.{stub_code}
use Rattle.settle.specs.Lengths.{used_len, front_len}
use Rattle.settle.specs.Sections.{shows, shown_at, sections_count, sections_place, moved_section, moved_sections, section_tail, section_table, with_sections, front_header}
use Rattle.settle.specs.Settled.{moved, front_entry, settled_table, stub_at, front_parts, front_with, own_table, settled}

-- a header has 64 bytes
pub length-header_of : (start count : ℕ) → length (header_of start count) ≡ 64
unfolding header_of header
length-header_of start count = refl

pub length-front_header : (start n : ℕ) (file : List ℕ) → length (front_header start n file) ≡ 64
unfolding header_of header
length-front_header start n file = step (shows n file)
  where
    step : (t : Bool) → length (cond t (with_sections n file (header_of start (n + 1))) (header_of start (n + 1))) ≡ 64
    step true = refl
    step false = refl

-- its table stands right behind it
pub place-front_header : (start n : ℕ) (file rest : List ℕ) → table_place (front_header start n file ++ rest) ≡ 64
unfolding header_of header table_place
place-front_header start n file rest = step (shows n file)
  where
    step : (t : Bool) → table_place (cond t (with_sections n file (header_of start (n + 1))) (header_of start (n + 1)) ++ rest) ≡ 64
    step true = refl
    step false = refl

-- it tells the number of entries
pub count-front_header : (start n : ℕ) (file rest : List ℕ) → n + 1 < 2 ^ 16 → table_count (front_header start n file ++ rest) ≡ n + 1
unfolding header_of header table_count
count-front_header start n file rest l = step (shows n file)
  where
    step : (t : Bool) → table_count (cond t (with_sections n file (header_of start (n + 1))) (header_of start (n + 1)) ++ rest) ≡ n + 1
    step true = little_number-reads_back 2 (n + 1) (drop 58 (with_sections n file (header_of start (n + 1)) ++ rest)) l
    step false = little_number-reads_back 2 (n + 1) (drop 58 (header_of start (n + 1) ++ rest)) l

-- it tells the start
pub entry-front_header : (start n : ℕ) (file rest : List ℕ) → start < 2 ^ 64 → entry_of (front_header start n file ++ rest) ≡ start
unfolding header_of header entry_of
entry-front_header start n file rest l = step (shows n file)
  where
    step : (t : Bool) → entry_of (cond t (with_sections n file (header_of start (n + 1))) (header_of start (n + 1)) ++ rest) ≡ start
    step true = little_number-reads_back 8 start (drop 32 (with_sections n file (header_of start (n + 1)) ++ rest)) l
    step false = little_number-reads_back 8 start (drop 32 (header_of start (n + 1) ++ rest)) l

-- the stub has 89 bytes
pub length-stub : (at phdr phnum entry : ℕ) → length (stub_code at phdr phnum entry) ≡ 89
unfolding stub_code
length-stub at phdr phnum entry = refl

-- the table has an entry more than the file's
pub length-settled_table : (b : ℕ) (ss : List Segment) → length (settled_table b ss) ≡ length ss + 1
length-settled_table b ss = let m = length-map ss (moved (front_len (length ss)) b) in omega arith

-- what is loaded of the front is as long as it is to be
pub length-front_parts : (b : ℕ) (file : List ℕ) (ss : List Segment) (phdr entry : ℕ) → length (front_parts b file ss phdr entry) ≡ used_len (length ss)
unfolding used_len
length-front_parts b file ss phdr entry =
    let at = stub_at b (length ss) in
    let h = front_header at (length ss) file in let t = table (settled_table b ss) in let s = stub_code at phdr (length ss) entry in
    let a = length-append h (t ++ s) in let c = length-append t s in
    let d = length-front_header at (length ss) file in let e = length-table (settled_table b ss) in let f = length-settled_table b ss in
    let g = length-stub at phdr (length ss) entry in
    omega arith

-- a section's header is as long as it was
length-moved_section : (p : ℕ) (s : List ℕ) → length s ≡ 64 → length (moved_section p s) ≡ 64
length-moved_section p s l = step (field 4 4 s == 0)
  where
    step : (t : Bool) → length (cond t s (with_field 8 24 ((field 8 24 s + p) % 2 ^ 64) s)) ≡ 64
    step true = l
    step false = length_field 8 24 ((field 8 24 s + p) % 2 ^ 64) s (omega (arith, l)) ∙ l

-- so are those of sections that lie in the file
length-moved_sections : (p : ℕ) (file : List ℕ) (at k : ℕ) → at + 64 * k ≤ length file → length (moved_sections p file at k) ≡ 64 * k
length-moved_sections p file at zero l = omega arith
length-moved_sections p file at (suc k) l =
    let s = take 64 (drop at file) in
    let n : length s ≡ 64 = length-take-le 64 (drop at file) (let d = length-drop at file in omega (arith, d, l)) in
    let a = length-append (moved_section p s) (moved_sections p file (at + 64) k) in
    let b = length-moved_section p s n in let c = length-moved_sections p file (at + 64) k (omega (arith, l)) in
    omega (arith, a, b, c)

-- they fit into the front
pub used_fits : (n : ℕ) → used_len n ≤ front_len n
unfolding front_len
used_fits n = omega arith

-- so does the section table behind them
tail_fits : (n : ℕ) (file : List ℕ) → used_len n + length (section_tail n file) ≤ front_len n
unfolding shows
tail_fits n file =
    step ((field 2 58 file == 64) && nat_lt 0 (sections_count file) && nat_le (sections_place file + 64 * sections_count file) (length file) && nat_le (shown_at n + 64 * sections_count file) (front_len n)) refl
  where
    step : (t : Bool) → ((field 2 58 file == 64) && nat_lt 0 (sections_count file) && nat_le (sections_place file + 64 * sections_count file) (length file) && nat_le (shown_at n + 64 * sections_count file) (front_len n)) ≡ t
        → used_len n + length (cond t (section_table n file) []) ≤ front_len n
    step false e = let u = used_fits n in omega (arith, u)
    step true e =
        let p = and_parts _ (nat_le (shown_at n + 64 * sections_count file) (front_len n)) e in
        let q = and_parts _ (nat_le (sections_place file + 64 * sections_count file) (length file)) p.0 in
        let room = leb-true (shown_at n + 64 * sections_count file) (front_len n) p.1 in
        let inside = leb-true (sections_place file + 64 * sections_count file) (length file) q.1 in
        let ms = moved_sections (front_len n) file (sections_place file) (sections_count file) in
        let a = length-append (replicate 7 0) ms in
        let c = length-moved_sections (front_len n) file (sections_place file) (sections_count file) inside in
        let d = length-replicate {A = ℕ} 7 0 in
        omega (arith, a, c, d, room)

-- bytes with zeros up to a place end there
filled_length : (at : ℕ) (xs : List ℕ) → length xs ≤ at → length (filled_to at xs) ≡ at
filled_length at xs l = let a = length-append xs (replicate (at - length xs) 0) in let c = length-replicate {A = ℕ} (at - length xs) 0 in omega arith

-- the front's length
pub length-front_with : (b : ℕ) (file : List ℕ) (ss : List Segment) (phdr entry : ℕ) → length (front_with b file ss phdr entry) ≡ front_len (length ss)
length-front_with b file ss phdr entry =
    let n = length ss in let x = front_parts b file ss phdr entry in
    let e = length-front_parts b file ss phdr entry in let a = length-append x (section_tail n file) in
    let u = tail_fits n file in
    filled_length (front_len n) (x ++ section_tail n file) (omega (arith, e, a, u))

-- what follows the table of a settled file
abbrev pub behind_table : ℕ → List ℕ → List Segment → ℕ → ℕ → List ℕ
behind_table b file ss phdr entry =
    stub_code (stub_at b (length ss)) phdr (length ss) entry
    ++ (section_tail (length ss) file
    ++ (replicate (front_len (length ss) - length (front_parts b file ss phdr entry ++ section_tail (length ss) file)) 0 ++ file))

abbrev pub after_table : ℕ → List ℕ → List ℕ
after_table b file = behind_table b file (segments file) (own_table b file) (b + entry_of file)

regrouped : (h t s q z f : List ℕ) → (((h ++ (t ++ s)) ++ q) ++ z) ++ f ≡ h ++ (t ++ (s ++ (q ++ (z ++ f))))
regrouped h t s q z f =
    append_assoc ((h ++ (t ++ s)) ++ q) z f ∙ append_assoc (h ++ (t ++ s)) q (z ++ f) ∙ append_assoc h (t ++ s) (q ++ (z ++ f))
    ∙ ap (λ (x : List ℕ). h ++ x) (append_assoc t s (q ++ (z ++ f)))

-- a front with a file behind it as its header, its table, and what follows
pub parts_with : (b : ℕ) (file : List ℕ) (ss : List Segment) (phdr entry : ℕ)
    → front_with b file ss phdr entry ++ file ≡ front_header (stub_at b (length ss)) (length ss) file ++ (table (settled_table b ss) ++ behind_table b file ss phdr entry)
parts_with b file ss phdr entry =
    let n = length ss in
    regrouped (front_header (stub_at b n) n file) (table (settled_table b ss)) (stub_code (stub_at b n) phdr n entry) (section_tail n file)
    (replicate (front_len n - length (front_parts b file ss phdr entry ++ section_tail n file)) 0) file

-- the settled file so
pub settled_parts : (b : ℕ) (file : List ℕ) → settled b file ≡ front_header (stub_at b (length (segments file))) (length (segments file)) file ++ (table (settled_table b (segments file)) ++ after_table b file)
settled_parts b file = parts_with b file (segments file) (own_table b file) (b + entry_of file)

-- the settled file tells how many entries it has
pub count-settled : (b : ℕ) (file : List ℕ) → length (segments file) + 1 < 2 ^ 16 → table_count (settled b file) ≡ length (segments file) + 1
count-settled b file l =
    ap (λ (z : List ℕ). table_count z) (settled_parts b file) ∙ count-front_header (stub_at b (length (segments file))) (length (segments file)) file _ l

-- and where they stand
pub place-settled : (b : ℕ) (file : List ℕ) → table_place (settled b file) ≡ 64
place-settled b file =
    ap (λ (z : List ℕ). table_place z) (settled_parts b file) ∙ place-front_header (stub_at b (length (segments file))) (length (segments file)) file _

-- an entry's address that nobody reads
paddr_back : (s : Segment) (rest : List ℕ) → s.paddr < 2 ^ 64 → field 8 24 (spelled s ++ rest) ≡ s.paddr
unfolding spelled
paddr_back s rest l = little_number-reads_back 8 s.paddr (drop 32 (spelled s ++ rest)) l

-- the settled file tells its base
pub base-settled : (b : ℕ) (file : List ℕ) → b < 2 ^ 64 → field 8 88 (settled b file) ≡ b
base-settled b file l =
    let ss = segments file in let n = length ss in
    let e = front_entry b n in
    let rest = table (map (moved (front_len n) b) ss) in
    ap (λ (z : List ℕ). field 8 88 z) (settled_parts b file)
    ∙ field_past 8 64 24 (front_header (stub_at b n) n file) (table (settled_table b ss) ++ after_table b file) (length-front_header (stub_at b n) n file)
    ∙ ap (λ (z : List ℕ). field 8 24 z) (append_assoc (spelled e) rest (after_table b file))
    ∙ paddr_back e (rest ++ after_table b file) l
