-- The written file breaks no rule of a file, and its header tells the start.
use Rattle.std.proofs.Common.{◌≡◌, ℕ, ◌+◌, ◌*◌, ◌%◌, ◌^◌, ◌<◌, ◌≤◌, ◌==◌, ◌⊎◌, inl, inr, not, ◌&&◌, ◌||◌, cond, true, false, Bool, unwrap_or, nat_lt, nat_le, List, [], ◌∷◌, length, map, filter, slice_index, Option, Some, None, refl, sym, ap, ◌∙◌, subst, arith, lit<, lit≤, eqb-true}
use Rattle.std.specs.List.{AllByRecursion, position}
use Rattle.std.proofs.lemmas.Bool.{and_parts, cases_Bool, cond-true, cond-false, le-ltb, and_right}
use Rattle.std.proofs.lemmas.Bool.Decides.{nat_tests}
use Rattle.byteorder.specs.Endian.{little_number}
use Rattle.pun_base.specs.Field.{field}
use Rattle.elf_read.specs.declared.segment.Segment.{Segment}
use Rattle.elf_read.specs.Entries.{segments, is_load, loads, table_place, table_count, entry_of}
use Rattle.elf_read.specs.Refusals.{has_magic, header_rules, header_refusal, is_dynamic, is_outside, is_oversized, is_misaligned, is_high, is_low, first_page, last_page, is_behind, first_unordered, entry_refusal, refusal}
use Rattle.elf_read.specs.Accepted.{IsPlaced, Ascends}
use Rattle.elf_read.specs.Writing.{load_entry}
use Rattle.elf_read.proofs.AcceptedFiles.{or_none, NoneBreaks, none_breaks, position-none, no_entry, both_none, page_after, no_rule, none_broken}
use Rattle.elf_emit.specs.Job.{Frame}
use Rattle.elf_emit.specs.Frames.{slice, olds, others, is_other, count, renewed, moved_at, table_at, private_at, private_len, pages_at, part_load, with_entry, with_table, new_loads, in_order, entries, layout}
use Rattle.elf_emit.specs.FrameLaws.{IsPart, IsFrame, FrameLoads}
use Rattle.elf_emit.proofs.StayingSegments.{all_map, all_both, all_filtered}
use Rattle.elf_emit.proofs.OriginalFacts.{Facts, facts_of, length_original, started_kept, else_kept, field_found}
use Rattle.elf_emit.proofs.WrittenTable.{layout_slice, field_of_bytes, field_back, place_back, count_back, reads_back, all_order, all_append, all_mapped, renewed_all}
use Rattle.elf_emit.proofs.DisjointLoads.{loads_apart, ascends_order}
use Rattle.elf_emit.proofs.GroupPages.{slice_at}
use Rattle.elf_emit.proofs.LoadedImage.{loads_as, loads_back, all_loads}
use Rattle.elf_emit.proofs.PagesOfLayout.{table_whole, length_layout}

-- the header's other bytes are the original's
same_slice : (m k : ℕ) (j : Frame) → Facts j → k + m ≤ 56 → (k + m ≤ 24) ⊎ (40 ≤ k) → slice m k (layout j) ≡ slice m k j.orig
same_slice m k j f l o =
    let n = length_original j f in let g = f.long in
    layout_slice m k j (omega arith) ∙ else_kept m k j f l o

same_byte : (k : ℕ) (j : Frame) → Facts j → k + 1 ≤ 24 → slice_index (layout j) k ≡ slice_index j.orig k
same_byte k j f l =
    let e : k + 0 ≡ k = omega arith in
    ap (λ (x : ℕ). slice_index (layout j) x) (sym e)
    ∙ sym (slice_at 1 k 0 (layout j) (lit< tt))
    ∙ ap (λ (z : List ℕ). slice_index z 0) (same_slice 1 k j f (omega arith) (inl l))
    ∙ slice_at 1 k 0 j.orig (lit< tt)
    ∙ ap (λ (x : ℕ). slice_index j.orig x) e

same_field : (m k : ℕ) (j : Frame) → Facts j → k + m ≤ 56 → (k + m ≤ 24) ⊎ (40 ≤ k) → field m k (layout j) ≡ field m k j.orig
same_field m k j f l o =
    field_of_bytes m k (layout j) ∙ ap (λ (z : List ℕ). little_number m z) (same_slice m k j f l o) ∙ sym (field_of_bytes m k j.orig)

same_magic : (j : Frame) → Facts j → has_magic (layout j) ≡ has_magic j.orig
same_magic j f =
    let b0 = same_byte 0 j f (lit≤ tt) in let b1 = same_byte 1 j f (lit≤ tt) in
    let b2 = same_byte 2 j f (lit≤ tt) in let b3 = same_byte 3 j f (lit≤ tt) in
    λ i. (b0 i == 0x7f) && (b1 i == 0x45) && (b2 i == 0x4c) && (b3 i == 0x46)

header_accepted : (j : Frame) → Facts j → IsFrame j → header_refusal j.orig ≡ None → header_refusal (layout j) ≡ None
unfolding header_refusal
header_accepted j f h q =
    let r = no_rule (header_rules j.orig) q in
    let n : length (layout j) ≡ pages_at j + 4096 * j.files = length_layout j h f in let g = f.long in
    let p = place_back j f h in let c = count_back j f h in
    let fits : table_place (layout j) + 56 * table_count (layout j) ≤ length (layout j) = omega arith in
    none_broken (header_rules (layout j)) (
      le-ltb (length (layout j)) 64 (omega arith),
      (
        ap not (same_magic j f) ∙ r.1.0,
        (
          ap (λ (x : ℕ). not (x == 2)) (same_byte 4 j f (lit≤ tt)) ∙ r.1.1.0,
          (
            ap (λ (x : ℕ). not (x == 1)) (same_byte 5 j f (lit≤ tt)) ∙ r.1.1.1.0,
            (
              ap (λ (x : ℕ). not (x == 2)) (same_field 2 16 j f (lit≤ tt) (inl (lit≤ tt))) ∙ r.1.1.1.1.0,
              (
                ap (λ (x : ℕ). not (x == 62)) (same_field 2 18 j f (lit≤ tt) (inl (lit≤ tt))) ∙ r.1.1.1.1.1.0,
                (
                  ap (λ (x : ℕ). not (x == 56)) (same_field 2 54 j f (lit≤ tt) (inr (lit≤ tt))) ∙ r.1.1.1.1.1.1.0,
                  (
                    le-ltb (length (layout j)) (table_place (layout j) + 56 * table_count (layout j)) fits,
                    tt,
                  ),
                ),
              ),
            ),
          ),
        ),
      ),
    )

-- rules of entries
not_dynamic : (low len : ℕ) (ss : List Segment) → entry_refusal low len ss ≡ None → NoneBreaks is_dynamic ss
unfolding entry_refusal
not_dynamic low len ss h = none_breaks is_dynamic ss (no_entry (position is_dynamic ss) _ _ h).0

-- an entry that breaks no rule of its own
record Keeps (low len : ℕ) (s : Segment) : Type 0 where
  dynamic : is_dynamic s ≡ false
  outside : is_outside len s ≡ false
  oversized : is_oversized s ≡ false
  misaligned : is_misaligned s ≡ false
  high : is_high s ≡ false
  low_one : is_low low s ≡ false

none_refused : (low len : ℕ) (ss : List Segment) → AllByRecursion (Keeps low len) ss → first_unordered 0 None ss ≡ None → entry_refusal low len ss ≡ None
unfolding entry_refusal
none_refused low len ss h u =
    let a = position-none is_dynamic ss (all_map (Keeps low len) (λ s. is_dynamic s ≡ false) ss (λ s k. k.dynamic) h) in
    let b = position-none (is_outside len) ss (all_map (Keeps low len) (λ s. is_outside len s ≡ false) ss (λ s k. k.outside) h) in
    let c = position-none is_oversized ss (all_map (Keeps low len) (λ s. is_oversized s ≡ false) ss (λ s k. k.oversized) h) in
    let d = position-none is_misaligned ss (all_map (Keeps low len) (λ s. is_misaligned s ≡ false) ss (λ s k. k.misaligned) h) in
    let e = position-none is_high ss (all_map (Keeps low len) (λ s. is_high s ≡ false) ss (λ s k. k.high) h) in
    let f = position-none (is_low low) ss (all_map (Keeps low len) (λ s. is_low low s ≡ false) ss (λ s k. k.low_one) h) in
    rw (a, b, c, d, e, f, u) refl

-- an entry that isn't PT_LOAD
false_and : (a b : Bool) → a ≡ false → a && b ≡ false
false_and true b e = cc
false_and false b e = refl

not_other : (b : Bool) → not b ≡ true → b ≡ false
not_other true h = cc
not_other false h = refl

other_keeps : (low len : ℕ) (s : Segment) → (s.kind == 1) ≡ false → is_dynamic s ≡ false → Keeps low len s
other_keeps low len s k d = record {
  dynamic = d;
  outside = false_and (s.kind == 1) _ k;
  oversized = false_and (s.kind == 1) _ k;
  misaligned = false_and (is_load s) _ (false_and (s.kind == 1) _ k);
  high = false_and (is_load s) _ (false_and (s.kind == 1) _ k);
  low_one = false_and (is_load s) _ (false_and (s.kind == 1) _ k);
}

tabled_keeps : (low len at size : ℕ) (s : Segment) → (s.kind == 1) ≡ false → is_dynamic s ≡ false → Keeps low len (with_table at size s)
tabled_keeps low len at size s k d = step (s.kind == 6)
  where
    step : (b : Bool) → Keeps low len (cond b (record s { offset = at; vaddr = 0x10000; paddr = 0x10000; filesz = size; memsz = size }) s)
    step true = other_keeps low len (record s { offset = at; vaddr = 0x10000; paddr = 0x10000; filesz = size; memsz = size }) k d
    step false = other_keeps low len s k d

others_other : (ss : List Segment) → AllByRecursion (λ s. (s.kind == 1) ≡ false) (filter is_other ss)
others_other [] = tt
others_other (s ∷ ss) = step (is_other s) refl (others_other ss)
  where
    step : (b : Bool) → is_other s ≡ b → AllByRecursion (λ t. (t.kind == 1) ≡ false) (filter is_other ss) → AllByRecursion (λ t. (t.kind == 1) ≡ false) (cond b (s ∷ filter is_other ss) (filter is_other ss))
    step true e r = (not_other (s.kind == 1) e, r)
    step false e r = r

others_keep : (low len at size : ℕ) (ss : List Segment) → NoneBreaks is_dynamic ss → AllByRecursion (Keeps low len) (map (with_table at size) (filter is_other ss))
others_keep low len at size ss d =
    all_mapped (Keeps low len) (with_table at size) (filter is_other ss)
    (all_map (λ s. ((s.kind == 1) ≡ false) × (is_dynamic s ≡ false)) (λ s. Keeps low len (with_table at size s)) (filter is_other ss) (λ s k. tabled_keeps low len at size s k.0 k.1)
    (all_both (λ s. (s.kind == 1) ≡ false) (λ s. is_dynamic s ≡ false) (filter is_other ss) (others_other ss) (all_filtered (λ s. is_dynamic s ≡ false) is_other ss d)))

-- a PT_LOAD
load_kind : (s : Segment) → is_load s ≡ true → s.kind ≡ 1
load_kind s l = eqb-true s.kind 1 (and_parts (s.kind == 1) (nat_lt 0 s.memsz) l).0

static : (n : ℕ) → n ≡ 1 → ((n == 2) || (n == 3)) ≡ false
static n e = subst (λ (k : ℕ). ((k == 2) || (k == 3)) ≡ false) (sym e) refl

same_mod : (a b : ℕ) → a ≡ b → not (a == b) ≡ false
same_mod a b e = grind (arith, nat_tests)

load_keeps : (low len : ℕ) (s : Segment) → is_load s ≡ true → IsPlaced low len s → Keeps low len s
load_keeps low len s l i = record {
  dynamic = static s.kind (load_kind s l);
  outside = and_right (s.kind == 1) _ (le-ltb len (s.offset + s.filesz) i.in_file);
  oversized = and_right (s.kind == 1) _ (le-ltb s.memsz s.filesz i.sizes);
  misaligned = and_right (is_load s) _ (same_mod (s.offset % 4096) (s.vaddr % 4096) i.aligned);
  high = and_right (is_load s) _ (le-ltb 0x7fff0000 (s.vaddr + s.memsz) i.high);
  low_one = and_right (is_load s) _ (le-ltb s.vaddr low i.low);
}

-- the places of the new loads
lower : (len more : ℕ) (s : Segment) → len ≤ more → IsPlaced 0x20000 len s → IsPlaced 0x10000 more s
lower len more s l i = record { nonempty = i.nonempty; in_file = (let q = i.in_file in omega arith); sizes = i.sizes; aligned = i.aligned; high = i.high; low = (let q = i.low in omega arith) }

replaced : (len more to : ℕ) (s : Segment) → IsPlaced 0x20000 len s → to % 4096 ≡ s.vaddr % 4096 → to + s.filesz ≤ more → IsPlaced 0x10000 more (record s { offset = to })
replaced len more to s i w l = record { nonempty = i.nonempty; in_file = l; sizes = i.sizes; aligned = w; high = i.high; low = (let q = i.low in omega arith) }

new_placed : (len flags offset vaddr size : ℕ) → 0 < size → offset + size ≤ len → offset % 4096 ≡ 0 → vaddr % 4096 ≡ 0 → 0x10000 ≤ vaddr → vaddr + size ≤ 0x7fff0000 → IsPlaced 0x10000 len (load_entry flags offset vaddr size)
new_placed len flags offset vaddr size a b c d e f = record { nonempty = a; in_file = b; sizes = omega arith; aligned = c ∙ sym d; high = f; low = e }

all_placed : (j : Frame) → Facts j → IsFrame j → AllByRecursion (IsPlaced 0x10000 (length (layout j))) (new_loads j)
all_placed j f h =
    let n : length (layout j) ≡ pages_at j + 4096 * j.files = length_layout j h f in let w = table_whole j f in let few = f.few in let some = h.private_some in
    let whole = h.private_whole in let w0 = whole.0 in let w1 = whole.1 in let low = h.private_low in let high = h.private_high in (
      new_placed (length (layout j)) 4 (table_at j) 0x10000 (56 * count j) (omega arith) (omega arith) w refl (lit≤ tt) (omega arith),
      (
        new_placed (length (layout j)) 6 (private_at j) j.private_lo (private_len j) (omega arith) (omega arith) (omega arith) w0 (omega arith) (omega arith),
        all_append (IsPlaced 0x10000 (length (layout j))) (map (part_load (pages_at j)) j.parts) (renewed (olds j) (moved_at j) (olds j))
            (all_mapped (IsPlaced 0x10000 (length (layout j))) (part_load (pages_at j)) j.parts
            (all_map (IsPart j.private_lo j.private_hi j.files) (λ r. IsPlaced 0x10000 (length (layout j)) (part_load (pages_at j) r)) j.parts
            (λ r k. let a = k.low in let b = k.high in let c = k.some in let d = k.shown in let q : pages_at j % 4096 ≡ 0 = omega arith in
            new_placed (length (layout j)) r.perms (pages_at j + 4096 * r.first) r.addr (4096 * r.count) (omega arith) (run_inside (pages_at j) r.first r.count j.files (length (layout j)) d n) (omega arith) k.whole (omega arith) b)
            h.parts))
            (renewed_all (IsPlaced 0x20000 (length j.orig)) (IsPlaced 0x10000 (length (layout j))) j.writes j.orig (olds j) (olds j) (moved_at j) (length (layout j)) (omega arith) (omega arith) f.inside f.placed
            (λ s k. lower (length j.orig) (length (layout j)) s (omega arith) k) (λ s to k a b. replaced (length j.orig) (length (layout j)) to s k a b)),
      ),
    )
  where
    run_inside : (at first count2 files len : ℕ) → first + count2 ≤ files → len ≡ at + 4096 * files → at + 4096 * first + 4096 * count2 ≤ len
    run_inside at first count2 files len a b = omega arith

-- in order
behind_none : (before : Option Segment) (s : Segment) → page_after before ≤ first_page s → is_behind before s ≡ false
behind_none None s l = refl
behind_none (Some b) s l = later (first_page s) (last_page b) (omega arith)
  where
    later : (x y : ℕ) → y < x → nat_le x y ≡ false
    later x y m = grind (arith, nat_tests)

ordered : (i : ℕ) (before : Option Segment) (ss : List Segment) → Ascends (page_after before) (loads ss) → first_unordered i before ss ≡ None
ordered i before [] a = refl
ordered i before (s ∷ ss) a = elim (cases_Bool (is_load s)) [
  | inl t ↦
      let b : Ascends (page_after before) (s ∷ loads ss) = subst (λ z. Ascends (page_after before) z) (cond-true (is_load s) (s ∷ loads ss) (loads ss) t) a in
      cond-true (is_load s) _ _ t ∙ cond-false (is_behind before s) (Some i) _ (behind_none before s b.0) ∙ ordered (i + 1) (Some s) ss b.2
  | inr f ↦
      let b : Ascends (page_after before) (loads ss) = subst (λ z. Ascends (page_after before) z) (cond-false (is_load s) (s ∷ loads ss) (loads ss) f) a in
      cond-false (is_load s) _ _ f ∙ ordered (i + 1) before ss b
]

entries_accepted : (j : Frame) → Facts j → IsFrame j → entry_refusal 0x20000 (length j.orig) (segments j.orig) ≡ None → entry_refusal 0x10000 (length (layout j)) (entries j) ≡ None
entries_accepted j f h q =
    let placed = all_placed j f h in
    let up = ascends_order (new_loads j) (all_map (IsPlaced 0x10000 (length (layout j))) (λ s. 0 < s.memsz) (new_loads j) (λ s k. k.nonempty) placed) (loads_apart j h f) in
    let ls : loads (entries j) ≡ in_order (new_loads j) = ap (λ (z : List Segment). loads z) (sym (reads_back j f h)) ∙ loads_back j f h in
    none_refused 0x10000 (length (layout j)) (entries j)
    (all_append (Keeps 0x10000 (length (layout j))) (map (with_table (table_at j) (56 * count j)) (others j)) (in_order (new_loads j))
    (others_keep 0x10000 (length (layout j)) (table_at j) (56 * count j) (segments j.orig) (not_dynamic 0x20000 (length j.orig) (segments j.orig) q))
    (all_order (Keeps 0x10000 (length (layout j))) (new_loads j)
    (all_map (λ s. (is_load s ≡ true) × IsPlaced 0x10000 (length (layout j)) s) (Keeps 0x10000 (length (layout j))) (new_loads j) (λ s k. load_keeps 0x10000 (length (layout j)) s k.0 k.1)
    (all_both (λ s. is_load s ≡ true) (IsPlaced 0x10000 (length (layout j))) (new_loads j) (all_loads j h) placed))))
    (ordered 0 None (entries j) (subst (λ z. Ascends 0 z) (sym ls) up))

written_accepted : (j : Frame) → Facts j → IsFrame j → refusal 0x10000 (layout j) ≡ None
written_accepted j f h =
    let k = both_none (header_refusal j.orig) (entry_refusal 0x20000 (length j.orig) (segments j.orig)) h.accepted in
    or_none (header_refusal (layout j)) (entry_refusal 0x10000 (length (layout j)) (segments (layout j))) (header_accepted j f h k.0)
    (ap (λ (z : List Segment). entry_refusal 0x10000 (length (layout j)) z) (reads_back j f h) ∙ entries_accepted j f h k.1)

-- the header tells where the program starts
started : (entry : Option ℕ) (orig file : List ℕ) → 64 ≤ length orig → unwrap_or entry 0 < 2 ^ 64 → slice 8 24 file ≡ slice 8 24 (with_entry entry orig)
    → field 8 24 file ≡ unwrap_or entry (field 8 24 orig)
started None orig file l b e = field_of_bytes 8 24 file ∙ ap (λ (z : List ℕ). little_number 8 z) e ∙ sym (field_of_bytes 8 24 orig)
started (Some x) orig file l b e = field_back 8 24 x file (omega (arith, b)) (e ∙ field_found 8 24 x orig (omega (arith, l)))

new_entry : (j : Frame) → IsFrame j → Facts j → entry_of (layout j) ≡ unwrap_or j.entry (entry_of j.orig)
unfolding entry_of
new_entry j h f =
    let n = length_original j f in let g = f.long in
    started j.entry j.orig (layout j) f.long h.starts (layout_slice 8 24 j (omega (arith, n, g)) ∙ started_kept 8 24 j f (lit≤ tt))

-- a written file that meets the conditions, with at most 1,024 entries, loads its parts, starts where it is to, and is accepted
pub frame_loads : FrameLoads
frame_loads j h few =
    let f = facts_of j h few in
    record { image = λ a. loads_as j f h a; entry = new_entry j h f; accepted = written_accepted j f h }
