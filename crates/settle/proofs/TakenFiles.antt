-- A file that isn't refused can be settled, and what is written is accepted.
use Rattle.std.proofs.Common.{◌≡◌, ℕ, zero, suc, ◌+◌, ◌-◌, ◌*◌, ◌/◌, ◌%◌, ◌^◌, ◌<◌, ◌≤◌, ◌==◌, Bool, true, false, cond, ◌&&◌, ◌||◌, nat_le, nat_lt, List, [], ◌∷◌, ◌++◌, length, map, is_none, Option, Some, None, option_map, refl, sym, ap, ◌∙◌, subst, arith, eqb-true, true≢false, if◌then◌else◌}
use Rattle.std.specs.List.{AllByRecursion, find, list_any, position}
use Rattle.std.proofs.lemmas.Bool.{and_parts, cond-true, cond-false, leb-true, ltb-false, lt-ltb, le-ltb}
use Rattle.std.proofs.lemmas.List.{length-append}
use Rattle.elf_read.specs.declared.segment.Segment.{Segment}
use Rattle.elf_read.specs.declared.refusal.ElfError.{ElfError}
use Rattle.elf_read.specs.Entries.{Fits, segments_from, table_place, table_count, entry_of, segments, is_load, loads, table}
use Rattle.elf_read.specs.Code.{is_code, is_backed, is_exec, is_exec_in}
use Rattle.elf_read.specs.Plain.{header}
use Rattle.elf_read.specs.Writing.{header_of}
use Rattle.elf_read.specs.Refusals.{is_outside, is_high, last_page, entry_rules, first_told, entry_refusal, refusal}
use Rattle.elf_read.specs.Refusals.{header_refusal as header_refusal_of, or_later as or_else}
use Rattle.elf_read.specs.Accepted.{IsPlaced, Ascends}
use Rattle.elf_read.proofs.AcceptedFiles.{NoneBreaks, none_breaks, no_entry, is_accepted}
use Rattle.elf_read.proofs.FileTables.{length-table}
use Rattle.elf_emit.proofs.OriginalFacts.{fits_from}
use Rattle.elf_emit.proofs.StayingSegments.{all_filtered}
use Rattle.unpatch.proofs.OriginalSegments.{backed_at}
use Rattle.settle.specs.Lengths.{used_len, front_len}
use Rattle.settle.specs.Sections.{shows, with_sections, front_header}
use Rattle.settle.specs.Settled.{moved, front_entry, front_with, settled_table, has_bytes, loaded_at, own_table, stub_at, settled}
use Rattle.settle.specs.declared.error.SettleError.{SettleError}
use Rattle.settle.specs.declared.error.SettleError.TheVariants.{SegmentOutside, TableNotLoaded, EntryOutside}
use Rattle.settle.specs.Laws.{IsReadable, IsRoomy, IsTaken, UnrefusedIsTaken}
use Rattle.settle.specs.Refusals.{largest_align, settle_refusal, kind_refusal, table_rules, table_refusal, first_broken, header_refusal, or_later, entries_refusal, settled_refusal, places_refusal}
use Rattle.settle.proofs.FrontParts.{length-front_header, length-settled_table, length-front_with, behind_table, parts_with, place-front_header, count-front_header}
use Rattle.settle.proofs.MovedImages.{front_small, used_some, segments_with, segments-settled, loads-moved}

-- of two refusals neither holds
pub none_later : (o later : Option SettleError) → or_later o later ≡ None → (o ≡ None) × (later ≡ None)
none_later None later h = (refl, h)
none_later (Some e) later h = absurd cc

-- no rule of the header is broken
each_none : (rules : List (Bool × SettleError)) → first_broken rules ≡ None → AllByRecursion (λ r. r.0 ≡ false) rules
each_none [] h = tt
each_none (r ∷ rs) h = step r.0 refl h (λ g. each_none rs g)
  where
    step : (t : Bool) → r.0 ≡ t → cond t (Some r.1) (first_broken rs) ≡ None → (first_broken rs ≡ None → AllByRecursion (λ x. x.0 ≡ false) rs)
        → (r.0 ≡ false) × AllByRecursion (λ x. x.0 ≡ false) rs
    step true e g later = absurd cc
    step false e g later = (e, later g)

few_entries : (file : List ℕ) → header_refusal file ≡ None → table_count file ≤ 1023
unfolding table_refusal
few_entries file h = ltb-false 1023 (table_count file) (each_none (table_rules file) (none_later (kind_refusal file) (table_refusal file) h).1).1.0

pub map_none : {A B : Type 0} (f : A → B) (o : Option A) → option_map f o ≡ None → o ≡ None
map_none f None h = refl
map_none f (Some x) h = absurd cc

length-from : (n : ℕ) (bytes : List ℕ) (at : ℕ) → length (segments_from bytes at n) ≡ n
length-from zero bytes at = refl
length-from (suc n) bytes at = ap suc (length-from n bytes (at + 56))

-- a file that isn't refused has few entries
pub few_unrefused : (b : ℕ) (file : List ℕ) → settle_refusal b file ≡ None → length (segments file) ≤ 1023
few_unrefused b file h =
    let m = few_entries file (none_later (header_refusal file) _ h).0 in let n = length-from (table_count file) file (table_place file) in
    omega (arith, m, n)

-- the header of a written file breaks no rule
header_none : (start n : ℕ) (file rest : List ℕ) → n + 1 < 2 ^ 16 → 56 * (n + 1) ≤ length rest → header_refusal_of (front_header start n file ++ rest) ≡ None
unfolding header_refusal_of header_of header
header_none start n file rest l m =
    step (shows n file) (length-append (front_header start n file) rest) (length-front_header start n file) (place-front_header start n file rest) (count-front_header start n file rest l)
  where
    told : Bool → List ℕ
    told t = cond t (with_sections n file (header_of start (n + 1))) (header_of start (n + 1))

    step : (t : Bool) → length (told t ++ rest) ≡ length (told t) + length rest → length (told t) ≡ 64 → table_place (told t ++ rest) ≡ 64 → table_count (told t ++ rest) ≡ n + 1
        → header_refusal_of (told t ++ rest) ≡ None
    step true a d p q =
        let out = told true ++ rest in
        cond-false (nat_lt (length out) 64) _ _ (le-ltb (length out) 64 (omega (arith, a, d)))
        ∙ cond-false (nat_lt (length out) (table_place out + 56 * table_count out)) _ _ (le-ltb (length out) (table_place out + 56 * table_count out) (omega (arith, a, d, p, q, m)))
    step false a d p q =
        let out = told false ++ rest in
        cond-false (nat_lt (length out) 64) _ _ (le-ltb (length out) 64 (omega (arith, a, d)))
        ∙ cond-false (nat_lt (length out) (table_place out + 56 * table_count out)) _ _ (le-ltb (length out) (table_place out + 56 * table_count out) (omega (arith, a, d, p, q, m)))

-- the front keeps below the addresses' end
front_high : (b n : ℕ) → is_high (front_entry b n) ≡ false → b - front_len n + used_len n ≤ 0x7fff0000
front_high b n h =
    let t = nat_lt 0x7fff0000 (b - front_len n + used_len n) in
    ltb-false 0x7fff0000 (b - front_len n + used_len n) (sym (ap (λ z. z && t) (lt-ltb 0 (used_len n) (used_some n))) ∙ h)

pub each_kept : (rules : List (Option ℕ × (ℕ → ElfError))) → first_told rules ≡ None → AllByRecursion (λ r. r.0 ≡ None) rules
each_kept [] h = tt
each_kept (r ∷ rs) h = let k = no_entry r.0 r.1 (first_told rs) h in (k.0, each_kept rs k.1)

high_rule : (low len : ℕ) (ss : List Segment) → entry_refusal low len ss ≡ None → NoneBreaks is_high ss
unfolding entry_refusal
high_rule low len ss h = none_breaks is_high ss (each_kept (entry_rules low len ss) h).1.1.1.1.0

stub_low : (b n : ℕ) → b - front_len n + used_len n ≤ 0x7fff0000 → stub_at b n + 89 < 2 ^ 31
unfolding used_len
stub_low b n h = omega (arith, h)

-- a base of a front that is low has 32 bits
pub low_base : (b n : ℕ) → n ≤ 1023 → stub_at b n + 89 < 2 ^ 31 → 2 ^ 32 ≤ b → ⊥
unfolding front_len used_len
low_base b n l h k = omega (arith, l, h, k)

-- the page behind the front begins at the base, or above it
above_front : (b n : ℕ) → front_len n ≤ b → 0 % 4096 ≡ (b - front_len n) % 4096 → b ≤ (last_page (front_entry b n) + 1) * 4096
unfolding front_len
above_front b n l e = let u = used_some n in omega (arith, l, e, u)

-- what holds of entries that are loaded
all_in : {Q R : Segment → Type 0} (ss : List Segment) → ((s : Segment) → is_load s ≡ true → Q s → R s) → AllByRecursion Q ss → AllByRecursion R (loads ss)
all_in [] f h = tt
all_in {Q = Q} {R = R} (s ∷ ss) f h = step (is_load s) refl (all_in ss f h.1)
  where
    step : (t : Bool) → is_load s ≡ t → AllByRecursion R (loads ss) → AllByRecursion R (cond t (s ∷ loads ss) (loads ss))
    step true e r = (f s e h.0, r)
    step false e r = r

all_to : {Q R : Segment → Type 0} (ss : List Segment) → ((s : Segment) → Q s → R s) → AllByRecursion Q ss → AllByRecursion R ss
all_to [] f h = tt
all_to (s ∷ ss) f h = (f s h.0, all_to ss f h.1)

-- a loaded entry lies in the file
abbrev IsInside : ℕ → Segment → Type 0
IsInside len s = s.offset + s.filesz ≤ len

inside : (len : ℕ) (s : Segment) → is_load s ≡ true → is_outside len s ≡ false → IsInside len s
inside len s e h =
    let t = nat_lt len (s.offset + s.filesz) in
    ltb-false len (s.offset + s.filesz) (sym (ap (λ z. z && t) (and_parts (s.kind == 1) (nat_lt 0 s.memsz) e).0) ∙ h)

-- it is moved without a wrap, and ends among a program's addresses
pub record IsGood (p b : ℕ) (s : Segment) : Type 0 where
  pub roomy : IsRoomy p b s
  pub high : b + s.vaddr + s.memsz ≤ 0x7fff0000
  pub sizes : s.filesz ≤ s.memsz

all_good : (p b len out : ℕ) (qs : List Segment) (page : ℕ) → p < 2 ^ 32 → b < 2 ^ 33 → len < 2 ^ 63 → b ≤ page * 4096 → AllByRecursion Fits qs → AllByRecursion (IsInside len) qs
    → Ascends page (map (moved p b) qs) → AllByRecursion (IsPlaced 0x20000 out) (map (moved p b) qs) → AllByRecursion (IsGood p b) qs
all_good p b len out [] page lp lb ll l f i a h = tt
all_good p b len out (q ∷ qs) page lp lb ll l f i a h =
    let f0 = f.0.vaddr in let i0 = i.0 in let a0 = a.0 in let a1 = a.1 in let hi = h.0.high in
    let v : q.vaddr + b < 2 ^ 64 = omega (arith, lb, l, f0, a0) in
    let o : q.offset + p < 2 ^ 64 = omega (arith, lp, ll, i0) in
    let next : b ≤ (((q.vaddr + b) % 2 ^ 64 + q.memsz - 1) / 4096 + 1) * 4096 = omega (arith, l, a0, a1) in (
      record { roomy = record { offset = o; vaddr = v }; high = omega (arith, v, hi); sizes = h.0.sizes },
      all_good p b len out qs (last_page (moved p b q) + 1) lp lb ll next f.1 i.1 a.2 h.1,
    )

-- where the file's own table is loaded is low
table_here : (p b place size : ℕ) (s : Segment) → IsGood p b s → has_bytes place size s ≡ true → b + s.vaddr + (place - s.offset) < 2 ^ 31
table_here p b place size s g e =
    let q = and_parts (is_load s && nat_le s.offset place) (nat_le (place + size) (s.offset + s.filesz)) e in
    let hi = g.high in let z = g.sizes in
    let u = leb-true s.offset place (and_parts (is_load s) (nat_le s.offset place) q.0).1 in
    let w = leb-true (place + size) (s.offset + s.filesz) q.1 in
    omega (arith, hi, z, u, w)

-- what holds of the entries that are loaded, one by one

pub one_by_one : (p b : ℕ) (ss : List Segment) → AllByRecursion (IsGood p b) (loads ss) → AllByRecursion (λ s. is_load s ≡ true → IsGood p b s) ss
one_by_one p b [] h = tt
one_by_one p b (s ∷ ss) h = step (is_load s) refl h (λ g. one_by_one p b ss g)
  where
    step : (t : Bool) → is_load s ≡ t → AllByRecursion (IsGood p b) (cond t (s ∷ loads ss) (loads ss)) → (AllByRecursion (IsGood p b) (loads ss) → AllByRecursion (λ s. is_load s ≡ true → IsGood p b s) ss)
        → (is_load s ≡ true → IsGood p b s) × AllByRecursion (λ s. is_load s ≡ true → IsGood p b s) ss
    step true e g r = (λ q. g.0, r g.1)
    step false e g r = (λ q. absurd (true≢false (sym q ∙ e)), r g)

table_low : (p b place size : ℕ) (ss : List Segment) → AllByRecursion (λ s. is_load s ≡ true → IsGood p b s) ss → loaded_at b place (find (has_bytes place size) ss) < 2 ^ 31
table_low p b place size [] h = omega arith
table_low p b place size (s ∷ ss) h = found (has_bytes place size s) refl (table_low p b place size ss h.1)
  where
    found : (t : Bool) → has_bytes place size s ≡ t → loaded_at b place (find (has_bytes place size) ss) < 2 ^ 31 → loaded_at b place (cond t (Some s) (find (has_bytes place size) ss)) < 2 ^ 31
    found false e r = r
    found true e r =
        let q = and_parts (is_load s && nat_le s.offset place) (nat_le (place + size) (s.offset + s.filesz)) e in
        table_here p b place size s (h.0 (and_parts (is_load s) (nat_le s.offset place) q.0).0) e

-- so is an entry point that can be executed
entry_low : (p b e : ℕ) (ss : List Segment) → AllByRecursion (λ s. is_load s ≡ true → IsGood p b s) ss → list_any (is_exec_in e) ss ≡ true → b + e < 2 ^ 31
entry_low p b e [] h x = absurd cc
entry_low p b e (s ∷ ss) h x = step (is_exec_in e s) refl x (λ y. entry_low p b e ss h.1 y)
  where
    step : (t : Bool) → is_exec_in e s ≡ t → (t || list_any (is_exec_in e) ss) ≡ true → (list_any (is_exec_in e) ss ≡ true → b + e < 2 ^ 31) → b + e < 2 ^ 31
    step false q y r = r y
    step true q y r =
        let k = and_parts (is_load s && is_code s) (is_backed s e) q in
        let g = h.0 (and_parts (is_load s) (is_code s) k.0).0 in
        let w = backed_at s e k.1 in let w0 = w.0 in let w1 = w.1 in
        let hi = g.high in let z = g.sizes in
        omega (arith, hi, z, w0, w1)

-- a file with a front breaks the first rule that its entries break, whatever its stub tells
pub refused_with : (b : ℕ) (file : List ℕ) (ss : List Segment) (phdr entry : ℕ) → b < 2 ^ 64 → length ss + 1 < 2 ^ 16 → AllByRecursion Fits ss
    → refusal 0x20000 (front_with b file ss phdr entry ++ file) ≡ entry_refusal 0x20000 (length (front_with b file ss phdr entry ++ file)) (settled_table b ss)
refused_with b file ss phdr entry base few fits =
    let n = length ss in let out = front_with b file ss phdr entry ++ file in
    let rest = table (settled_table b ss) ++ behind_table b file ss phdr entry in
    let l1 = length-append (table (settled_table b ss)) (behind_table b file ss phdr entry) in let l2 = length-table (settled_table b ss) in let l3 = length-settled_table b ss in
    let hn : header_refusal_of out ≡ None =
    ap header_refusal_of (parts_with b file ss phdr entry) ∙ header_none (stub_at b n) n file rest few (omega (arith, l1, l2, l3)) in
    let segs = segments_with b file ss phdr entry base few fits in
    λ i. or_else (hn i) (entry_refusal 0x20000 (length out) (segs i))

-- its length
pub length_with : (b : ℕ) (file : List ℕ) (ss : List Segment) (phdr entry : ℕ) → length (front_with b file ss phdr entry ++ file) ≡ front_len (length ss) + length file
length_with b file ss phdr entry = let a = length-append (front_with b file ss phdr entry) file in let e = length-front_with b file ss phdr entry in omega arith

-- the settled file breaks no rule, if its entries break none
out_accepted : (b : ℕ) (file : List ℕ) → b < 2 ^ 64 → length (segments file) + 1 < 2 ^ 16 → AllByRecursion Fits (segments file)
    → entry_refusal 0x20000 (length (settled b file)) (settled_table b (segments file)) ≡ None → refusal 0x20000 (settled b file) ≡ None
out_accepted b file base few fits er = refused_with b file (segments file) (own_table b file) (b + entry_of file) base few fits ∙ er

-- an entry point that can be executed
entry_is_exec : (file : List ℕ) → places_refusal file ≡ None → is_exec file (entry_of file) ≡ true
entry_is_exec file h = step (is_none (find (has_bytes (table_place file) (56 * table_count file)) (segments file))) (is_exec file (entry_of file)) h
  where
    step : (t u : Bool) → cond t (Some TableNotLoaded) (cond u None (Some EntryOutside)) ≡ None → u ≡ true
    step true u g = absurd cc
    step false true g = refl
    step false false g = absurd cc

-- where the base lies
base_high : (b n : ℕ) → front_len n ≤ b → 0 % 4096 ≡ (b - front_len n) % 4096 → b - front_len n + used_len n ≤ 0x7fff0000 → b ≤ 0x7fff0000
unfolding front_len
base_high b n l e h = let u = used_some n in omega (arith, l, e, h, u)

base_multiple : (b align : ℕ) (e : SettleError) → (if b % align == 0 then None else Some e) ≡ None → b % align ≡ 0
base_multiple b align e h = step (b % align == 0) refl h
  where
    step : (t : Bool) → (b % align == 0) ≡ t → cond t None (Some e) ≡ None → b % align ≡ 0
    step true q g = eqb-true (b % align) 0 q
    step false q g = absurd cc

-- what the rules leave, and where the file's entries end
pub record IsKnown (b : ℕ) (file : List ℕ) : Type 0 where
  pub taken : IsTaken b file
  pub low : b ≤ 0x7fff0000
  pub multiple : b % largest_align (loads (segments file)) ≡ 0
  pub good : AllByRecursion (IsGood (front_len (length (segments file))) b) (loads (segments file))

pub known : (b : ℕ) (file : List ℕ) → IsReadable file → settle_refusal b file ≡ None → IsKnown b file
known b file readable h =
    let ss = segments file in let n = length ss in let p = front_len n in let out = settled b file in let e = front_entry b n in
    let r0 = none_later (header_refusal file) _ h in
    let r1 = none_later (entries_refusal b (length file) ss) _ r0.1 in
    let r2 = none_later (settled_refusal b file) (places_refusal file) r1.1 in
    let outside = none_later (option_map SegmentOutside (position (is_outside (length file)) ss)) _ r1.0 in
    let many = few_entries file r0.0 in
    let n_is = length-from (table_count file) file (table_place file) in
    let few : n + 1 < 2 ^ 16 = omega (arith, many, n_is) in
    let fits = fits_from (table_count file) (table_place file) file readable.bytes in
    let er = map_none _ _ r2.0 in
    let fh = front_high b n (high_rule 0x20000 (length out) (settled_table b ss) er).0 in
    let ps = front_small n few in
    let base : b < 2 ^ 64 = omega (arith, fh, ps) in
    let acc = out_accepted b file base few fits er in
    let all = is_accepted 0x20000 out acc in
    let eq : loads (segments out) ≡ e ∷ map (moved p b) (loads ss) =
    ap loads (segments-settled b file base few fits) ∙ cond-true (is_load e) (e ∷ loads (map (moved p b) ss)) (loads (map (moved p b) ss)) (lt-ltb 0 (used_len n) (used_some n))
    ∙ ap (λ (z : List Segment). e ∷ z) (loads-moved p b ss) in
    let pl = subst (λ (z : List Segment). AllByRecursion (IsPlaced 0x20000 (length out)) z) eq all.placed in
    let asc = subst (λ (z : List Segment). Ascends 0 z) eq all.ascends in
    let lo = pl.0.low in
    let below : p ≤ b = omega (arith, lo) in
    let ins = all_in ss (λ s i j. inside (length file) s i j) (none_breaks (is_outside (length file)) ss (map_none _ _ outside.0)) in
    let good = all_good p b (length file) (length out) (loads ss) (last_page e + 1) ps (omega (arith, fh, ps)) readable.len (above_front b n below pl.0.aligned) (all_filtered Fits is_load ss fits) ins asc.2 pl.1 in
    let one = one_by_one p b ss good in
    let taken : IsTaken b file = record {
      settleable = record { base = base; below = below; few = few; fits = fits; roomy = all_to (loads ss) (λ s g. g.roomy) good };
      placeable = record {
        stub = stub_low b n fh;
        table = table_low p b (table_place file) (56 * table_count file) ss one;
        entry = entry_low p b (entry_of file) ss one (entry_is_exec file r2.1);
      };
      accepted = acc;
    } in
    record { taken = taken; low = base_high b n below pl.0.aligned fh; multiple = base_multiple b (largest_align (loads ss)) _ outside.1; good = good }

-- what isn't refused is taken
pub unrefused_is_taken : UnrefusedIsTaken
unrefused_is_taken b file readable h = (known b file readable h).taken
