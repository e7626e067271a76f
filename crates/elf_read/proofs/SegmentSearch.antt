-- The search for an address among entries that ascend finds the one that covers it.
use Rattle.std.proofs.Common.{◌≡◌, ℕ, zero, suc, ◌+◌, ◌-◌, ◌/◌, ◌<◌, ◌≤◌, Bool, true, false, cond, nat_lt, nat_le, ◌||◌, List, [], ◌∷◌, length, get_or, Option, Some, None, is_some, refl, sym, ap, ◌∙◌, subst, arith, map, option_map, inl, inr}
use Rattle.std.specs.List.{AllByRecursion, find, list_any}
use Rattle.std.specs.List.Sorted.{IsNonDecreasingBy}
use Rattle.std.proofs.lemmas.Bool.{and_parts, cases_Bool, cases_eq, ltb-true, leb-true, ltb-false, cond-true, cond-false}
use Rattle.std.proofs.lemmas.Bool.Decides.{nat_tests}
use Rattle.pun_base.specs.Memory.{Cell}
use Rattle.elf_read.specs.declared.segment.Segment.{Segment}
use Rattle.elf_read.specs.Entries.{is_load, loads}
use Rattle.elf_read.specs.Refusals.{first_page, last_page}
use Rattle.elf_read.specs.Image.{chunk_of, image, cell_in}
use Rattle.elf_read.specs.Find.{covers, Parted, segment_of}
use Rattle.elf_read.specs.Code.{is_exec_in}
use Rattle.elf_read.specs.Accepted.{IsPlaced, Ascends}

-- An entry where none is.
abbrev pub no_segment : Segment
no_segment = record { kind = 0; flags = 0; offset = 0; vaddr = 0; paddr = 0; filesz = 0; memsz = 0; align = 0 }

-- entries that ascend end one before the other
low_first : (page k : ℕ) (ss : List Segment) (d : Segment) → Ascends page ss → k < length ss → page ≤ first_page (get_or ss k d)
low_first page k [] d a l = absurd (omega arith)
low_first page zero (s ∷ ss) d a l = a.0
low_first page (suc k) (s ∷ ss) d a l =
    let r = low_first (last_page s + 1) k ss d a.2 (omega arith) in let p = a.0 in let q = a.1 in omega arith

-- an entry ends at or before the beginning of each one behind it
pub ends_before : (page j k : ℕ) (ss : List Segment) (d : Segment) → Ascends page ss → j < k → k < length ss → (get_or ss j d).vaddr + (get_or ss j d).memsz ≤ (get_or ss k d).vaddr
ends_before page j k [] d a p l = absurd (omega arith)
ends_before page zero zero (s ∷ ss) d a p l = absurd (omega arith)
ends_before page (suc j) zero (s ∷ ss) d a p l = absurd (omega arith)
ends_before page zero (suc k) (s ∷ ss) d a p l =
    let r = low_first (last_page s + 1) k ss d a.2 (omega arith) in let q = a.1 in omega arith
ends_before page (suc j) (suc k) (s ∷ ss) d a p l = ends_before (last_page s + 1) j k ss d a.2 (omega arith) (omega arith)

-- addresses of entries that ascend don't decrease
pub non_decreasing : (ss : List Segment) → Ascends 0 ss → IsNonDecreasingBy (λ s. s.vaddr) ss
non_decreasing ss up i j d p l = elim (cases_eq i j) [
  | inl e ↦ subst (λ (k : ℕ). (get_or ss i d).vaddr ≤ (get_or ss k d).vaddr) e (omega arith)
  | inr n ↦ let q = ends_before 0 i j ss d up (omega arith) l in omega arith
]

-- an address behind a segment is not one of it
pub past : (s : Segment) (a : ℕ) → s.vaddr + s.memsz ≤ a → covers s a ≡ false
past s a l = grind (arith, nat_tests)

short_of : (s : Segment) (a : ℕ) → nat_le s.vaddr a ≡ false → covers s a ≡ false
short_of s a l = grind (arith, nat_tests)

covers_it : (s : Segment) (a : ℕ) → nat_le s.vaddr a ≡ true → a - s.vaddr < s.memsz → covers s a ≡ true
covers_it s a v w = grind (arith, nat_tests)

first_covers : (ss : List Segment) (a i : ℕ) (d : Segment) → i < length ss → ((k : ℕ) → k < i → covers (get_or ss k d) a ≡ false) → covers (get_or ss i d) a ≡ true → segment_of ss a ≡ Some (get_or ss i d)
first_covers [] a i d l n h = absurd (omega arith)
first_covers (s ∷ ss) a zero d l n h = cond-true (covers s a) _ _ h
first_covers (s ∷ ss) a (suc i) d l n h =
    cond-false (covers s a) _ _ (n 0 (omega arith)) ∙ first_covers ss a i d (omega arith) (λ k m. n (suc k) (omega arith)) h

none_covers : (ss : List Segment) (a : ℕ) (d : Segment) → ((k : ℕ) → k < length ss → covers (get_or ss k d) a ≡ false) → segment_of ss a ≡ None
none_covers [] a d n = refl
none_covers (s ∷ ss) a d n =
    cond-false (covers s a) _ _ (n 0 (omega arith)) ∙ none_covers ss a d (λ k m. n (suc k) (omega arith))

-- an entry below the last one that begins at or below the address ends before it
ended : (ss : List Segment) (a j k : ℕ) (d : Segment) → Ascends 0 ss → j < k → k < length ss → nat_le (get_or ss k d).vaddr a ≡ true → covers (get_or ss j d) a ≡ false
ended ss a j k d up p l v =
    past (get_or ss j d) a (let b = ends_before 0 j k ss d up p l in let w = leb-true _ _ v in omega arith)

-- the last of the entries that are told to begin at or below an address does
pub begins_below : (ss : List Segment) (a i : ℕ) (d : Segment) → Parted ss a i → 0 < i → (get_or ss (i - 1) d).vaddr ≤ a
begins_below ss a i d h p = leb-true _ _ (h.0 (i - 1) d (omega arith) (omega arith))

-- where none begins at or below the address, none covers it
pub all_above : (ss : List Segment) (a i : ℕ) (d : Segment) → Parted ss a i → i ≡ 0 → segment_of ss a ≡ None
all_above ss a i d h z = none_covers ss a d (λ k l. short_of (get_or ss k d) a (h.1 k d (omega arith) l))

-- where the last one that begins at or below the address reaches it, that is the entry that covers it
pub covered : (ss : List Segment) (a i : ℕ) (d : Segment) → Ascends 0 ss → i ≤ length ss → Parted ss a i → 0 < i → a - (get_or ss (i - 1) d).vaddr < (get_or ss (i - 1) d).memsz → segment_of ss a ≡ Some (get_or ss (i - 1) d)
covered ss a i d up l h p w =
    let v = h.0 (i - 1) d (omega arith) (omega arith) in
    first_covers ss a (i - 1) d (omega arith) (λ k m. ended ss a k (i - 1) d up m (omega arith) v) (covers_it (get_or ss (i - 1) d) a v w)

placed_one : (from len i : ℕ) (ss : List Segment) (d : Segment) → AllByRecursion (IsPlaced from len) ss → i < length ss → IsPlaced from len (get_or ss i d)
placed_one from len i [] d p l = absurd (omega arith)
placed_one from len zero (s ∷ ss) d p l = p.0
placed_one from len (suc i) (s ∷ ss) d p l = placed_one from len i ss d p.1 (omega arith)

exec_parts : (s : Segment) (a : ℕ) → s.filesz ≤ s.memsz → is_exec_in a s ≡ true → (nat_le s.vaddr a ≡ true) × (covers s a ≡ true)
exec_parts s a l e = grind (arith, nat_tests)

-- the entry from which an address is executed is the one that covers it
pub executed_one : (from len a i : ℕ) (ss : List Segment) (d : Segment) → Ascends 0 ss → AllByRecursion (IsPlaced from len) ss → i < length ss → is_exec_in a (get_or ss i d) ≡ true → segment_of ss a ≡ Some (get_or ss i d)
executed_one from len a i ss d up p l e =
    let k = exec_parts (get_or ss i d) a (placed_one from len i ss d p l).sizes e in
    first_covers ss a i d l (λ j m. ended ss a j i d up m l k.0) k.1

outside_one : (ss : List Segment) (a i k : ℕ) (d : Segment) → Ascends 0 ss → i ≤ length ss → Parted ss a i → 0 < i → (get_or ss (i - 1) d).memsz ≤ a - (get_or ss (i - 1) d).vaddr → k < length ss → covers (get_or ss k d) a ≡ false
outside_one ss a i k d up n h p w l =
    let v = h.0 (i - 1) d (omega arith) (omega arith) in
    let b = leb-true _ _ v in
    elim (cases_eq k (i - 1)) [
      | inl q ↦ subst (λ (j : ℕ). covers (get_or ss j d) a ≡ false) (sym q) (past (get_or ss (i - 1) d) a (omega arith))
      | inr q ↦ elim (cases_Bool (nat_lt k (i - 1))) [
        | inl t ↦ let m = ltb-true _ _ t in ended ss a k (i - 1) d up m (omega arith) v
        | inr f ↦ let m = ltb-false _ _ f in short_of (get_or ss k d) a (h.1 k d (omega arith) l)
      ]
    ]

-- where the last one that begins at or below the address doesn't reach it, none covers it
pub not_covered : (ss : List Segment) (a i : ℕ) (d : Segment) → Ascends 0 ss → i ≤ length ss → Parted ss a i → 0 < i → (get_or ss (i - 1) d).memsz ≤ a - (get_or ss (i - 1) d).vaddr → segment_of ss a ≡ None
not_covered ss a i d up n h p w = none_covers ss a d (λ k l. outside_one ss a i k d up n h p w l)

-- the image, by the segment that holds the address
image_step : (b : Bool) (c : Cell) (s : Segment) (file : List ℕ) (a : ℕ) (o : Option Cell) (r : Option Segment) → c ≡ cell_in (chunk_of file s) a → o ≡ option_map (λ t. cell_in (chunk_of file t) a) r → cond b (Some c) o ≡ option_map (λ t. cell_in (chunk_of file t) a) (cond b (Some s) r)
image_step true c s file a o r e f = ap Some e
image_step false c s file a o r e f = f

-- what stands at an address in the image is told by the first entry that covers it
pub image_by : (file : List ℕ) (ss : List Segment) (a : ℕ) → image (map (chunk_of file) ss) a ≡ option_map (λ s. cell_in (chunk_of file s) a) (segment_of ss a)
image_by file [] a = refl
image_by file (s ∷ ss) a = image_step (covers s a) _ s file a _ (segment_of ss a) refl (image_by file ss a)

-- the segment that was found keeps the rules, and begins at or below the address
pub some_inj : (s t : Segment) → ◌≡◌ {A = Option Segment} (Some s) (Some t) → s ≡ t
some_inj s t e = cc

-- nothing is no entry
pub none_some : (s : Segment) → ◌≡◌ {A = Option Segment} None (Some s) → ⊥
none_some s e = cc

-- an entry that lies in a file of `len` bytes, and begins at or below an address
pub record Held (len a : ℕ) (s : Segment) : Type 0 where
  pub inside : s.offset + s.filesz ≤ len
  pub above : s.vaddr ≤ a

held_step : (from len a : ℕ) (s t : Segment) (o : Option Segment) (b : Bool) → covers s a ≡ b → IsPlaced from len s → (o ≡ Some t → Held len a t) → cond b (Some s) o ≡ Some t → Held len a t
held_step from len a s t o true e i f h =
    subst (λ z. Held len a z) (some_inj s t h) (record { inside = i.in_file; above = leb-true _ _ (and_parts _ _ e).0 })
held_step from len a s t o false e i f h = f h

-- of entries that keep the rules, the one that covers an address lies in the file and begins at or below the address
pub found_held : (from len a : ℕ) (ss : List Segment) (t : Segment) → AllByRecursion (IsPlaced from len) ss → segment_of ss a ≡ Some t → Held len a t
found_held from len a [] t i h = absurd (none_some t h)
found_held from len a (s ∷ ss) t i h =
    held_step from len a s t (segment_of ss a) (covers s a) refl i.0 (λ e. found_held from len a ss t i.1 e) h

-- what can be executed, by the segment that holds the address
abbrev pub exec_of : ℕ → Option Segment → Option Segment
exec_of a None = None
exec_of a (Some s) = cond (is_exec_in a s) (Some s) None

above_all : (a : ℕ) (s : Segment) → a < s.vaddr → is_exec_in a s ≡ false
above_all a s l = grind (arith, nat_tests)

none_executed : (a page : ℕ) (ss : List Segment) → Ascends page ss → a / 4096 < page → find (is_exec_in a) ss ≡ None
none_executed a page [] up l = refl
none_executed a page (s ∷ ss) up l =
    let p = up.0 in let q = up.1 in
    cond-false (is_exec_in a s) _ _ (above_all a s (omega arith)) ∙ none_executed a (last_page s + 1) ss up.2 (omega arith)

-- an address that a segment covers lies at its first one or above, by less than its length in memory
pub covers_parts : (s : Segment) (a : ℕ) → covers s a ≡ true → (s.vaddr ≤ a) × (a - s.vaddr < s.memsz)
covers_parts s a h = let k = and_parts (nat_le s.vaddr a) (nat_lt (a - s.vaddr) s.memsz) h in (leb-true s.vaddr a k.0, ltb-true (a - s.vaddr) s.memsz k.1)

in_last : (a : ℕ) (s : Segment) → covers s a ≡ true → a / 4096 < last_page s + 1
in_last a s h =
    let k = covers_parts s a h in let p = k.0 in let q = k.1 in omega arith

not_executed : (a : ℕ) (s : Segment) → s.filesz ≤ s.memsz → covers s a ≡ false → is_exec_in a s ≡ false
not_executed a s l h = grind (arith, nat_tests)

find_step : (a : ℕ) (s : Segment) (o r : Option Segment) (b : Bool) → covers s a ≡ b → (covers s a ≡ true → o ≡ None) → (covers s a ≡ false → is_exec_in a s ≡ false) → o ≡ exec_of a r → cond (is_exec_in a s) (Some s) o ≡ exec_of a (cond b (Some s) r)
find_step a s o r true e n f q = ap (λ (x : Option Segment). cond (is_exec_in a s) (Some s) x) (n e)
find_step a s o r false e n f q = cond-false (is_exec_in a s) _ _ (f e) ∙ q

find_loaded : (from len a page : ℕ) (ss : List Segment) → Ascends page ss → AllByRecursion (IsPlaced from len) ss → find (is_exec_in a) ss ≡ exec_of a (segment_of ss a)
find_loaded from len a page [] up i = refl
find_loaded from len a page (s ∷ ss) up i =
    find_step a s (find (is_exec_in a) ss) (segment_of ss a) (covers s a) refl
    (λ e. none_executed a (last_page s + 1) ss up.2 (in_last a s e)) (λ e. not_executed a s i.0.sizes e)
    (find_loaded from len a (last_page s + 1) ss up.2 i.1)

-- entries that aren't loaded aren't executed
unloaded : (a : ℕ) (s : Segment) → is_load s ≡ false → is_exec_in a s ≡ false
unloaded a s e = grind (arith, nat_tests)

loads_step : (a : ℕ) (s : Segment) (ss : List Segment) (o : Option Segment) (b : Bool) → is_load s ≡ b → o ≡ find (is_exec_in a) (loads ss) → cond (is_exec_in a s) (Some s) o ≡ find (is_exec_in a) (cond b (s ∷ loads ss) (loads ss))
loads_step a s ss o true e q = ap (λ (x : Option Segment). cond (is_exec_in a s) (Some s) x) q
loads_step a s ss o false e q = cond-false (is_exec_in a s) _ _ (unloaded a s e) ∙ q

find-loads : (a : ℕ) (ss : List Segment) → find (is_exec_in a) ss ≡ find (is_exec_in a) (loads ss)
find-loads a [] = refl
find-loads a (s ∷ ss) = loads_step a s ss (find (is_exec_in a) ss) (is_load s) refl (find-loads a ss)

any_step : (b : Bool) (s : Segment) (x : Bool) (o : Option Segment) → x ≡ is_some o → (b || x) ≡ is_some (cond b (Some s) o)
any_step true s x o e = refl
any_step false s x o e = e

-- some entry passes a test exactly where the search finds one
pub any_found : (p : Segment → Bool) (ss : List Segment) → list_any p ss ≡ is_some (find p ss)
any_found p [] = refl
any_found p (s ∷ ss) = any_step (p s) s (list_any p ss) (find p ss) (any_found p ss)

-- the entry from which an address is executed is the loaded one that covers it, where it can be executed there
pub find_executed : (from len a : ℕ) (ss : List Segment) → Ascends 0 (loads ss) → AllByRecursion (IsPlaced from len) (loads ss) → find (is_exec_in a) ss ≡ exec_of a (segment_of (loads ss) a)
find_executed from len a ss up i = find-loads a ss ∙ find_loaded from len a 0 (loads ss) up i

exec_some : (a : ℕ) (o : Option Segment) (b : Bool) (s : Segment) → o ≡ Some s → is_exec_in a s ≡ b → is_some (exec_of a o) ≡ b
exec_some a o true s e f = ap (λ x. is_some (exec_of a x)) e ∙ ap (λ (x : Bool). is_some (cond x (Some s) None)) f
exec_some a o false s e f = ap (λ x. is_some (exec_of a x)) e ∙ ap (λ (x : Bool). is_some (cond x (Some s) None)) f

-- where a loaded entry covers the address, whether it can be executed is told by that entry
pub is_exec_some : (from len a : ℕ) (ss : List Segment) (s : Segment) → Ascends 0 (loads ss) → AllByRecursion (IsPlaced from len) (loads ss) → segment_of (loads ss) a ≡ Some s → list_any (is_exec_in a) ss ≡ is_exec_in a s
is_exec_some from len a ss s up i e =
    any_found (is_exec_in a) ss ∙ ap is_some (find_executed from len a ss up i) ∙ exec_some a (segment_of (loads ss) a) (is_exec_in a s) s e refl

-- where no loaded entry covers the address, it can't be executed
pub is_exec_none : (from len a : ℕ) (ss : List Segment) → Ascends 0 (loads ss) → AllByRecursion (IsPlaced from len) (loads ss) → segment_of (loads ss) a ≡ None → list_any (is_exec_in a) ss ≡ false
is_exec_none from len a ss up i e =
    any_found (is_exec_in a) ss ∙ ap is_some (find_executed from len a ss up i) ∙ ap (λ x. is_some (exec_of a x)) e
