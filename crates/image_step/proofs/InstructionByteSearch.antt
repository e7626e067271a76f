-- A byte of a listed instruction is sought among the at most fifteen entries that can hold it.
use Rattle.std.proofs.Common.{◌≡◌, inl, inr, ℕ, zero, suc, ◌+◌, ◌-◌, ◌<◌, ◌≤◌, Bool, true, false, ◌&&◌, ◌||◌, List, [], ◌∷◌, map, length, get_or, take, drop, Option, Some, None, Result, Ok, Err, refl, ap, sym, ◌∙◌, arith}
use Rattle.std.specs.Prelude.{min, nat_le, nat_lt, slice_get}
use Rattle.std.specs.List.{AllWithin, list_all, list_any}
use Rattle.std.specs.List.Sorted.{IsNonDecreasingBy, IsStrictlyIncreasing}
use Rattle.std.proofs.lemmas.Bool.{and_parts, cases_lt}
use Rattle.std.proofs.lemmas.Bool.Decides.{nat_tests}
use Rattle.std.proofs.lemmas.List.{get_or_default}
use Rattle.length_decode.specs.declared.field_bytes.Stop.{Stop}
use Rattle.length_decode.specs.Parse.{parse}
use Rattle.length_decode.specs.Spelling.{Fields}
use Rattle.length_decode.proofs.ShapeAnswers.{read_len}
use Rattle.elf_read.specs.Code.{window}
use Rattle.start_entries.specs.declared.entry.StartEntry.{StartEntry}
use Rattle.start_entries.specs.Entries.{before_next, backed_bytes, unmarked_of, entries_of, entry_by, reach, reading_at, start_entry}
use Rattle.start_entries.specs.SharedBytes.{marked}
use Rattle.start_entries.specs.Finding.{addresses}
use Rattle.start_entries.proofs.EntrySearch.{non_decreasing, nowhere}
use Rattle.start_entries.proofs.WindowLengths.{window_short}
use Rattle.image_runs.specs.Listed.{BeginBelow, HaveNone, IsParted, are_short, is_listed_byte}

-- ---- entries have at most 15 bytes

before_most : (a n most : ℕ) (next : Option ℕ) → n ≤ most → before_next a next n ≤ most
before_most a n most None h = h
before_most a n most (Some next) h = omega arith

reach_most : (file : List ℕ) (a : ℕ) (next : Option ℕ) → reach file a next ≤ 15
reach_most file a next = before_most a (min 15 (backed_bytes file a)) 15 next (omega arith)

entry_most : (file : List ℕ) (a : ℕ) (next : Option ℕ) (r : Result Fields Stop) → parse (window file a) ≡ r → (entry_by file a next r).len ≤ 15
entry_most file a next (Ok f) e = read_len (window file a) f (window_short file a) e
entry_most file a next (Err s) e = reach_most file a next

start_most : (file : List ℕ) (a : ℕ) (next : Option ℕ) → (start_entry file a next).len ≤ 15
unfolding start_entry reading_at
start_most file a next = entry_most file a next (parse (window file a)) refl

short_unmarked : (file starts : List ℕ) → are_short (unmarked_of file starts) ≡ true
short_unmarked file [] = refl
short_unmarked file (a ∷ after) =
    let m = start_most file a (slice_get after 0) in
    let e : nat_le (start_entry file a (slice_get after 0)).len 15 ≡ true = grind (arith, nat_tests, m) in
    rw e (short_unmarked file after)

-- marks change no length
short_marked : (others es : List StartEntry) → are_short (map (marked others) es) ≡ are_short es
short_marked others [] = refl
short_marked others (e ∷ es) = ap (λ (b : Bool). nat_le e.len 15 && b) (short_marked others es)

-- The instructions that are listed of a file have at most 15 bytes.
pub short_entries : (file starts : List ℕ) → are_short (entries_of file starts) ≡ true
short_entries file starts = short_marked (unmarked_of file starts) (unmarked_of file starts) ∙ short_unmarked file starts

-- Entries that ascend ascend with a number added to each.
pub rising : (es : List StartEntry) (n : ℕ) → IsStrictlyIncreasing (addresses es) → IsNonDecreasingBy (λ e. e.addr + n) es
rising es n h i j d p l = let q = non_decreasing es h i j d p l in omega arith

-- ---- a test that fails outside a part of a list

any_front : {X : Type 0} (p : X → Bool) (xs : List X) (j : ℕ) → ((k : ℕ) (d : X) → j ≤ k → k < length xs → p (get_or xs k d) ≡ false)
    → list_any p (take j xs) ≡ list_any p xs
any_front p [] zero h = refl
any_front p [] (suc j) h = refl
any_front p (x ∷ xs) zero h = sym (let e : p x ≡ false = h 0 x (omega arith) (omega arith) in rw e (sym (any_front p xs zero (λ k d l m. h (suc k) d (omega arith) (omega arith)))))
any_front p (x ∷ xs) (suc j) h = ap (λ (b : Bool). p x || b) (any_front p xs j (λ k d l m. h (suc k) d (omega arith) (omega arith)))

any_between : {X : Type 0} (p : X → Bool) (xs : List X) (i j : ℕ) → i ≤ j → ((k : ℕ) (d : X) → k < i → k < length xs → p (get_or xs k d) ≡ false)
    → ((k : ℕ) (d : X) → j ≤ k → k < length xs → p (get_or xs k d) ≡ false) → list_any p (take (j - i) (drop i xs)) ≡ list_any p xs
any_between p xs zero j l f g = let e : j - 0 ≡ j = omega arith in ap (λ (n : ℕ). list_any p (take n xs)) e ∙ any_front p xs j g
any_between p [] (suc i) zero l f g = absurd (omega arith)
any_between p (x ∷ xs) (suc i) zero l f g = absurd (omega arith)
any_between p [] (suc i) (suc j) l f g = any_front p [] (suc j - suc i) (λ k d a b. absurd (omega arith))
any_between p (x ∷ xs) (suc i) (suc j) l f g =
    let e : p x ≡ false = f 0 x (omega arith) (omega arith) in
    let m : suc j - suc i ≡ j - i = omega arith in
    rw e (ap (λ (n : ℕ). list_any p (take n (drop i xs))) m ∙ any_between p xs i j (omega arith) (λ k d a b. f (suc k) d (omega arith) (omega arith)) (λ k d a b. g (suc k) d (omega arith) (omega arith)))

all_at : {X : Type 0} (p : X → Bool) (xs : List X) (k : ℕ) (d : X) → list_all p xs ≡ true → k < length xs → p (get_or xs k d) ≡ true
all_at p [] k d h l = absurd (omega arith)
all_at p (x ∷ xs) zero d h l = (and_parts (p x) (list_all p xs) h).0
all_at p (x ∷ xs) (suc k) d h l = all_at p xs k d (and_parts (p x) (list_all p xs) h).1 (omega arith)

-- ---- the entries that can hold an address

apart_twice : (x a : ℕ) → nat_le (x + 15) a ≡ true → nat_le (x + 0) a ≡ false → ⊥
apart_twice x a h k = grind (arith, nat_tests)

-- The entries that end below an address are among those that don't begin above it.
pub first_end : (es : List StartEntry) (a i j : ℕ) → IsParted es 15 a i → IsParted es 0 a j → i ≤ length es → i ≤ j
first_end es a i j p q l = elim (cases_lt j i) [
  | inl less ↦ absurd (apart_twice (get_or es j nowhere).addr a (p.0 j nowhere (omega arith) less) (q.1 j nowhere (omega arith) (omega arith)))
  | inr most ↦ most
]

ends_below : (e : StartEntry) (a : ℕ) → nat_le e.len 15 ≡ true → nat_le (e.addr + 15) a ≡ true → (nat_le e.addr a && nat_lt a (e.addr + e.len)) ≡ false
ends_below e a s h = grind (arith, nat_tests)

begins_above : (e : StartEntry) (a : ℕ) → nat_le (e.addr + 0) a ≡ false → (nat_le e.addr a && nat_lt a (e.addr + e.len)) ≡ false
begins_above e a h = grind (arith, nat_tests)

-- Among the entries that can hold an address one does exactly where one of all does.
pub sought : (es : List StartEntry) (a i j : ℕ) → are_short es ≡ true → IsParted es 15 a i → IsParted es 0 a j → i ≤ length es
    → is_listed_byte (take (j - i) (drop i es)) a ≡ is_listed_byte es a
sought es a i j s p q l =
    any_between (λ e. nat_le e.addr a && nat_lt a (e.addr + e.len)) es i j (first_end es a i j p q l)
    (λ k d m n. ends_below (get_or es k d) a (all_at (λ e. nat_le e.len 15) es k d s n) (p.0 k d (omega arith) m))
    (λ k d m n. begins_above (get_or es k d) a (q.1 k d m n))

-- Entries up to one that begins far below an address begin far below it.
pub below_last : (es : List StartEntry) (i a : ℕ) (e : StartEntry) → IsStrictlyIncreasing (addresses es) → i < length es → e ≡ get_or es i e → e.addr + 15 ≤ a → BeginBelow es (i + 1) a
below_last es i a e s n h l k d u v =
    let r : (get_or es k d).addr + 15 ≤ (get_or es i d).addr + 15 = rising es 15 s k i d (omega arith) n in
    let same : (get_or es i d).addr ≡ e.addr = ap (λ (z : StartEntry). z.addr) (get_or_default es i d e n ∙ sym h) in
    let all : (get_or es k d).addr + 15 ≤ a = omega (arith, r, same, l) in
    grind (arith, nat_tests, all)

-- where as many entries end below an address as begin below a later one, none has a byte between them
pub clear : (es : List StartEntry) (a b i : ℕ) → are_short es ≡ true → BeginBelow es i a → AllWithin (λ (e : StartEntry). nat_le (e.addr + 0) b ≡ false) es i (length es)
    → HaveNone es a b
clear es a b i s p q x l m =
    let none : i - i ≡ 0 = omega arith in
    sym (any_between (λ e. nat_le e.addr x && nat_lt x (e.addr + e.len)) es i i (omega arith)
    (λ k d u v. ends_below (get_or es k d) x (all_at (λ e. nat_le e.len 15) es k d s v)
    (below (get_or es k d).addr (p k d (omega arith) u)))
    (λ k d u v. begins_above (get_or es k d) x (above (get_or es k d).addr (q k d u v))))
    ∙ ap (λ (n : ℕ). list_any (λ (e : StartEntry). nat_le e.addr x && nat_lt x (e.addr + e.len)) (take n (drop i es))) none
  where
    below : (y : ℕ) → nat_le (y + 15) a ≡ true → nat_le (y + 15) x ≡ true
    below y h = grind (arith, nat_tests)

    above : (y : ℕ) → nat_le (y + 0) b ≡ false → nat_le (y + 0) x ≡ false
    above y h = grind (arith, nat_tests)
