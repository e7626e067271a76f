-- Listed starts near an address.
use Rattle.std.proofs.Common.{◌≡◌, ℕ, ◌+◌, ◌<◌, ◌≤◌, Bool, true, false, cond, List, [], ◌∷◌, None, refl, sym, ◌∙◌, subst, arith}
use Rattle.std.specs.Prelude.{◌||◌, ◌&&◌, ◌==◌, not, nat_le, nat_lt}
use Rattle.std.specs.List.{list_any, count_by, AllByRecursion}
use Rattle.std.proofs.lemmas.Bool.{and_parts, and_from, eqb-true, leb-true, ltb-true, le-leb}
use Rattle.elf_read.specs.Refusals.{refusal}
use Rattle.patch_report.specs.Values.{BodyValue}
use Rattle.start_entries.specs.declared.entry.StartEntry.{StartEntry}
use Rattle.start_entries.specs.Finding.{addresses}
use Rattle.start_entries.specs.Laws.{IsBuilt, IsExecuted}
use Rattle.start_entries.proofs.ExecutedEntries.{all_executed}
use Rattle.image_check.specs.Jumps.{IsShort}
use Rattle.image_check.specs.Nearness.{IsNear}
use Rattle.image_check.specs.Parts.{displaced_among, belongs_among}
use Rattle.start_entries.specs.SharedBytes.{has_byte}
use Rattle.sound_images.specs.Reports.{starts_line}
use Rattle.sound_images.proofs.CountedElements.{count_cons}
use Rattle.image_check.proofs.NearCounts.{any_near}

-- an entry at an address begins at or less than 15 bytes below it
start_held : (x : ℕ) (e : StartEntry) → (e.addr == x) ≡ true → (e.addr ≤ x) × (x < e.addr + 15)
start_held x e h = let k = eqb-true e.addr x h in (omega (arith, k), omega (arith, k))

-- a start is listed near an address where it is listed
pub start_near : (x : ℕ) (near es : List StartEntry) → IsNear (λ (e : StartEntry). e) (λ (e : StartEntry). e.addr) 15 x near es
    → list_any (λ (e : StartEntry). e.addr == x) near ≡ list_any (λ (e : StartEntry). e.addr == x) es
start_near x near es n =
    any_near (λ (e : StartEntry). e) (λ (e : StartEntry). e.addr) 15 x near es n (λ (e : StartEntry). e.addr == x) (start_held x)

-- a test that holds of each element may be asked too
asked_too : (a b : Bool) → b ≡ true → a ≡ (a && b)
asked_too true b h = sym h
asked_too false b h = refl

-- where all elements pass a second test, some passes the first exactly where some passes both
any_too : {X : Type 0} (p q : X → Bool) (xs : List X) → AllByRecursion (λ x. q x ≡ true) xs → list_any p xs ≡ list_any (λ x. p x && q x) xs
any_too p q [] h = refl
any_too p q (x ∷ xs) h = λ i. asked_too (p x) (q x) h.0 i || any_too p q xs h.1 i

-- short entries pass the test of at most 15 bytes
all_few : (es : List StartEntry) → AllByRecursion IsShort es → AllByRecursion (λ (e : StartEntry). nat_le e.len 15 ≡ true) es
all_few [] h = tt
all_few (e ∷ es) h = (le-leb e.len 15 h.0, all_few es h.1)

-- what is counted nowhere holds of no element
none_by_count : (b : Bool) (n : ℕ) → cond (not b) 1 0 + n ≤ 0 → (b ≡ true) × (n ≤ 0)
none_by_count true n h = (refl, omega (arith, h))
none_by_count false n h = absurd (omega (arith, h))

-- where no entry is counted as longer than 15 bytes, each passes the test of at most 15
few_by_count : (es : List StartEntry) → count_by (λ (e : StartEntry). not (nat_le e.len 15)) es ≤ 0
    → AllByRecursion (λ (e : StartEntry). nat_le e.len 15 ≡ true) es
few_by_count [] h = tt
few_by_count (e ∷ es) h =
    let k = count_cons (λ (e : StartEntry). not (nat_le e.len 15)) e es in
    let m = none_by_count (nat_le e.len 15) _ (omega (arith, h, k)) in
    (m.0, few_by_count es m.1)

-- of short entries none is counted as longer than 15 bytes
none_long : (es : List StartEntry) → AllByRecursion IsShort es → count_by (λ (e : StartEntry). not (nat_le e.len 15)) es ≡ 0
none_long [] h = refl
none_long (e ∷ es) h =
    count_cons (λ (e : StartEntry). not (nat_le e.len 15)) e es
    ∙ (λ i. cond (not (le-leb e.len 15 h.0 i)) 1 0 + none_long es h.1 i)

-- where a second test passes, an element counts for the first as it counts for both
asked_count : (a b : Bool) → b ≡ true → ◌≡◌ {A = ℕ} (cond a 1 0) (cond (a && b) 1 0)
asked_count a b h = λ i. cond (asked_too a b h i) 1 0

-- where all elements pass a second test, as many pass the first as pass both
count_too : {X : Type 0} (p q : X → Bool) (xs : List X) → AllByRecursion (λ x. q x ≡ true) xs → count_by p xs ≡ count_by (λ x. p x && q x) xs
count_too p q [] h = refl
count_too p q (x ∷ xs) h =
    count_cons p x xs ∙ (λ i. asked_count (p x) (q x) h.0 i + count_too p q xs h.1 i) ∙ sym (count_cons (λ y. p y && q y) x xs)

-- an instruction of at most fifteen bytes that holds an address begins near it
short_held : (x : ℕ) (e : StartEntry) → (has_byte x e && nat_le e.len 15) ≡ true → (e.addr ≤ x) × (x < e.addr + 15)
short_held x e h =
    let p = and_parts (has_byte x e) (nat_le e.len 15) h in
    let q = and_parts (nat_le e.addr x) (nat_lt x (e.addr + e.len)) p.0 in
    let l = ltb-true x (e.addr + e.len) q.1 in
    let m = leb-true e.len 15 p.1 in
    (leb-true e.addr x q.0, omega (arith, l, m))

-- an address is a byte of as many listed instructions near it as of all
module _ (v : BodyValue) (x : ℕ) (near es : List StartEntry) (s : AllByRecursion IsShort es)
    (n : IsNear (λ (e : StartEntry). e) (λ (e : StartEntry). e.addr) 15 x near es)
    (part : (q : StartEntry → Bool) → count_by q near ≤ count_by q es) where
  -- the near starts have at most 15 bytes each
  few : AllByRecursion (λ (e : StartEntry). nat_le e.len 15 ≡ true) near
  few = few_by_count near (omega (arith, part (λ (e : StartEntry). not (nat_le e.len 15)), none_long es s))

  -- as many near starts have the byte as starts of the whole list
  owned_near : count_by (has_byte x) near ≡ count_by (has_byte x) es
  owned_near =
      count_too (has_byte x) (λ e. nat_le e.len 15) near few ∙ n (λ (e : StartEntry). has_byte x e && nat_le e.len 15) (short_held x)
      ∙ sym (count_too (has_byte x) (λ e. nat_le e.len 15) es (all_few es s))

  -- a near start with the byte is displaced exactly where one of the whole list is
  displaced_near : displaced_among v x near ≡ displaced_among v x es
  displaced_near =
      let h : StartEntry → Bool = λ e. has_byte x e && starts_line v e.addr in
      let q : StartEntry → Bool = λ e. nat_le e.len 15 in
      any_too h q near few
      ∙ any_near (λ (e : StartEntry). e) (λ (e : StartEntry). e.addr) 15 x near es n (λ (e : StartEntry). h e && nat_le e.len 15)
      (λ e k. let p = and_parts (h e) (nat_le e.len 15) k in
      short_held x e (and_from (has_byte x e) (nat_le e.len 15) (and_parts (has_byte x e) (starts_line v e.addr) p.0).0 p.1))
      ∙ sym (any_too h q es (all_few es s))

  -- a byte belongs to one of the near starts exactly where it belongs to one of the whole list
  pub belongs_near : belongs_among v x near ≡ belongs_among v x es
  belongs_near = λ i. (owned_near i == 1) && displaced_near i

-- listed entries are short
shorten : (file : List ℕ) (es : List StartEntry) → AllByRecursion (IsExecuted file) es → AllByRecursion IsShort es
shorten file [] h = tt
shorten file (e ∷ es) h = (h.0.most, shorten file es h.1)

-- the entries that are built of an accepted file have at most fifteen bytes each
pub built_short : (file : List ℕ) (es : List StartEntry) → refusal 0x10000 file ≡ None → IsBuilt file es → AllByRecursion IsShort es
built_short file es k b =
    let h = all_executed 0x10000 file (addresses es) (record { accepted = k; ascending = b.ascending; none = b.none }) in
    let P : List StartEntry → Type 0 = AllByRecursion (IsExecuted file) in
    shorten file es (subst P (sym b.entries) h)
