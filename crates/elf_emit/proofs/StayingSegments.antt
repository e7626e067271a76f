-- The segments that stay have their bytes in the file to themselves.
use Rattle.std.proofs.Common.{◌≡◌, ℕ, ◌+◌, ◌<◌, ◌≤◌, inl, inr, Bool, true, false, cond, not, ◌||◌, nat_lt, List, [], ◌∷◌, filter, refl, sym, ◌∙◌, arith}
use Rattle.std.specs.List.{AllByRecursion, list_any}
use Rattle.std.proofs.lemmas.Bool.{and_parts, cases_lt, ltb-true, ltb-false, true≢false, lt-ltb, not-true}
use Rattle.std.proofs.lemmas.Bool.Decides.{nat_tests}
use Rattle.elf_read.specs.declared.segment.Segment.{Segment}
use Rattle.elf_read.specs.Refusals.{first_page, last_page}
use Rattle.elf_read.specs.Accepted.{Ascends}
use Rattle.elf_emit.specs.Layout.{shares, is_moved, stays}
use Rattle.elf_emit.specs.Laws.{PairsByRecursion}
use Rattle.elf_emit.proofs.PlacedSlices.{FileApart}
use Rattle.elf_read.proofs.AcceptedFiles.{and_false}

-- what holds of all holds of those that pass a test
pub all_filtered : {X : Type 0} (P : X → Type 0) (p : X → Bool) (xs : List X) → AllByRecursion P xs → AllByRecursion P (filter p xs)
all_filtered P p [] h = tt
all_filtered {X = X} P p (x ∷ xs) h = step (p x) (all_filtered P p xs h.1)
  where
    step : (b : Bool) → AllByRecursion P (filter p xs) → AllByRecursion P (cond b (x ∷ filter p xs) (filter p xs))
    step true r = (h.0, r)
    step false r = r

-- what holds of those that pass a test holds of each where it passes
pub all_passed : {X : Type 0} (P : X → Type 0) (p : X → Bool) (xs : List X) → AllByRecursion P (filter p xs) → AllByRecursion (λ x. p x ≡ true → P x) xs
all_passed P p [] h = tt
all_passed {X = X} P p (x ∷ xs) h = step (p x) refl h (λ r. all_passed P p xs r)
  where
    step : (b : Bool) → p x ≡ b → AllByRecursion P (cond b (x ∷ filter p xs) (filter p xs)) → (AllByRecursion P (filter p xs) → AllByRecursion (λ y. p y ≡ true → P y) xs) → (p x ≡ true → P x) × AllByRecursion (λ y. p y ≡ true → P y) xs
    step true e k f = (λ t. k.0, f k.1)
    step false e k f = (λ t. absurd (true≢false (sym t ∙ e)), f k)

-- what each of two facts says of all, both together say of all
pub all_both : {X : Type 0} (P Q : X → Type 0) (xs : List X) → AllByRecursion P xs → AllByRecursion Q xs → AllByRecursion (λ x. P x × Q x) xs
all_both P Q [] h k = tt
all_both P Q (x ∷ xs) h k = ((h.0, k.0), all_both P Q xs h.1 k.1)

-- where one fact gives another, it does so of all
pub all_map : {X : Type 0} (P Q : X → Type 0) (xs : List X) → ((x : X) → P x → Q x) → AllByRecursion P xs → AllByRecursion Q xs
all_map P Q [] f h = tt
all_map P Q (x ∷ xs) f h = (f x h.0, all_map P Q xs f h.1)

-- where neither one nor the other holds, each is false
pub or_false : (a b : Bool) → a || b ≡ false → (a ≡ false) × (b ≡ false)
or_false true b h = cc
or_false false b h = (refl, h)

-- where a test passes for none, it fails for each
pub none_any : {X : Type 0} (p : X → Bool) (xs : List X) → list_any p xs ≡ false → AllByRecursion (λ x. p x ≡ false) xs
none_any p [] h = tt
none_any p (x ∷ xs) h = let k = or_false (p x) (list_any p xs) h in (k.0, none_any p xs k.1)

-- segments that ascend from a page on ascend from each lower one on
pub ascends_lower : (p q : ℕ) (ss : List Segment) → p ≤ q → Ascends q ss → Ascends p ss
ascends_lower p q [] l a = tt
ascends_lower p q (s ∷ ss) l a = (let h = a.0 in omega arith, a.1, a.2)

-- a nonempty segment's last page is no lower than its first
pub page_order : (s : Segment) → 0 < s.memsz → first_page s ≤ last_page s
page_order s l = omega arith

-- segments that ascend from a page on have no page below it
pub pages_above : (page : ℕ) (ss : List Segment) → Ascends page ss → AllByRecursion (λ t. page ≤ first_page t) ss
pages_above page [] a = tt
pages_above page (s ∷ ss) a =
    let o = page_order s a.1 in
    (a.0, pages_above page ss (ascends_lower page (last_page s + 1) ss (let h = a.0 in omega arith) a.2))

-- a segment with bytes that isn't moved has them past the header, and shares none of them
pub not_moved : (ss : List Segment) (s : Segment) → is_moved ss s ≡ false → 0 < s.filesz → (64 ≤ s.offset) × AllByRecursion (λ t. shares s t ≡ false) ss
unfolding is_moved
not_moved ss s h l =
    let k = or_false (nat_lt s.offset 64) (list_any (shares s) ss) (and_false (nat_lt 0 s.filesz) _ (lt-ltb 0 s.filesz l) h) in
    (ltb-false s.offset 64 k.0, none_any (shares s) ss k.1)

shared : (s t : Segment) → s.vaddr < t.vaddr → 0 < t.filesz → s.offset < t.offset + t.filesz → t.offset < s.offset + s.filesz → shares s t ≡ true
shared s t v f a b = grind (arith, nat_tests)

apart_by : (s t : Segment) → shares s t ≡ false → s.vaddr < t.vaddr → 0 < t.filesz → FileApart s t
apart_by s t h v f = elim (cases_lt t.offset (s.offset + s.filesz)) [
  | inr p ↦ inl p
  | inl p ↦ elim (cases_lt s.offset (t.offset + t.filesz)) [
    | inr q ↦ inr q
    | inl q ↦ absurd (true≢false (sym (shared s t v f q p) ∙ h))
  ]
]

-- a segment that stays has bytes and isn't moved
pub stays_parts : (all : List Segment) (s : Segment) → stays all s ≡ true → (0 < s.filesz) × (is_moved all s ≡ false)
stays_parts all s h = let k = and_parts (nat_lt 0 s.filesz) (not (is_moved all s)) h in (ltb-true 0 s.filesz k.0, not-true (is_moved all s) k.1)

stays_apart_from : (all : List Segment) (s : Segment) (ts : List Segment) → AllByRecursion (λ t. shares s t ≡ false) ts → AllByRecursion (λ t. last_page s + 1 ≤ first_page t) ts → 0 < s.memsz → AllByRecursion (FileApart s) (filter (stays all) ts)
stays_apart_from all s [] h l m = tt
stays_apart_from all s (t ∷ ts) h l m = step (stays all t) refl (stays_apart_from all s ts h.1 l.1 m)
  where
    step : (b : Bool) → stays all t ≡ b → AllByRecursion (FileApart s) (filter (stays all) ts) → AllByRecursion (FileApart s) (cond b (t ∷ filter (stays all) ts) (filter (stays all) ts))
    step true e r =
        let k = page_order s m in let p = l.0 in
        (apart_by s t h.0 (omega arith) (stays_parts all t e).0, r)
    step false e r = r

-- no two segments that stay have a byte of the file in common
pub stays_apart : (all ss : List Segment) (page : ℕ) → Ascends page ss → ((s : Segment) → is_moved all s ≡ false → 0 < s.filesz → AllByRecursion (λ t. shares s t ≡ false) ss) → PairsByRecursion FileApart (filter (stays all) ss)
stays_apart all [] page a h = tt
stays_apart all (s ∷ ss) page a h = step (stays all s) refl (stays_apart all ss (last_page s + 1) a.2 (λ t m l. (h t m l).1))
  where
    step : (b : Bool) → stays all s ≡ b → PairsByRecursion FileApart (filter (stays all) ss) → PairsByRecursion FileApart (cond b (s ∷ filter (stays all) ss) (filter (stays all) ss))
    step true e r =
        let k = stays_parts all s e in
        (stays_apart_from all s ss (h s k.1 k.0).1 (pages_above (last_page s + 1) ss a.2) a.1, r)
    step false e r = r

-- the segments that stay have their bytes past the header
pub stays_past : (all ss : List Segment) → AllByRecursion (λ s. 64 ≤ s.offset) (filter (stays all) ss)
stays_past all [] = tt
stays_past all (s ∷ ss) = step (stays all s) refl (stays_past all ss)
  where
    step : (b : Bool) → stays all s ≡ b → AllByRecursion (λ t. 64 ≤ t.offset) (filter (stays all) ss) → AllByRecursion (λ t. 64 ≤ t.offset) (cond b (s ∷ filter (stays all) ss) (filter (stays all) ss))
    step true e r = let k = stays_parts all s e in ((not_moved all s k.1 k.0).0, r)
    step false e r = r
