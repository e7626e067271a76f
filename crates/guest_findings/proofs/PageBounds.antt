-- Pieces of code meet few pages, and these make few entries of a table.
use Rattle.std.proofs.Common.{◌≡◌, ◌⊎◌, inl, inr, ℕ, suc, ◌+◌, ◌*◌, ◌/◌, ◌<◌, ◌≤◌, Bool, true, false, cond, ◌&&◌, eqb, leb, ltb, List, [], ◌∷◌, length, refl, sym, ◌∙◌, subst, arith}
use Rattle.std.specs.Prelude.{Contains}
use Rattle.std.specs.List.{AllByRecursion}
use Rattle.std.specs.List.Sorted.{IsStrictlyIncreasing}
use Rattle.std.proofs.lemmas.Bool.{and_parts, or_cases, cases_lt, leb-true, ltb-true, eqb-true, eq-eqb, true≢false, false≢true}
use Rattle.page_group.specs.Pages.{holds, is_covered, page_of, IsPageList}
use Rattle.elf_emit.specs.declared.runs.Page.{Page}
use Rattle.elf_emit.specs.declared.runs.Run.{Run}
use Rattle.elf_emit.specs.Job.{Job}
use Rattle.elf_emit.specs.Frames.{others, olds}
use Rattle.elf_emit.specs.Layout.{frame_of, join_page, runs_of, count}
use Rattle.elf_emit.proofs.JobConditions.{rising_tail}
use Rattle.elf_emit.proofs.PageRuns.{count_of}
use Rattle.patch_report.proofs.ListPlaces.{all_from, contains_at}
use Rattle.guest_gen.proofs.StartsAndSites.{Above, above_lower}

-- ---- numbers that rise, among some numbers

-- what ascends strictly rises behind its first number
rest_rises : (x : ℕ) (xs : List ℕ) → IsStrictlyIncreasing (x ∷ xs) → Above (x + 1) xs
rest_rises x [] h = tt
rest_rises x (y ∷ ys) h = let l : x < y = h 0 (omega arith) in (omega arith, rest_rises y ys (rising_tail x (y ∷ ys) h))

-- and as a whole
increasing_rises : (xs : List ℕ) → IsStrictlyIncreasing xs → Above 0 xs
increasing_rises [] h = tt
increasing_rises (x ∷ xs) h = (omega arith, rest_rises x xs h)

-- a number is one of some
abbrev IsOneOf : List ℕ → ℕ → Type 0
IsOneOf [] x = ⊥
IsOneOf (y ∷ ys) x = (x ≡ y) ⊎ IsOneOf ys x

-- the numbers that aren't y
abbrev without : ℕ → List ℕ → List ℕ
without y [] = []
without y (x ∷ xs) = cond (eqb x y) (without y xs) (x ∷ without y xs)

-- they rise
rises_without : (y low : ℕ) (xs : List ℕ) → Above low xs → Above low (without y xs)
rises_without y low [] h = tt
rises_without y low (x ∷ xs) h = by_test (eqb x y) (rises_without y (x + 1) xs h.1)
  where
    by_test : (b : Bool) → Above (x + 1) (without y xs) → Above low (cond b (without y xs) (x ∷ without y xs))
    by_test true k = let l = h.0 in above_lower (x + 1) low (without y xs) (omega arith) k
    by_test false k = (h.0, k)

-- above y none is left out
none_left_out : (y low : ℕ) (xs : List ℕ) → y < low → Above low xs → length (without y xs) ≡ length xs
none_left_out y low [] l h = refl
none_left_out y low (x ∷ xs) l h = by_test (eqb x y) refl (let k = h.0 in none_left_out y (x + 1) xs (omega arith) h.1)
  where
    by_test : (b : Bool) → eqb x y ≡ b → length (without y xs) ≡ length xs
        → length (cond b (without y xs) (x ∷ without y xs)) ≡ length (x ∷ xs)
    by_test true e k = let same : x ≡ y = eqb-true x y e in let m = h.0 in absurd (omega arith)
    by_test false e k = omega arith

-- so one is left out at most
one_left_out : (y low : ℕ) (xs : List ℕ) → Above low xs → length xs ≤ length (without y xs) + 1
one_left_out y low [] h = omega arith
one_left_out y low (x ∷ xs) h = by_test (eqb x y) refl (one_left_out y (x + 1) xs h.1)
  where
    by_test : (b : Bool) → eqb x y ≡ b → length xs ≤ length (without y xs) + 1
        → length (x ∷ xs) ≤ length (cond b (without y xs) (x ∷ without y xs)) + 1
    by_test true e k =
        let same : x ≡ y = eqb-true x y e in
        let n = none_left_out y (x + 1) xs (omega arith) h.1 in
        omega arith
    by_test false e k = omega arith

-- the others are among the others
still_among : (y : ℕ) (ys xs : List ℕ) → AllByRecursion (IsOneOf (y ∷ ys)) xs → AllByRecursion (IsOneOf ys) (without y xs)
still_among y ys [] h = tt
still_among y ys (x ∷ xs) h = by_test (eqb x y) refl h.0 (still_among y ys xs h.1)
  where
    by_test : (b : Bool) → eqb x y ≡ b → (x ≡ y) ⊎ IsOneOf ys x → AllByRecursion (IsOneOf ys) (without y xs)
        → AllByRecursion (IsOneOf ys) (cond b (without y xs) (x ∷ without y xs))
    by_test true e i k = k
    by_test false e (inl s) k = absurd (true≢false (sym (eq-eqb x y s) ∙ e))
    by_test false e (inr i) k = (i, k)

-- numbers that rise are no more than those among which they are
rising_few : (ys xs : List ℕ) (low : ℕ) → Above low xs → AllByRecursion (IsOneOf ys) xs → length xs ≤ length ys
rising_few [] [] low r h = omega arith
rising_few [] (x ∷ xs) low r h = absurd h.0
rising_few (y ∷ ys) xs low r h =
    let k = rising_few ys (without y xs) low (rises_without y low xs r) (still_among y ys xs h) in
    let l = one_left_out y low xs r in
    omega arith

-- ---- pages

-- a piece is no longer than a page
abbrev pub IsShort : ℕ × ℕ → Type 0
IsShort p = p.1 ≤ p.0 + 4096

-- the two pages that each piece can meet
abbrev two_each : List (ℕ × ℕ) → List ℕ
two_each [] = []
two_each (p ∷ ps) = page_of p.0 ∷ (page_of p.0 + 4096) ∷ two_each ps

-- twice as many
two_long : (ps : List (ℕ × ℕ)) → length (two_each ps) ≡ 2 * length ps
two_long [] = refl
two_long (p ∷ ps) = let k = two_long ps in omega arith

-- an address so near above another lies on the page of that, or on the next
near_page : (lo x : ℕ) → lo ≤ x → x < lo + 4096 → (page_of x ≡ page_of lo) ⊎ (page_of x ≡ page_of lo + 4096)
near_page lo x l m = elim (cases_lt (lo / 4096) (x / 4096)) [
  | inl k ↦ inr (omega arith)
  | inr k ↦ inl (omega arith)
]

-- the page of an address that a short piece covers
of_piece : (p : ℕ × ℕ) (ps : List (ℕ × ℕ)) (x : ℕ) → IsShort p → holds x p ≡ true → IsOneOf (two_each (p ∷ ps)) (page_of x)
of_piece p ps x s h =
    let k = and_parts (leb p.0 x) (ltb x p.1) h in
    let lo : p.0 ≤ x = leb-true p.0 x k.0 in
    let hi : x < p.1 = ltb-true x p.1 k.1 in
    elim (near_page p.0 x lo (omega arith)) [ inl e ↦ inl e | inr e ↦ inr (inl e) ]

-- so of all short pieces
of_pieces : (ps : List (ℕ × ℕ)) (x : ℕ) → AllByRecursion IsShort ps → is_covered ps x ≡ true → IsOneOf (two_each ps) (page_of x)
of_pieces [] x s h = absurd (false≢true h)
of_pieces (p ∷ ps) x s h = elim (or_cases (holds x p) (is_covered ps x) h) [
  | inl k ↦ of_piece p ps x s.0 k
  | inr k ↦ inr (inr (of_pieces ps x s.1 k))
]

-- short pieces meet two pages each at most
pub pages_few : (ps : List (ℕ × ℕ)) (pages : List ℕ) → AllByRecursion IsShort ps → IsPageList ps pages → length pages ≤ 2 * length ps
pages_few ps pages s h =
    let own : (page : ℕ) → Contains pages page → IsOneOf (two_each ps) page = λ page c.
    let m = (h.exact page).0 c in subst (IsOneOf (two_each ps)) m.2 (of_pieces ps m.0 s m.1) in
    let all = all_from (IsOneOf (two_each ps)) pages (λ page i. own page (contains_at pages i.0 page i.1)) in
    let k = rising_few (two_each ps) pages 0 (increasing_rises pages h.ascending) all in
    let n = two_long ps in
    omega arith

-- ---- entries

-- one of two lists that are no longer
either_few : (b : Bool) (xs ys : List Run) (n : ℕ) → length xs ≤ n → length ys ≤ n → length (cond b xs ys) ≤ n
either_few true xs ys n l m = l
either_few false xs ys n l m = m

-- one page more makes one run more at most
join_few : (p : Page) (rs : List Run) → length (join_page p rs) ≤ length rs + 1
join_few p [] = omega arith
join_few p (r ∷ rs) =
    either_few (eqb (p.addr + 4096) r.addr && eqb (p.group + 1) r.first)
    (record { addr = p.addr; first = p.group; count = suc r.count } ∷ rs) (record { addr = p.addr; first = p.group; count = 1 } ∷ r ∷ rs)
    (length (r ∷ rs) + 1) (omega arith) (omega arith)

-- pages make no more runs than there are pages
runs_few : (ps : List Page) → length (runs_of ps) ≤ length ps
runs_few [] = omega arith
runs_few (p ∷ ps) = let k = join_few p (runs_of ps) in let r = runs_few ps in omega arith

-- the entries of a job's table, where the original has two
pub count_few : (j : Job) (n : ℕ) → length (others (frame_of j)) ≡ 0 → length (olds (frame_of j)) ≡ 2 → length j.pages ≤ n → count j ≤ n + 4
count_few j n o l p = let k = runs_few j.pages in subst (λ (x : ℕ). x ≤ n + 4) (sym (count_of j)) (omega (arith, k, o, l, p))
