-- An index as ascending pairs of a number and a place: how they are added, and which are those of one number.
use Rattle.std.proofs.Common.{◌≡◌, ℕ, zero, suc, ◌+◌, ◌-◌, ◌*◌, ◌/◌, ◌<◌, ◌≤◌, ◌⊎◌, inl, inr, Bool, true, false, ltb, leb, nat_le, List, [], ◌∷◌, ◌++◌, length, map, take, drop, get_or, eqb, eqb-true, refl, sym, ap, ◌∙◌, subst, arith}
use Rattle.std.specs.Prelude.{slice_index}
use Rattle.std.specs.List.{Contains, dedup, slice_index_or}
use Rattle.std.specs.List.Sorted.{IsNonDecreasingBy, IsPartitionPoint, IsPermutation, IsSorted, IsStrictlyIncreasing}
use Rattle.std.specs.Ordering.{nat_cmp}
use Rattle.std.proofs.lemmas.Bool.{and_parts, cases_lt, ltb-true, ltb-false, leb-true, leb-false}
use Rattle.std.proofs.lemmas.List.{get_or-take, get_or-drop, length-take-le, length-take, length-drop}
use Rattle.std.proofs.lemmas.List.Kept.{Contains-dedup_nat}
use Rattle.std.proofs.lemmas.List.Sorted.{Contains-permutation}
use Rattle.std.proofs.lemmas.List.Elements.{Contains-append_left, Contains-push}
use Rattle.std.proofs.lemmas.Grind.{get_or_default_zero}
use Rattle.std.proofs.lemmas.Map.Keys.{IsStrictlyIncreasing-dedup}
use Rattle.elf_emit.specs.Job.{BytesAt}
use Rattle.elf_emit.specs.declared.runs.Page.{Page}
use Rattle.elf_emit.specs.Index.{pair, meets_page, shows, FindsBefore, ArePairsOf, AddsPairs}
use Rattle.elf_emit.proofs.JobConditions.{all_places, at_mapped}

-- the pairs of a place under the numbers from one up to and without another
pub record AddsBelow (first key place : ℕ) (old new : List ℕ) : Type 0 where
  pub old_ones : (p : ℕ) → Contains old p → Contains new p
  pub new_ones : (n : ℕ) → first ≤ n → n < key → Contains new (pair n place)

-- a list is itself with the pairs of no numbers
pub adds_none : (first place : ℕ) (old : List ℕ) → AddsBelow first first place old old
adds_none first place old = record { old_ones = λ p c. c; new_ones = λ n l m. absurd (omega arith) }

-- with the pair of the next number behind it, a list has the pairs of one number more
pub adds_one : (first key place v : ℕ) (old was new : List ℕ) → v ≡ pair key place → new ≡ was ++ v ∷ [] → AddsBelow first key place old was → AddsBelow first (key + 1) place old new
adds_one first key place v old was new q e h = subst (λ (z : List ℕ). AddsBelow first (key + 1) place old z) (sym e) (record {
  old_ones = λ p c. Contains-append_left was (v ∷ []) p (h.old_ones p c);
  new_ones = λ n l m. elim (cases_lt n key) [
    | inl below ↦ Contains-append_left was (v ∷ []) (pair n place) (h.new_ones n l below)
    | inr here ↦ let s : v ≡ pair n place = (let z : n ≡ key = omega arith in q ∙ ap (λ (x : ℕ). pair x place) (sym z)) in
        subst (λ (x : ℕ). Contains (was ++ v ∷ []) x) s (Contains-push was v)
  ];
})

-- with the pairs below a key past the last number, a list has those of all numbers
pub adds_all : (first last key place : ℕ) (old new : List ℕ) → last + 1 ≤ key → AddsBelow first key place old new → AddsPairs first last place old new
adds_all first last key place old new l h = record { old_ones = h.old_ones; new_ones = λ n a b. h.new_ones n a (omega arith) }

-- sorted pairs have all that there were
pub sorted_has : (old sorted new : List ℕ) → IsPermutation old sorted → new ≡ dedup eqb sorted → (p : ℕ) → Contains old p → Contains new p
sorted_has old sorted new h e p c = subst (λ (z : List ℕ). Contains z p) (sym e) (Contains-dedup_nat sorted p (Contains-permutation old sorted p h c))

-- a sorted list without its repetitions strictly increases
pub sorted_rises : (sorted new : List ℕ) → IsSorted nat_cmp sorted → new ≡ dedup eqb sorted → IsStrictlyIncreasing new
sorted_rises sorted new s e = subst (λ (z : List ℕ). IsStrictlyIncreasing z) (sym e) (IsStrictlyIncreasing-dedup sorted s)

-- with the pairs of a place under all numbers that it has to do with, all places up to and with it are found
pub finds_more : {X : Type 0} (has : X → ℕ → Bool) (items : List X) (place first last : ℕ) (old new : List ℕ) → AddsPairs first last place old new
    → ((d : X) (key : ℕ) → has (slice_index_or items place d) key ≡ true → (first ≤ key) × (key ≤ last)) → FindsBefore has items place old → FindsBefore has items (place + 1) new
finds_more has items place first last old new a r h key n d l t = elim (cases_lt n place) [
  | inl below ↦ a.old_ones (pair key n) (h key n d below t)
  | inr here ↦
      let e : place ≡ n = omega arith in
      let q = r d key (subst (λ (x : ℕ). has (slice_index_or items x d) key ≡ true) (sym e) t) in
      subst (λ (x : ℕ). Contains new (pair key x)) e (a.new_ones key q.0 q.1)
]

-- bytes meet the pages from that of their first address to that of the address behind them
pub met_between : (w : BytesAt) (key : ℕ) → meets_page w key ≡ true → (w.addr / 4096 ≤ key) × (key ≤ (w.addr + length w.now) / 4096)
met_between w key t = let k = and_parts (nat_le (w.addr / 4096) key) (nat_le key ((w.addr + length w.now) / 4096)) t in (leb-true _ _ k.0, leb-true _ _ k.1)

-- the pairs of a number lie between two places
rises_within : (xs : List ℕ) (i j : ℕ) → i ≤ length xs → IsStrictlyIncreasing xs → IsStrictlyIncreasing (take j (drop i xs))
rises_within xs i j b r k l =
    let m = length-take j (drop i xs) in
    let n = length-drop i xs in
    let p : k + 1 < length (drop i xs) = omega arith in
    let q : k + 1 < j = omega arith in
    let e : i + k + 1 ≡ i + (k + 1) = omega arith in
    let s : slice_index xs (i + k) < slice_index xs (i + (k + 1)) = subst (λ (x : ℕ). slice_index xs (i + k) < slice_index xs x) e (r (i + k) (omega arith)) in
    let x : slice_index (take j (drop i xs)) k ≡ slice_index xs (i + k) = get_or-take j (drop i xs) k 0 (omega arith) ∙ get_or-drop i xs k 0 in
    let y : slice_index (take j (drop i xs)) (k + 1) ≡ slice_index xs (i + (k + 1)) = get_or-take j (drop i xs) (k + 1) 0 q ∙ get_or-drop i xs (k + 1) 0 in
    omega arith

-- what lies between a number's two partition points of strictly increasing pairs are its pairs
pub pairs_between : (key : ℕ) (xs : List ℕ) (i j : ℕ) → i ≤ length xs → j ≤ length (drop i xs) → IsStrictlyIncreasing xs
    → IsPartitionPoint (λ y. ltb y (key * 0x100000000) ≡ true) (λ y. ltb y (key * 0x100000000) ≡ false) xs i
    → IsPartitionPoint (λ y. leb y (key * 0x100000000 + 0xffffffff) ≡ true) (λ y. leb y (key * 0x100000000 + 0xffffffff) ≡ false) (drop i xs) j
    → ArePairsOf key xs (take j (drop i xs))
pairs_between key xs i j bound more r a b = record {
  ascending = rises_within xs i j bound r;
  above = all_places (λ p. key * 0x100000000 ≤ p) (take j (drop i xs)) (λ k d l.
      let m = length-take j (drop i xs) in
      let n = length-drop i xs in
      let e = get_or-take j (drop i xs) k d (omega arith) ∙ get_or-drop i xs k d in
      subst (λ (x : ℕ). key * 0x100000000 ≤ x) (sym e) (ltb-false _ _ (a.1 (i + k) d (omega arith) (omega arith))));
  each = λ place l c.
      let v : ℕ = pair key place in
      let k : ℕ = c.0 in
      let kl : k < length xs = c.1 in
      let kv : get_or xs k v ≡ v = c.2 in
      let n = length-drop i xs in
      let i_le : i ≤ k = first_place v k kl kv (omega arith) (cases_lt k i) in
      let e : i + (k - i) ≡ k = omega arith in
      let dv : get_or (drop i xs) (k - i) v ≡ v = get_or-drop i xs (k - i) v ∙ ap (λ (x : ℕ). get_or xs x v) e ∙ kv in
      let lt : k - i < j = last_place v (k - i) (omega arith) dv (omega arith) (cases_lt (k - i) j) in
      (k - i, (let m = length-take-le j (drop i xs) more in omega arith), get_or-take j (drop i xs) (k - i) v lt ∙ dv);
}
  where
    first_place : (v k : ℕ) → k < length xs → get_or xs k v ≡ v → key * 0x100000000 ≤ v → (k < i) ⊎ (i ≤ k) → i ≤ k
    first_place v k l e m (inr p) = p
    first_place v k l e m (inl p) = let q = ltb-true _ _ (a.0 k v (omega arith) p) in absurd (omega arith)

    last_place : (v k : ℕ) → k < length (drop i xs) → get_or (drop i xs) k v ≡ v → v ≤ key * 0x100000000 + 0xffffffff → (k < j) ⊎ (j ≤ k) → k < j
    last_place v k l e m (inl p) = p
    last_place v k l e m (inr p) = let q = leb-false _ _ (b.1 k v p l) in absurd (omega arith)

rise : (xs : List ℕ) → IsStrictlyIncreasing xs → (i k : ℕ) → i + k < length xs → slice_index xs i ≤ slice_index xs (i + k)
rise xs h i zero l = let e : i + 0 ≡ i = omega arith in subst (λ (x : ℕ). slice_index xs i ≤ slice_index xs x) (sym e) (omega arith)
rise xs h i (suc k) l =
    let e : i + k + 1 ≡ i + suc k = omega arith in
    let r = rise xs h i k (omega arith) in
    let s : slice_index xs (i + k) < slice_index xs (i + suc k) = subst (λ (x : ℕ). slice_index xs (i + k) < slice_index xs x) e (h (i + k) (omega arith)) in
    omega arith

-- a strictly increasing list doesn't decrease
pub non_decreasing : (xs : List ℕ) → IsStrictlyIncreasing xs → IsNonDecreasingBy (λ y. y) xs
non_decreasing xs h i j d p l =
    let e : i + (j - i) ≡ j = omega arith in
    let r = rise xs h i (j - i) (omega arith) in
    let x = get_or_default_zero xs i d (omega arith) in
    let y = get_or_default_zero xs j d l in
    let q : slice_index xs i ≤ slice_index xs j = subst (λ (z : ℕ). slice_index xs i ≤ slice_index xs z) e r in
    omega arith

-- where the part behind the first place is given, its elements up to the second place are the key's pairs
pub pairs_from : (key : ℕ) (xs rest : List ℕ) (i j : ℕ) → i ≤ length xs → j ≤ length rest → rest ≡ drop i xs → IsStrictlyIncreasing xs
    → IsPartitionPoint (λ y. ltb y (key * 0x100000000) ≡ true) (λ y. ltb y (key * 0x100000000) ≡ false) xs i
    → IsPartitionPoint (λ y. leb y (key * 0x100000000 + 0xffffffff) ≡ true) (λ y. leb y (key * 0x100000000 + 0xffffffff) ≡ false) rest j
    → ArePairsOf key xs (take j rest)
pairs_from key xs rest i j bound more e r a b =
    let P : List ℕ → Type 0 = λ z. ArePairsOf key xs (take j z) in
    let Q : List ℕ → Type 0 = λ z. IsPartitionPoint (λ y. leb y (key * 0x100000000 + 0xffffffff) ≡ true) (λ y. leb y (key * 0x100000000 + 0xffffffff) ≡ false) z j in
    subst P (sym e) (pairs_between key xs i j bound (let z = ap length e in omega arith) r a (subst Q e b))

same_at : {X : Type 0} (xs : List X) (i : ℕ) (d e : X) → i < length xs → get_or xs i d ≡ get_or xs i e
same_at [] i d e l = absurd (omega arith)
same_at (x ∷ xs) zero d e l = refl
same_at (x ∷ xs) (suc i) d e l = same_at xs i d e (omega arith)

-- with its pairs from its first page to its last, one write or piece of code more is found
pub bytes_more : {X : Type 0} (f : X → BytesAt) (xs : List X) (place first last : ℕ) (x : X) (old new : List ℕ) → place < length xs → x ≡ get_or xs place x
    → first ≡ (f x).addr / 4096 → last ≡ ((f x).addr + length (f x).now) / 4096 → AddsPairs first last place old new
    → FindsBefore meets_page (map f xs) place old → FindsBefore meets_page (map f xs) (place + 1) new
bytes_more f xs place first last x old new l q e g a h = finds_more meets_page (map f xs) place first last old new a
    (λ d key t.
    let m = met_between (f x) key (subst (λ w. meets_page w key ≡ true) (at_mapped f xs place x d l ∙ ap f (sym q)) t) in
    let u = m.0 in let v = m.1 in (omega arith, omega arith)) h

-- with the pair of its group, one page more is found
pub pages_more : (ps : List Page) (place : ℕ) (none : Page) (old new : List ℕ) → place < length ps → AddsPairs (get_or ps place none).group (get_or ps place none).group place old new
    → FindsBefore shows ps place old → FindsBefore shows ps (place + 1) new
pages_more ps place none old new l a h = finds_more shows ps place (get_or ps place none).group (get_or ps place none).group old new a
    (λ d key t.
    let e = eqb-true _ _ (subst (λ (r : Page). shows r key ≡ true) (same_at ps place d none l) t) in (omega arith, omega arith)) h
