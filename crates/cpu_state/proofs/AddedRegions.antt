-- A region added to memory: which region it meets, and the map and the order of the regions with it.
use Rattle.std.proofs.Common.{◌≡◌, ℕ, zero, suc, ◌+◌, ◌-◌, ◌^◌, ◌<◌, ◌≤◌, Bool, true, false, cond, ◌&&◌, if◌then◌else◌, List, [], ◌∷◌, length, get_or, insert, nat_le, nat_lt, slice_index, Option, Some, None, option_map, refl, sym, ap, ◌∙◌, inl, inr, arith, true≢false}
use Rattle.std.proofs.Math.Path.{fun_ext}
use Rattle.std.proofs.lemmas.Bool.{cases_Bool, ltb-true, cond-true, cond-false}
use Rattle.std.proofs.lemmas.Bool.Decides.{nat_tests}
use Rattle.pun_base.specs.Memory.{Cell, Bytes, joined, or_else}
use Rattle.cpu_state.specs.declared.regions.MemoryRegion.{MemoryRegion}
use Rattle.cpu_state.specs.Regions.{holds, cell_in, cell_at, Ascending, begun, place_of}
use Rattle.cpu_state.specs.Adding.{laid, meets, lower, least_met, IsFree}
use Rattle.cpu_state.proofs.RegionCells.{below_all, found_later, lacks_here, lacks_later}

-- regions at or above the end of a range don't meet it, and each region begins at or above the lowest
pub none_above : (low lo hi : ℕ) (rs : List MemoryRegion) → Ascending low rs → hi ≤ low → least_met lo hi rs ≡ None
none_above low lo hi [] up l = refl
none_above low lo hi (r ∷ rs) up l =
    let p = up.0 in
    let m : meets lo hi r ≡ false = grind (arith, nat_tests) in
    cond-false (meets lo hi r) _ _ m ∙ none_above (r.lo + length r.bytes.items) lo hi rs up.2 (omega arith)

lower_first : (low lo hi a : ℕ) (rs : List MemoryRegion) → Ascending low rs → a ≤ low → lower a (least_met lo hi rs) ≡ Some a
lower_first low lo hi a [] up l = refl
lower_first low lo hi a (r ∷ rs) up l =
    let p = up.0 in
    let k = lower_first (r.lo + length r.bytes.items) lo hi r.lo rs up.2 (omega arith) in
    let s = lower_first (r.lo + length r.bytes.items) lo hi a rs up.2 (omega arith) in
    elim (cases_Bool (meets lo hi r)) [
      | inl m ↦ ap (lower a) (cond-true (meets lo hi r) _ _ m ∙ k) ∙ ap Some (cond-true (nat_le a r.lo) a r.lo (grind (arith, nat_tests)))
      | inr m ↦ ap (lower a) (cond-false (meets lo hi r) _ _ m) ∙ s
    ]

found_above : (low a i : ℕ) (rs : List MemoryRegion) → Ascending low rs → place_of rs a ≡ Some i → low ≤ a
found_above low a i rs up e = elim (cases_Bool (nat_lt a low)) [
  | inl h ↦ let n = below_all low rs a up (ltb-true a low h) in absurd (some_none (sym e ∙ n))
  | inr h ↦ grind (arith, nat_tests)
]
  where
    some_none : Some i ≡ None → ⊥
    some_none q = cc

-- a region that ends at or below the low end isn't met, nor one that begins at or above the high end
ends_below : (lo hi : ℕ) (r : MemoryRegion) → r.lo + length r.bytes.items ≤ lo → meets lo hi r ≡ false
ends_below lo hi r l = grind (arith, nat_tests)

-- a region that holds the low end is the least that is met
pub met_at : (low lo hi i : ℕ) (rs : List MemoryRegion) (d : MemoryRegion) → Ascending low rs → lo < hi → place_of rs lo ≡ Some i → least_met lo hi rs ≡ Some (get_or rs i d).lo
met_at low lo hi i [] d up l e = absurd cc
met_at low lo hi i (r ∷ rs) d up l e = elim (cases_Bool (holds r lo)) [
  | inl h ↦
      let z : Some 0 ≡ Some i = sym (cond-true (holds r lo) (Some 0) (option_map suc (place_of rs lo)) h) ∙ e in
      let n : i ≡ 0 = cc in
      let m : meets lo hi r ≡ true = grind (arith, nat_tests) in
      rw n (cond-true (meets lo hi r) _ _ m ∙ lower_first (r.lo + length r.bytes.items) lo hi r.lo rs up.2 (omega arith))
  | inr h ↦
      let q = found_later (place_of rs lo) i (sym (cond-false (holds r lo) (Some 0) (option_map suc (place_of rs lo)) h) ∙ e) in
      let b = found_above (r.lo + length r.bytes.items) lo q.0 rs up.2 q.1 in
      rw q.2 (cond-false (meets lo hi r) _ _ (ends_below lo hi r b) ∙ met_at (r.lo + length r.bytes.items) lo hi q.0 rs d up.2 l q.1)
]

-- what doesn't hold the low end and begins at or below it ends at or below it
ends_by : (r : MemoryRegion) (a : ℕ) → holds r a ≡ false → nat_le r.lo a ≡ true → r.lo + length r.bytes.items ≤ a
ends_by r a h l = grind (arith, nat_tests)

-- where none holds it, the first region above the low end is the least that is met, if it begins below the high end
pub met_next : (low lo hi n : ℕ) (rs : List MemoryRegion) (d : MemoryRegion) → Ascending low rs → lo < hi → place_of rs lo ≡ None → begun rs lo ≡ n → n < length rs → (get_or rs n d).lo < hi
    → least_met lo hi rs ≡ Some (get_or rs n d).lo
met_next low lo hi n [] d up l e b s t = absurd (omega arith)
met_next low lo hi zero (r ∷ rs) d up l e b s t =
    let f : nat_le r.lo lo ≡ false = grind (arith, nat_tests) in
    let p = up.1 in
    let m : meets lo hi r ≡ true = grind (arith, nat_tests) in
    cond-true (meets lo hi r) _ _ m ∙ lower_first (r.lo + length r.bytes.items) lo hi r.lo rs up.2 (omega arith)
met_next low lo hi (suc n) (r ∷ rs) d up l e b s t =
    let q = lacks_here (holds r lo) (option_map suc (place_of rs lo)) e in
    let f : nat_le r.lo lo ≡ true = grind (arith, nat_tests) in
    let c : begun rs lo ≡ n = grind (arith, nat_tests) in
    cond-false (meets lo hi r) _ _ (ends_below lo hi r (ends_by r lo q.0 f))
    ∙ met_next (r.lo + length r.bytes.items) lo hi n rs d up.2 l (lacks_later (place_of rs lo) q.1) c (omega arith) t

-- and if it doesn't, none is met
pub none_met : (low lo hi n : ℕ) (rs : List MemoryRegion) → Ascending low rs → place_of rs lo ≡ None → begun rs lo ≡ n → ((d : MemoryRegion) → n < length rs → hi ≤ (get_or rs n d).lo) → least_met lo hi rs ≡ None
none_met low lo hi n [] up e b t = refl
none_met low lo hi zero (r ∷ rs) up e b t =
    let a : hi ≤ r.lo = t r (omega arith) in
    let m : meets lo hi r ≡ false = grind (arith, nat_tests) in
    cond-false (meets lo hi r) _ _ m ∙ none_above (r.lo + length r.bytes.items) lo hi rs up.2 (omega arith)
none_met low lo hi (suc n) (r ∷ rs) up e b t =
    let q = lacks_here (holds r lo) (option_map suc (place_of rs lo)) e in
    let f : nat_le r.lo lo ≡ true = grind (arith, nat_tests) in
    let c : begun rs lo ≡ n = grind (arith, nat_tests) in
    cond-false (meets lo hi r) _ _ (ends_below lo hi r (ends_by r lo q.0 f))
    ∙ none_met (r.lo + length r.bytes.items) lo hi n rs up.2 (lacks_later (place_of rs lo) q.1) c (λ d s. t d (omega (arith, s)))

-- the new region holds no address that is held
met_none : (t : Bool) (a : ℕ) (o : Option ℕ) → cond t (lower a o) o ≡ None → (t ≡ false) × (o ≡ None)
met_none true a None e = absurd cc
met_none true a (Some b) e = absurd cc
met_none false a o e = (refl, e)

apart : (q : MemoryRegion) (rs : List MemoryRegion) (x : ℕ) → least_met q.lo (q.lo + length q.bytes.items) rs ≡ None → holds q x ≡ true → cell_at rs x ≡ None
apart q [] x e h = refl
apart q (r ∷ rs) x e h =
    let m = met_none (meets q.lo (q.lo + length q.bytes.items) r) r.lo (least_met q.lo (q.lo + length q.bytes.items) rs) e in
    cond-false (holds r x) _ _ (other r m.0) ∙ apart q rs x m.1 h
  where
    other : (r : MemoryRegion) → meets q.lo (q.lo + length q.bytes.items) r ≡ false → holds r x ≡ false
    other r n = grind (arith, nat_tests)

both : (t : Bool) (c o : Option Cell) → (t ≡ true → o ≡ None) → cond t c o ≡ or_else o (cond t c None)
both true c o f = rw (f refl) refl
both false c None f = refl
both false c (Some d) f = refl

later : (t : Bool) (c : Cell) (o p z : Option Cell) → z ≡ or_else o p → cond t (Some c) z ≡ or_else (cond t (Some c) o) p
later true c o p z e = refl
later false c o p z e = e

-- at each address the regions with a new one that meets none hold what they held, or what the new one holds
pub inserted_at : (n : ℕ) (q : MemoryRegion) (rs : List MemoryRegion) (x : ℕ) → least_met q.lo (q.lo + length q.bytes.items) rs ≡ None → cell_at (insert rs n q) x ≡ joined (cell_at rs) (cell_at (q ∷ [])) x
inserted_at n q [] x e = empty n
  where
    empty : (n : ℕ) → cell_at (insert [] n q) x ≡ cell_at (q ∷ []) x
    empty zero = refl
    empty (suc n) = refl
inserted_at zero q (r ∷ rs) x e = both (holds q x) (Some (cell_in q x)) (cell_at (r ∷ rs) x) (λ h. apart q (r ∷ rs) x e h)
inserted_at (suc n) q (r ∷ rs) x e =
    let m = met_none (meets q.lo (q.lo + length q.bytes.items) r) r.lo (least_met q.lo (q.lo + length q.bytes.items) rs) e in
    later (holds r x) (cell_in r x) (cell_at rs x) (cell_at (q ∷ []) x) (cell_at (insert rs n q) x) (inserted_at n q rs x m.1)

-- so the map is that of the regions with the new bytes joined to it
pub inserted : (n lo perms : ℕ) (bytes : List ℕ) (q : MemoryRegion) (rs : List MemoryRegion) → q.lo ≡ lo → q.perms ≡ perms → q.bytes.items ≡ bytes → least_met lo (lo + length bytes) rs ≡ None
    → cell_at (insert rs n q) ≡ joined (cell_at rs) (laid lo perms bytes)
inserted n lo perms bytes q rs a b c e =
    let f : least_met q.lo (q.lo + length q.bytes.items) rs ≡ None = rw (a, c) e in
    fun_ext (λ x. inserted_at n q rs x f) ∙ ap (λ (m : Bytes). joined (cell_at rs) m) (λ i x. if nat_le (a i) x && nat_lt (x - a i) (length (c i)) then Some (record { byte = slice_index (c i) (x - a i); perms = b i }) else None)

-- the regions ascend with the new one at its place
pub inserted_ascending : (low n : ℕ) (q : MemoryRegion) (rs : List MemoryRegion) → Ascending low rs → low ≤ q.lo → 0 < length q.bytes.items → q.lo + length q.bytes.items ≤ 2 ^ 64
    → place_of rs q.lo ≡ None → begun rs q.lo ≡ n → least_met q.lo (q.lo + length q.bytes.items) rs ≡ None → Ascending low (insert rs n q)
inserted_ascending low zero q [] up l s t p b e = (l, s, t)
inserted_ascending low (suc n) q [] up l s t p b e = absurd (omega arith)
inserted_ascending low zero q (r ∷ rs) up l s t p b e =
    let m = met_none (meets q.lo (q.lo + length q.bytes.items) r) r.lo (least_met q.lo (q.lo + length q.bytes.items) rs) e in
    let f : nat_le r.lo q.lo ≡ false = grind (arith, nat_tests) in
    let u = up.1 in
    let a : q.lo + length q.bytes.items ≤ r.lo = grind (arith, nat_tests, m.0) in
    (l, s, (a, up.1, up.2))
inserted_ascending low (suc n) q (r ∷ rs) up l s t p b e =
    let m = met_none (meets q.lo (q.lo + length q.bytes.items) r) r.lo (least_met q.lo (q.lo + length q.bytes.items) rs) e in
    let h = lacks_here (holds r q.lo) (option_map suc (place_of rs q.lo)) p in
    let f : nat_le r.lo q.lo ≡ true = grind (arith, nat_tests) in
    let c : begun rs q.lo ≡ n = grind (arith, nat_tests) in
    (up.0, up.1, inserted_ascending (r.lo + length r.bytes.items) n q rs up.2 (ends_by r q.lo h.0 f) s t (lacks_later (place_of rs q.lo) h.1) c m.1)

-- where none is met, none holds the low end
meets_it : (lo hi : ℕ) (r : MemoryRegion) → lo < hi → holds r lo ≡ true → meets lo hi r ≡ true
meets_it lo hi r l h = grind (arith, nat_tests)

-- where no region is met, none holds the low end
pub none_holds : (lo hi : ℕ) (rs : List MemoryRegion) → lo < hi → least_met lo hi rs ≡ None → place_of rs lo ≡ None
none_holds lo hi [] l e = refl
none_holds lo hi (r ∷ rs) l e =
    let m = met_none (meets lo hi r) r.lo (least_met lo hi rs) e in
    elim (cases_Bool (holds r lo)) [
      | inl h ↦ absurd (true≢false (sym (meets_it lo hi r l h) ∙ m.0))
      | inr h ↦ cond-false (holds r lo) (Some 0) (option_map suc (place_of rs lo)) h ∙ ap (option_map suc) (none_holds lo hi rs l m.1)
    ]

-- where none is met, no byte is held in the range
free_of : (lo hi : ℕ) (r : MemoryRegion) (a : ℕ) → meets lo hi r ≡ false → lo ≤ a → a < hi → holds r a ≡ false
free_of lo hi r a m l u = grind (arith, nat_tests)

-- where none is met, no byte is held in the range
pub free : (lo hi : ℕ) (rs : List MemoryRegion) → least_met lo hi rs ≡ None → IsFree (cell_at rs) lo hi
free lo hi [] e = λ a l u. refl
free lo hi (r ∷ rs) e = λ a l u.
    let m = met_none (meets lo hi r) r.lo (least_met lo hi rs) e in
    cond-false (holds r a) _ _ (free_of lo hi r a m.0 l u) ∙ free lo hi rs m.1 a l u

-- and where one is met, a byte is
pub record Shares (lo hi : ℕ) (r : MemoryRegion) : Type 0 where
  pub addr : ℕ
  pub low : lo ≤ addr
  pub high : addr < hi
  pub held : holds r addr ≡ true

shares : (lo hi : ℕ) (r : MemoryRegion) → lo < hi → 0 < length r.bytes.items → meets lo hi r ≡ true → Shares lo hi r
shares lo hi r l n m = elim (cases_Bool (nat_le r.lo lo)) [
  | inl h ↦ record { addr = lo; low = omega arith; high = l; held = grind (arith, nat_tests) }
  | inr h ↦ record { addr = r.lo; low = grind (arith, nat_tests); high = grind (arith, nat_tests); held = grind (arith, nat_tests) }
]

held_none : (t : Bool) (c : Cell) (o : Option Cell) → cond t (Some c) o ≡ None → (t ≡ false) × (o ≡ None)
held_none true c o e = absurd cc
held_none false c o e = (refl, e)

-- where a region is met, some byte is held in the range
pub taken : (low lo hi least : ℕ) (rs : List MemoryRegion) → Ascending low rs → lo < hi → least_met lo hi rs ≡ Some least → IsFree (cell_at rs) lo hi → ⊥
taken low lo hi least [] up l e f = absurd cc
taken low lo hi least (r ∷ rs) up l e f = elim (cases_Bool (meets lo hi r)) [
  | inl m ↦
      let s = shares lo hi r l up.1 m in
      let n = held_none (holds r s.addr) (cell_in r s.addr) (cell_at rs s.addr) (f s.addr s.low s.high) in
      true≢false (sym s.held ∙ n.0)
  | inr m ↦
      taken (r.lo + length r.bytes.items) lo hi least rs up.2 l (sym (cond-false (meets lo hi r) _ _ m) ∙ e)
      (λ a p q. (held_none (holds r a) (cell_in r a) (cell_at rs a) (f a p q)).1)
]
