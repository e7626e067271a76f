-- The map that a list of regions stands for: which region holds an address, and one byte changed.
use Rattle.std.proofs.Common.{◌≡◌, ℕ, zero, suc, ◌+◌, ◌-◌, ◌*◌, ◌/◌, ◌%◌, ◌^◌, ◌<◌, ◌≤◌, Bool, true, false, cond, List, [], ◌∷◌, length, get_or, set, eqb, leb, ltb, nat_le, Option, Some, None, option_map, refl, sym, ap, ◌∙◌, subst, inl, inr, arith, length-set, sub-one, pow-add, pow_mono, lt_of_lt_of_le, eqb-true, ne_eqb, eq-eqb, true≢false}
use Rattle.std.proofs.Math.Path.{fun_ext}
use Rattle.std.proofs.Math.Seq.{map-set_same}
use Rattle.std.proofs.lemmas.Bool.{and_parts, cases_Bool, cases_eq, ltb-true, leb-true, cond-true, cond-false}
use Rattle.std.proofs.lemmas.Bool.Decides.{nat_tests}
use Rattle.std.proofs.lemmas.Grind.{common_steps}
use Rattle.pun_base.specs.Memory.{Cell, Bytes}
use Rattle.cpu_state.specs.declared.regions.MemoryRegion.{MemoryRegion}
use Rattle.cpu_state.specs.Bytes.{advanced, allows, with_byte, lacking, put, put_number}
use Rattle.cpu_state.specs.Regions.{holds, cell_in, cell_at, Ascending, begun, extents, place_of}

-- below the first region nothing is held
pub below_all : (low : ℕ) (rs : List MemoryRegion) (a : ℕ) → Ascending low rs → a < low → place_of rs a ≡ None
below_all low [] a up l = refl
below_all low (r ∷ rs) a up l =
    let p = up.0 in
    let h : holds r a ≡ false = grind (arith, nat_tests) in
    let k = below_all (r.lo + length r.bytes.items) rs a up.2 (omega arith) in
    cond-false (holds r a) (Some 0) (option_map suc (place_of rs a)) h ∙ ap (option_map suc) k

-- where no region begins at or below the address, none holds it
pub none_begun : (low : ℕ) (rs : List MemoryRegion) (a : ℕ) → Ascending low rs → begun rs a ≡ 0 → place_of rs a ≡ None
none_begun low [] a up e = refl
none_begun low (r ∷ rs) a up e =
    let b : nat_le r.lo a ≡ false = grind (arith, nat_tests) in
    let h : holds r a ≡ false = grind (arith, nat_tests) in
    let l : a < r.lo = grind (arith, nat_tests) in
    let k = below_all (r.lo + length r.bytes.items) rs a up.2 (omega arith) in
    cond-false (holds r a) (Some 0) (option_map suc (place_of rs a)) h ∙ ap (option_map suc) k

-- a region that ends at or below an address doesn't hold it
pub ends_before : (r : MemoryRegion) (a : ℕ) → r.lo + length r.bytes.items ≤ a → holds r a ≡ false
ends_before r a l = grind (arith, nat_tests)

-- what begins above a region that begins at or below the address ends it before
head_begun : (low : ℕ) (rs : List MemoryRegion) (a n : ℕ) → Ascending low rs → begun rs a ≡ suc n → low ≤ a
head_begun low [] a n up e = absurd (omega arith)
head_begun low (r ∷ rs) a n up e = let p = up.0 in grind (arith, nat_tests)

-- the region that holds an address is the last of those that begin at or below it
pub last_begun : (low : ℕ) (rs : List MemoryRegion) (a n : ℕ) (d : MemoryRegion) → Ascending low rs → begun rs a ≡ suc n → place_of rs a ≡ cond (holds (get_or rs n d) a) (Some n) None
last_begun low [] a n d up e = absurd (omega arith)
last_begun low (r ∷ rs) a zero d up e =
    let b : begun rs a ≡ 0 = grind (arith, nat_tests) in
    let k = none_begun (r.lo + length r.bytes.items) rs a up.2 b in
    ap (λ o. cond (holds r a) (Some 0) (option_map suc o)) k
last_begun low (r ∷ rs) a (suc n) d up e =
    let b : begun rs a ≡ suc n = grind (arith, nat_tests) in
    let h = ends_before r a (head_begun (r.lo + length r.bytes.items) rs a n up.2 b) in
    let k = last_begun (r.lo + length r.bytes.items) rs a n d up.2 b in
    cond-false (holds r a) (Some 0) (option_map suc (place_of rs a)) h ∙ ap (option_map suc) k ∙ lifted (holds (get_or rs n d) a)
  where
    lifted : (t : Bool) → option_map suc (cond t (Some n) None) ≡ cond t (Some (suc n)) None
    lifted true = refl
    lifted false = refl

-- at the place that is found the region holds the address, and its byte is the map's
pub record Found (rs : List MemoryRegion) (a i : ℕ) (d : MemoryRegion) : Type 0 where
  pub bound : i < length rs
  pub holds_it : holds (get_or rs i d) a ≡ true
  pub cell : cell_at rs a ≡ Some (cell_in (get_or rs i d) a)

-- a place that is found behind the first one is one more than a place in the rest
pub found_later : (o : Option ℕ) (i : ℕ) → option_map suc o ≡ Some i → (j : ℕ) × (o ≡ Some j) × (i ≡ suc j)
found_later None i e = absurd cc
found_later (Some j) i e = (j, refl, cc)

-- the region at the place that is found holds the address, and its byte is the map's
pub found : (rs : List MemoryRegion) (a i : ℕ) (d : MemoryRegion) → place_of rs a ≡ Some i → Found rs a i d
found [] a i d e = absurd cc
found (r ∷ rs) a i d e = elim (cases_Bool (holds r a)) [
  | inl h ↦
      let z : Some 0 ≡ Some i = sym (cond-true (holds r a) (Some 0) (option_map suc (place_of rs a)) h) ∙ e in
      let n : i ≡ 0 = cc in
      rw n (record { bound = omega arith; holds_it = h; cell = cond-true (holds r a) _ _ h })
  | inr h ↦
      let q = found_later (place_of rs a) i (sym (cond-false (holds r a) (Some 0) (option_map suc (place_of rs a)) h) ∙ e) in
      let k = found rs a q.0 d q.1 in
      let l = k.bound in
      rw q.2 (record { bound = omega arith; holds_it = k.holds_it; cell = cond-false (holds r a) _ _ h ∙ k.cell })
]

-- where nothing is found behind the first, nothing is found in the rest
pub lacks_later : (o : Option ℕ) → option_map suc o ≡ None → o ≡ None
lacks_later None e = refl
lacks_later (Some j) e = absurd cc

-- where nothing is found, neither the first one fits nor is one found behind it
pub lacks_here : (t : Bool) (o : Option ℕ) → cond t (Some 0) o ≡ None → (t ≡ false) × (o ≡ None)
lacks_here true o e = absurd cc
lacks_here false o e = (refl, e)

-- where no region is found, the map holds no byte
pub not_found : (rs : List MemoryRegion) (a : ℕ) → place_of rs a ≡ None → cell_at rs a ≡ None
not_found [] a e = refl
not_found (r ∷ rs) a e =
    let q = lacks_here (holds r a) (option_map suc (place_of rs a)) e in
    cond-false (holds r a) _ _ q.0 ∙ not_found rs a (lacks_later (place_of rs a) q.1)

-- a region with one byte changed
pub record Changes (r r' : MemoryRegion) (a b : ℕ) : Type 0 where
  pub lo : r'.lo ≡ r.lo
  pub perms : r'.perms ≡ r.perms
  pub bytes : r'.bytes.items ≡ set r.bytes.items (a - r.lo) b

same_length : (r r' : MemoryRegion) (a b : ℕ) → Changes r r' a b → length r'.bytes.items ≡ length r.bytes.items
same_length r r' a b c = ap length c.bytes ∙ length-set r.bytes.items (a - r.lo) b

same_holds : (r r' : MemoryRegion) (a b x : ℕ) → Changes r r' a b → holds r' x ≡ holds r x
same_holds r r' a b x c = let l = same_length r r' a b c in grind (arith, c.lo)

byte_changed : (bs bs' : List ℕ) (lo lo' a b x : ℕ) → lo' ≡ lo → bs' ≡ set bs (a - lo) b → lo ≤ a → a - lo < length bs → lo ≤ x → get_or bs' (x - lo') 0 ≡ cond (eqb x a) b (get_or bs (x - lo) 0)
byte_changed bs bs' lo lo' a b x e f la la' lx = grind (arith, common_steps, nat_tests)

cell_join : (t : Bool) (y b z p p' : ℕ) → y ≡ cond t b z → p' ≡ p → ◌≡◌ {A = Option Cell} (Some (record { byte = y; perms = p' })) (cond t (Some (record { byte = b; perms = p })) (Some (record { byte = z; perms = p })))
cell_join true y b z p p' e f = cc
cell_join false y b z p p' e f = cc

same_cell : (r r' : MemoryRegion) (a b x : ℕ) → Changes r r' a b → holds r a ≡ true → holds r x ≡ true → Some (cell_in r' x) ≡ cond (eqb x a) (with_byte b (Some (cell_in r x))) (Some (cell_in r x))
same_cell r r' a b x c h k =
    let ha = and_parts (leb r.lo a) (ltb (a - r.lo) (length r.bytes.items)) h in
    let hx = and_parts (leb r.lo x) (ltb (x - r.lo) (length r.bytes.items)) k in
    cell_join (eqb x a) _ b _ r.perms r'.perms (byte_changed r.bytes.items r'.bytes.items r.lo r'.lo a b x c.lo c.bytes (leb-true _ _ ha.0) (ltb-true _ _ ha.1) (leb-true _ _ hx.0)) c.perms

pick_here : (h t : Bool) (c c' o : Option Cell) (b : ℕ) → (h ≡ true → c' ≡ cond t (with_byte b c) c) → (h ≡ false → t ≡ false) → cond h c' o ≡ cond t (with_byte b (cond h c o)) (cond h c o)
pick_here true t c c' o b f g = f refl
pick_here false t c c' o b f g = rw (g refl) refl

pick_later : (h t : Bool) (c o o' : Option Cell) (b : ℕ) → o' ≡ cond t (with_byte b o) o → (t ≡ true → h ≡ false) → cond h c o' ≡ cond t (with_byte b (cond h c o)) (cond h c o)
pick_later false t c o o' b e f = e
pick_later true false c o o' b e f = refl
pick_later true true c o o' b e f = absurd (true≢false (f refl))

-- an address that the region doesn't hold is another one
other_address : (r : MemoryRegion) (a x : ℕ) → holds r a ≡ true → holds r x ≡ false → eqb x a ≡ false
other_address r a x h k = ne_eqb x a (λ e. true≢false (sym h ∙ ap (λ y. holds r y) (sym e) ∙ k))

put_first : (q : MemoryRegion) (rs : List MemoryRegion) (a b : ℕ) (r r' : MemoryRegion) → r ≡ q → holds q a ≡ true → Changes r r' a b → (x : ℕ) → cell_at (r' ∷ rs) x ≡ put (cell_at (q ∷ rs)) a b x
put_first q rs a b r r' g h c x =
    let d : Changes q r' a b = subst (λ z. Changes z r' a b) g c in
    let here = pick_here (holds q x) (eqb x a) (Some (cell_in q x)) (Some (cell_in r' x)) (cell_at rs x) b (λ k. same_cell q r' a b x d h k) (λ k. other_address q a x h k) in
    ap (λ t. cond t (Some (cell_in r' x)) (cell_at rs x)) (same_holds q r' a b x d) ∙ here

-- the region at the place that is found, changed at the address
pub put_at : (rs : List MemoryRegion) (i a b : ℕ) (r r' : MemoryRegion) → place_of rs a ≡ Some i → r ≡ get_or rs i r → Changes r r' a b → (x : ℕ) → cell_at (set rs i r') x ≡ put (cell_at rs) a b x
put_at [] i a b r r' e g c x = absurd cc
put_at (q ∷ rs) i a b r r' e g c x = elim (cases_Bool (holds q a)) [
  | inl h ↦
      let z : Some 0 ≡ Some i = sym (cond-true (holds q a) (Some 0) (option_map suc (place_of rs a)) h) ∙ e in
      let n : i ≡ 0 = cc in
      rw n (put_first q rs a b r r' (rw n at g) h c x)
  | inr h ↦
      let k = found_later (place_of rs a) i (sym (cond-false (holds q a) (Some 0) (option_map suc (place_of rs a)) h) ∙ e) in
      rw k.2 (pick_later (holds q x) (eqb x a) (Some (cell_in q x)) (cell_at rs x) _ b (put_at rs k.0 a b r r' k.1 (rw k.2 at g) c x) (λ w. ap (λ y. holds q y) (eqb-true x a w) ∙ h))
]

put_none_at : (m : Bytes) (a b x : ℕ) → m a ≡ None → m x ≡ put m a b x
put_none_at m a b x e = elim (cases_eq x a) [ inl s ↦ ap m s ∙ e ∙ sym (ap (λ y. put m a b y) s ∙ cond-true (eqb a a) _ _ (eq-eqb a a refl) ∙ ap (with_byte b) e) | inr n ↦ sym (cond-false (eqb x a) _ _ (ne_eqb x a n)) ]

-- a byte changed in the region that is found is that byte changed in the map
pub put_found : (rs : List MemoryRegion) (i a b : ℕ) (r r' : MemoryRegion) → place_of rs a ≡ Some i → r ≡ get_or rs i r → Changes r r' a b → cell_at (set rs i r') ≡ put (cell_at rs) a b
put_found rs i a b r r' e g c = fun_ext (λ x. put_at rs i a b r r' e g c x)

-- where no region holds the address, nothing changes
pub put_none : (rs : List MemoryRegion) (a b : ℕ) → place_of rs a ≡ None → cell_at rs ≡ put (cell_at rs) a b
put_none rs a b e = fun_ext (λ x. put_none_at (cell_at rs) a b x (not_found rs a e))

-- the regions ascend as before where one byte of one has changed
pub still_ascending : (low : ℕ) (rs : List MemoryRegion) (i a b : ℕ) (r r' : MemoryRegion) → i < length rs → r ≡ get_or rs i r → Changes r r' a b → Ascending low rs → Ascending low (set rs i r')
still_ascending low [] i a b r r' l g c up = absurd (omega arith)
still_ascending low (q ∷ rs) zero a b r r' l g c up =
    let d : Changes q r' a b = subst (λ z. Changes z r' a b) g c in
    let n = same_length q r' a b d in
    (rw d.lo up.0, rw n up.1, rw (d.lo, n) up.2)
still_ascending low (q ∷ rs) (suc i) a b r r' l g c up = (up.0, up.1, still_ascending (q.lo + length q.bytes.items) rs i a b r r' (omega arith) g c up.2)

-- they lie as before, too
pub same_extents : (rs : List MemoryRegion) (i a b : ℕ) (r r' : MemoryRegion) → r ≡ get_or rs i r → Changes r r' a b → extents (set rs i r') ≡ extents rs
same_extents rs i a b r r' g c = map-set_same (λ (r : MemoryRegion). (r.lo, r.perms, length r.bytes.items)) rs i r' r (rw (c.lo, c.perms, same_length r r' a b c) (ap (λ (r : MemoryRegion). (r.lo, r.perms, length r.bytes.items)) g))

-- a byte below a number of one byte less is a number of the bytes
pub bytes_fit : (b h n : ℕ) → b < 256 → h < 2 ^ (8 * (n - 1)) → 0 < n → b + 256 * h < 2 ^ (8 * n)
bytes_fit b h zero lb lh p = absurd (omega arith)
bytes_fit b h (suc n) lb lh p =
    let e : 8 * suc n ≡ 8 * n + 8 = omega arith in
    let l = rw sub-one at lh in
    rw (e, pow-add) (omega arith)

-- a number of at most eight bytes has 64 bits
pub word_fits : (h n : ℕ) → n ≤ 8 → h < 2 ^ (8 * n) → h < 2 ^ 64
word_fits h n l k = let m : 8 * n ≤ 64 = omega arith in lt_of_lt_of_le k (pow_mono m)

-- to write a number is to write its low byte, and the others from the next address on
pub put_number_step : (m : Bytes) (a n v : ℕ) → 0 < n → put_number m a n v ≡ put_number (put m a (v % 256)) (advanced a 1) (n - 1) (v / 256)
put_number_step m a zero v p = absurd (omega arith)
put_number_step m a (suc n) v p = rw sub-one refl

-- where the first address lacks its byte, it is what the search finds
pub lacking_some : (p : ℕ) (m : Bytes) (a n : ℕ) → 0 < n → allows p (m a) ≡ false → lacking p m a n ≡ Some a
lacking_some p m a zero l e = absurd (omega arith)
lacking_some p m a (suc n) l e = cond-false (allows p (m a)) _ (Some a) e

-- where the first address has its byte, the search goes on at the next one
pub lacking_more : (p : ℕ) (m : Bytes) (a n k : ℕ) → k ≡ n - 1 → 0 < n → allows p (m a) ≡ true → lacking p m a n ≡ lacking p m (advanced a 1) k
lacking_more p m a zero k e l h = absurd (omega arith)
lacking_more p m a (suc n) k e l h = let s : k ≡ n = e ∙ sub-one (suc n) in rw s (cond-true (allows p (m a)) _ (Some a) h)

-- the last of those that begin at or below the address, counted
pub last_place : (rs : List MemoryRegion) (a n : ℕ) (d : MemoryRegion) → Ascending 0 rs → n ≡ begun rs a → 0 < n → place_of rs a ≡ cond (holds (get_or rs (n - 1) d) a) (Some (n - 1)) None
last_place rs a zero d up e p = absurd (omega arith)
last_place rs a (suc n) d up e p = rw sub-one (last_begun 0 rs a n d up (sym e))

-- the region at the place that is found
pub record FoundAt (rs : List MemoryRegion) (a : ℕ) (r : MemoryRegion) : Type 0 where
  pub low : r.lo ≤ a
  pub inside : a - r.lo < length r.bytes.items
  pub cell : Some (cell_in r a) ≡ cell_at rs a

-- the region at the place that is found begins at or below the address, reaches past it, and has the map's byte there
pub found_at : (rs : List MemoryRegion) (a i : ℕ) (r : MemoryRegion) → place_of rs a ≡ Some i → r ≡ get_or rs i r → FoundAt rs a r
found_at rs a i r e g =
    let k = found rs a i r e in
    let h : holds r a ≡ true = ap (λ z. holds z a) g ∙ k.holds_it in
    let p = and_parts (leb r.lo a) (ltb (a - r.lo) (length r.bytes.items)) h in
    record { low = leb-true _ _ p.0; inside = ltb-true _ _ p.1; cell = ap (λ z. Some (cell_in z a)) g ∙ sym k.cell }

-- an option that is no number is none
pub none_left : (o : Option ℕ) → ((x : ℕ) → o ≡ Some x → ⊥) → o ≡ None
none_left None f = refl
none_left (Some x) f = absurd (f x refl)
