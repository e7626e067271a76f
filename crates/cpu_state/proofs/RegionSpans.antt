-- Bytes that one region holds from an address on.
use Rattle.std.proofs.Common.{◌≡◌, ℕ, zero, suc, ◌+◌, ◌-◌, ◌*◌, ◌^◌, ◌<◌, ◌≤◌, true, not, eqb, leb, ltb, List, [], ◌∷◌, length, get_or, take, drop, bit_and, Some, None, Ok, option_map, refl, sym, ap, ap₂, ◌∙◌, subst, arith}
use Rattle.std.proofs.Math.Seq.{drop-cons}
use Rattle.std.proofs.lemmas.Bool.{and_parts, leb-true, cond-true, cond-false}
use Rattle.std.proofs.lemmas.Bool.Decides.{nat_tests}
use Rattle.pun_base.specs.Field.{number_of}
use Rattle.pun_base.specs.Memory.{Bytes}
use Rattle.cpu_state.specs.declared.regions.MemoryRegion.{MemoryRegion}
use Rattle.cpu_state.specs.Bytes.{advanced, allows, byte_of, lacking, number_at, code_at}
use Rattle.cpu_state.specs.Held.{AreHeld}
use Rattle.cpu_state.specs.Numbers.{unless_lacking, loaded}
use Rattle.cpu_state.specs.Regions.{holds, cell_in, cell_at, Ascending, place_of}
use Rattle.cpu_state.proofs.RegionCells.{ends_before, found_at}
use Rattle.cpu_state.proofs.RegionPlaces.{low_first}

-- held executable bytes are the code there
pub code_held : (m : Bytes) (a n : ℕ) (bs : List ℕ) → length bs ≡ n → AreHeld 1 m a bs → bs ≡ code_at m a n
code_held m a n bs e h = subst (λ k. bs ≡ code_at m a k) e (sym (code m a bs h))
  where
    code : (m : Bytes) (a : ℕ) (bs : List ℕ) → AreHeld 1 m a bs → code_at m a (length bs) ≡ bs
    code m a [] h = refl
    code m a (b ∷ bs) h = cond-true (allows 1 (m a)) _ [] h.0 ∙ ap₂ (λ x xs. x ∷ xs) h.1 (code m (advanced a 1) bs h.2)

-- held bytes lack none
pub lacking_held : (p : ℕ) (m : Bytes) (a n : ℕ) (bs : List ℕ) → length bs ≡ n → AreHeld p m a bs → None ≡ lacking p m a n
lacking_held p m a n bs e h = subst (λ k. None ≡ lacking p m a k) e (sym (none m a bs h))
  where
    none : (m : Bytes) (a : ℕ) (bs : List ℕ) → AreHeld p m a bs → lacking p m a (length bs) ≡ None
    none m a [] h = refl
    none m a (b ∷ bs) h = cond-true (allows p (m a)) _ (Some a) h.0 ∙ none m (advanced a 1) bs h.2

-- held bytes make the number there
pub number_held : (p : ℕ) (m : Bytes) (a n : ℕ) (bs : List ℕ) → length bs ≡ n → AreHeld p m a bs → number_of bs ≡ number_at m a n
number_held p m a n bs e h = subst (λ k. number_of bs ≡ number_at m a k) e (sym (number m a bs h))
  where
    number : (m : Bytes) (a : ℕ) (bs : List ℕ) → AreHeld p m a bs → number_at m a (length bs) ≡ number_of bs
    number m a [] h = refl
    number m a (b ∷ bs) h = ap₂ (λ x n. x + 256 * n) h.1 (number m (advanced a 1) bs h.2)

-- a region that holds an address is the one that is found
pub place_held : (low i a : ℕ) (rs : List MemoryRegion) (d : MemoryRegion) → Ascending low rs → i < length rs
    → holds (get_or rs i d) a ≡ true → place_of rs a ≡ Some i
place_held low i a [] d up l h = absurd (omega arith)
place_held low zero a (r ∷ rs) d up l h = cond-true (holds r a) _ _ h
place_held low (suc i) a (r ∷ rs) d up l h =
    let q = get_or rs i d in
    let k = and_parts (leb q.lo a) (ltb (a - q.lo) (length q.bytes.items)) h in
    let b : q.lo ≤ a = leb-true _ _ k.0 in
    let f = low_first (r.lo + length r.bytes.items) i rs d up.2 (omega arith) in
    cond-false (holds r a) _ _ (ends_before r a (omega (arith, f, b)))
    ∙ ap (option_map suc) (place_held (r.lo + length r.bytes.items) i a rs d up.2 (omega arith) h)

low_fits : (low : ℕ) (rs : List MemoryRegion) → Ascending low rs → low ≤ 2 ^ 64
low_fits low [] up = up
low_fits low (r ∷ rs) up = let k = low_fits (r.lo + length r.bytes.items) rs up.2 in let p = up.0 in omega arith

-- each region ends by 2 ^ 64
ends : (low i : ℕ) (rs : List MemoryRegion) (d : MemoryRegion) → Ascending low rs → i < length rs
    → (get_or rs i d).lo + length (get_or rs i d).bytes.items ≤ 2 ^ 64
ends low i [] d up l = absurd (omega arith)
ends low zero (r ∷ rs) d up l = low_fits (r.lo + length r.bytes.items) rs up.2
ends low (suc i) (r ∷ rs) d up l = ends (r.lo + length r.bytes.items) i rs d up.2 (omega arith)

-- bytes of a region are held, where each of them is the map's
span_held : (p : ℕ) (m : Bytes) (r : MemoryRegion)
    → ((k : ℕ) → k < length r.bytes.items → m (r.lo + k) ≡ Some (cell_in r (r.lo + k)))
    → not (eqb (bit_and r.perms p) 0) ≡ true → r.lo + length r.bytes.items ≤ 2 ^ 64
    → (n k a : ℕ) → k + n ≤ length r.bytes.items → (0 < n → a ≡ r.lo + k) → AreHeld p m a (take n (drop k r.bytes.items))
span_held p m r f x top zero k a l e = tt
span_held p m r f x top (suc n) k a l e =
    let bs = r.bytes.items in
    let at : a ≡ r.lo + k = e (omega arith) in
    let cell : m a ≡ Some (cell_in r (r.lo + k)) = ap m at ∙ f k (omega arith) in
    let byte : get_or bs (r.lo + k - r.lo) 0 ≡ get_or bs k 0 = ap (λ z. get_or bs z 0) (omega arith) in
    let next : 0 < n → advanced a 1 ≡ r.lo + suc k = λ z. let s : a + 1 < 2 ^ 64 = omega arith in omega arith in
    subst (λ xs. AreHeld p m a (take (suc n) xs)) (sym (drop-cons bs k 0 (omega arith)))
    (ap (allows p) cell ∙ x, ap byte_of cell ∙ byte, span_held p m r f x top n (suc k) (advanced a 1) (omega arith) next)

-- so are those of the region that is found at an address
pub all_held : (rs : List MemoryRegion) (p a i n : ℕ) (r : MemoryRegion) → Ascending 0 rs → i < length rs → place_of rs a ≡ Some i
    → r ≡ get_or rs i r → not (eqb (bit_and r.perms p) 0) ≡ true → n ≤ length r.bytes.items - (a - r.lo)
    → AreHeld p (cell_at rs) a (take n (drop (a - r.lo) r.bytes.items))
all_held rs p a i n r up b e g x l =
    let k = found_at rs a i r e g in
    let low = k.low in
    let inside = k.inside in
    span_held p (cell_at rs) r cells x top n (a - r.lo) a (omega arith) (λ z. omega arith)
  where
    top : r.lo + length r.bytes.items ≤ 2 ^ 64
    top = subst (λ (q : MemoryRegion). q.lo + length q.bytes.items ≤ 2 ^ 64) (sym g) (ends 0 i rs r up b)

    cells : (j : ℕ) → j < length r.bytes.items → cell_at rs (r.lo + j) ≡ Some (cell_in r (r.lo + j))
    cells j s =
        sym (found_at rs (r.lo + j) i r (place_held 0 i (r.lo + j) rs r up b (ap (λ q. holds q (r.lo + j)) (sym g) ∙ held j s)) g).cell
      where
        held : (j : ℕ) → j < length r.bytes.items → holds r (r.lo + j) ≡ true
        held j s = grind (arith, nat_tests)

-- a load of bytes that are held with R gives their number
pub loaded_held : (m : Bytes) (a n v : ℕ) (bs : List ℕ) → length bs ≡ n → AreHeld 4 m a bs → v ≡ number_of bs → Ok v ≡ loaded m a n
loaded_held m a n v bs e h k = ap Ok k ∙ ap₂ unless_lacking (lacking_held 4 m a n bs e h) (number_held 4 m a n bs e h)
