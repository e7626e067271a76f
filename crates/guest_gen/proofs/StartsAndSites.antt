-- The starts and sites of a guest ascend; its sites are starts, and few.
use Rattle.std.proofs.Common.{◌≡◌, ◌⊎◌, inl, inr, ℕ, zero, suc, ◌+◌, ◌-◌, ◌*◌, ◌/◌, ◌%◌, ◌<◌, ◌≤◌, Bool, true, false, cond, eqb, nat_le, nat_lt, List, [], ◌∷◌, ◌++◌, length, slice_index, refl, sym, ap, ◌∙◌, subst, arith, append_assoc}
use Rattle.std.specs.Prelude.{slice_index_or}
use Rattle.std.specs.List.{Contains}
use Rattle.std.specs.List.Sorted.{IsStrictlyIncreasing}
use Rattle.std.proofs.lemmas.Bool.{eq-eqb, ne_eqb, ltb-true, ltb-false, leb-true, leb-false}
use Rattle.std.proofs.Math.Nat.{mul-suc, suc-mod, mod_self, mod-eq_of_lt, mul-le-mul_left}
use Rattle.std.proofs.lemmas.List.Elements.{Contains-append_left, Contains-append_right}
use Rattle.guest_gen.specs.declared.instruction.GuestInsn.{GuestInsn}
use Rattle.guest_gen.specs.declared.instruction.GuestInsn.TheVariants.{JmpBack}
use Rattle.guest_gen.specs.Instructions.{text_start, blocks_start, spelled}
use Rattle.guest_gen.specs.Blocks.{block_at, after_block, blocks_from, kind_at, number_at}
use Rattle.guest_gen.specs.Laws.{GuestsAreListed}
use Rattle.guest_gen.specs.Texts.{text_from, starts_from, all_of, guest_blocks, guest_insns, guest_starts, guest_sites, site_at, sites_from, spacing}
use Rattle.guest_gen.proofs.TextGrowth.{starts_append}
use Rattle.guest_gen.proofs.TextSizes.{insn_size, block_size}

-- each number is above the one before, the first at or above low
abbrev pub Above : ℕ → List ℕ → Type 0
Above low [] = Unit {0}
Above low (x ∷ xs) = (low ≤ x) × Above (x + 1) xs

-- so above a lower bound
pub above_lower : (low lower : ℕ) (xs : List ℕ) → lower ≤ low → Above low xs → Above lower xs
above_lower low lower [] l h = tt
above_lower low lower (x ∷ xs) l h = let k = h.0 in (omega arith, h.1)

-- such numbers ascend
above_increasing : (low : ℕ) (xs : List ℕ) → Above low xs → IsStrictlyIncreasing xs
above_increasing low [] h k l = absurd (omega arith)
above_increasing low (x ∷ []) h k l = absurd (omega arith)
above_increasing low (x ∷ y ∷ ys) h zero l = let a = h.1.0 in omega arith
above_increasing low (x ∷ y ∷ ys) h (suc k) l =
    let e : suc k + 1 ≡ suc (k + 1) = omega arith in
    subst (λ (z : ℕ). slice_index (y ∷ ys) k < slice_index (x ∷ y ∷ ys) z) (sym e) (above_increasing (x + 1) (y ∷ ys) h.1 k (omega arith))

-- so do starts
starts_above : (at : ℕ) (is : List GuestInsn) → Above at (starts_from at is)
starts_above at [] = tt
starts_above at (i ∷ is) =
    let s = (insn_size i at).0 in
    let next = at + length (spelled i at) in
    (omega arith, above_lower next (at + 1) (starts_from next is) (omega arith) (starts_above next is))

-- a site or none, and those behind it
site_above : (b : Bool) (at next : ℕ) (xs : List ℕ) → at + 1 ≤ next → Above next xs → Above at (cond b (at ∷ []) [] ++ xs)
site_above true at next xs l h = (omega arith, above_lower next (at + 1) xs l h)
site_above false at next xs l h = above_lower next at xs (omega arith) h

-- so do sites
sites_above : (every index at x n : ℕ) → Above at (sites_from every index at (blocks_from x n))
sites_above every index at x zero = tt
sites_above every index at x (suc n) =
    let s = (block_size at (kind_at x) (number_at x)).0 in
    let next = at + length (text_from at (block_at x)) in
    site_above (eqb (index % every) 0) at next (sites_from every (index + 1) next (blocks_from (after_block x) n)) (omega arith)
    (sites_above every (index + 1) next (after_block x) n)

-- the first instruction of a block begins where the block does
first_start : (at : ℕ) (is : List GuestInsn) → 1 ≤ length (text_from at is) → Contains (starts_from at is) at
first_start at [] h = absurd (omega arith)
first_start at (i ∷ is) h = (0, omega arith, refl)

-- the first element or a later one
cons_at : (x : ℕ) (xs : List ℕ) (a k : ℕ) → k < length (x ∷ xs) → slice_index_or (x ∷ xs) k a ≡ a → (a ≡ x) ⊎ Contains xs a
cons_at x xs a zero l e = inl (sym e)
cons_at x xs a (suc k) l e = inr (k, omega arith, e)

-- the site of the first block or a later one
site_is : (b : Bool) (at : ℕ) (xs : List ℕ) (a : ℕ) → Contains (cond b (at ∷ []) [] ++ xs) a → (a ≡ at) ⊎ Contains xs a
site_is true at xs a h = cons_at at xs a h.0 h.1 h.2
site_is false at xs a h = inr h

module _ (every index at x n a : ℕ) (rest : List GuestInsn) where
  abbrev first : List GuestInsn
  first = block_at x

  abbrev others : List GuestInsn
  others = all_of (blocks_from (after_block x) n)

  abbrev next : ℕ
  next = at + length (text_from at first)

  -- the starts of the first block, and those of the others
  starts_parts : starts_from at ((first ++ others) ++ rest) ≡ starts_from at first ++ starts_from next (others ++ rest)
  starts_parts = ap (starts_from at) (append_assoc first others rest) ∙ starts_append at first (others ++ rest)

  by_site : (a ≡ at) ⊎ Contains (starts_from next (others ++ rest)) a → Contains (starts_from at ((first ++ others) ++ rest)) a
  by_site (inl e) =
      subst (λ (z : List ℕ). Contains z a) (sym starts_parts)
      (Contains-append_left (starts_from at first) (starts_from next (others ++ rest)) a
      (subst (λ (z : ℕ). Contains (starts_from at first) z) (sym e) (first_start at first (block_size at (kind_at x) (number_at x)).0)))
  by_site (inr k) =
      subst (λ (z : List ℕ). Contains z a) (sym starts_parts)
      (Contains-append_right (starts_from at first) (starts_from next (others ++ rest)) a k)

-- the second of two cases
either_site : {P Q R : Type 0} → (P ⊎ Q) → (Q → R) → P ⊎ R
either_site (inl p) f = inl p
either_site (inr q) f = inr (f q)

-- a site is a start
sites_listed : (every index at x n a : ℕ) (rest : List GuestInsn) → Contains (sites_from every index at (blocks_from x n)) a
    → Contains (starts_from at (all_of (blocks_from x n) ++ rest)) a
sites_listed every index at x zero a rest h = let l = h.1 in absurd (omega arith)
sites_listed every index at x (suc n) a rest h =
    let later = at + length (text_from at (block_at x)) in
    by_site every index at x n a rest
    (either_site (site_is (eqb (index % every) 0) at (sites_from every (index + 1) later (blocks_from (after_block x) n)) a h)
    (sites_listed every (index + 1) later (after_block x) n a rest))

-- how many blocks may pass before a site counts: r is how far the index is past a site
abbrev slack : ℕ → ℕ → ℕ
slack every zero = every - 1
slack every (suc r) = r

-- how far the next index is past a site
one_more : (every index r : ℕ) → index % every ≡ r → (index + 1) % every ≡ suc r % every
one_more every index r e =
    let s : index + 1 ≡ suc index = omega arith in
    ap (λ (z : ℕ). z % every) s ∙ suc-mod index every ∙ ap (λ (z : ℕ). suc z % every) e

-- behind a block that is no site
past_site : (every index r n size : ℕ) → 8 ≤ every → index % every ≡ suc r → suc r < every
    → ((k : ℕ) → (index + 1) % every ≡ k → k < every → size ≤ n + slack every k) → size ≤ suc n + r
past_site every index r n size h e l ih = by_test (nat_lt (suc (suc r)) every) refl
  where
    by_test : (b : Bool) → nat_lt (suc (suc r)) every ≡ b → size ≤ suc n + r
    by_test true t =
        let u : suc (suc r) < every = ltb-true (suc (suc r)) every t in
        let c = ih (suc (suc r)) (one_more every index (suc r) e ∙ mod-eq_of_lt u) u in
        omega arith
    by_test false t =
        let u : every ≤ suc (suc r) = ltb-false (suc (suc r)) every t in
        let same : suc (suc r) ≡ every = omega arith in
        let z : suc (suc r) % every ≡ 0 = ap (λ (y : ℕ). y % every) same ∙ mod_self every in
        let c = ih 0 (one_more every index (suc r) e ∙ z) (omega arith) in
        omega arith

-- sites by the number of blocks
counted : (every index at x n r : ℕ) → 8 ≤ every → index % every ≡ r → r < every
    → every * length (sites_from every index at (blocks_from x n)) ≤ n + slack every r
counted every index at x zero r h e l = omega arith
counted every index at x (suc n) zero h e l =
    let later = at + length (text_from at (block_at x)) in
    let sites = sites_from every (index + 1) later (blocks_from (after_block x) n) in
    let one : suc 0 < every = omega arith in
    let r = counted every (index + 1) later (after_block x) n 1 h (one_more every index 0 e ∙ mod-eq_of_lt one) one in
    let test : eqb (index % every) 0 ≡ true = eq-eqb (index % every) 0 e in
    let w : site_at every index at ++ sites ≡ at ∷ sites = ap (λ (b : Bool). cond b (at ∷ []) [] ++ sites) test in
    let m = mul-suc every (length sites) in
    let size : every * length (site_at every index at ++ sites) ≡ every * length sites + every = ap (λ (z : List ℕ). every * length z) w
    ∙ m in
    let s : slack every 0 ≡ every - 1 = refl in
    let k : slack every 1 ≡ 0 = refl in
    omega arith
counted every index at x (suc n) (suc r) h e l =
    let later = at + length (text_from at (block_at x)) in
    let sites = sites_from every (index + 1) later (blocks_from (after_block x) n) in
    let test : eqb (index % every) 0 ≡ false = ne_eqb (index % every) 0 (λ q. omega arith) in
    let w : site_at every index at ++ sites ≡ sites = ap (λ (b : Bool). cond b (at ∷ []) [] ++ sites) test in
    let size : every * length (site_at every index at ++ sites) ≡ every * length sites = ap (λ (z : List ℕ). every * length z) w in
    let rest : every * length sites ≤ suc n + r =
    past_site every index r n (every * length sites) h e l (λ k q u. counted every (index + 1) later (after_block x) n k h q u) in
    omega arith

-- they are few
wide : (n : ℕ) → (8 ≤ spacing n) × (n ≤ 250 * spacing n)
wide n = by_test (nat_le ((n + 249) / 250) 8) refl
  where
    by_test : (b : Bool) → nat_le ((n + 249) / 250) 8 ≡ b → (8 ≤ cond b 8 ((n + 249) / 250)) × (n ≤ 250 * cond b 8 ((n + 249) / 250))
    by_test true e = (omega arith, let l : (n + 249) / 250 ≤ 8 = leb-true ((n + 249) / 250) 8 e in omega arith)
    by_test false e = let l : 8 < (n + 249) / 250 = leb-false ((n + 249) / 250) 8 e in (omega arith, omega arith)

-- at most 250
few_sites : (every n count : ℕ) → 8 ≤ every → n ≤ 250 * every → every * count ≤ n + (every - 1) → count ≤ 250
few_sites every n count h l c = by_test (nat_le count 250) refl
  where
    by_test : (b : Bool) → nat_le count 250 ≡ b → count ≤ 250
    by_test true e = leb-true count 250 e
    by_test false e =
        let more : 251 ≤ count = let k = leb-false count 250 e in omega arith in
        let m : every * 251 ≤ every * count = mul-le-mul_left every more in
        absurd (omega arith)

-- all of it, of each guest
pub guests_listed : GuestsAreListed
guests_listed seed n some most =
    let every = spacing n in
    let w = wide n in
    let zero_at : 0 % every ≡ 0 = mod-eq_of_lt (let k = w.0 in omega arith) in
    let count = counted every 0 blocks_start seed n 0 w.0 zero_at (let k = w.0 in omega arith) in
    record {
      starts_ascend = above_increasing text_start (guest_starts seed n) (starts_above text_start (guest_insns seed n));
      sites_ascend = above_increasing blocks_start (guest_sites seed n) (sites_above every 0 blocks_start seed n);
      sites_listed = λ a h. Contains-append_right (text_start ∷ []) (starts_from blocks_start
          (all_of (guest_blocks seed n) ++ JmpBack ∷ [])) a
          (sites_listed every 0 blocks_start seed n a (JmpBack ∷ []) h);
      few = few_sites every n (length (guest_sites seed n)) w.0 w.1 count;
    }
