-- Writes over a part of the bytes that they are for.
use Rattle.std.proofs.Common.{◌≡◌, ℕ, zero, suc, ◌+◌, ◌-◌, ◌<◌, ◌≤◌, ◌⊎◌, inl, inr, true, false, ◌&&◌, nat_le, nat_lt, List, [], ◌∷◌, ◌++◌, length, take, drop, replicate, slice_index, refl, sym, ap, ◌∙◌, arith}
use Rattle.std.specs.List.{AllByRecursion}
use Rattle.std.proofs.Math.Seq.{take-append-add, drop-append-add}
use Rattle.std.proofs.lemmas.Bool.{cases_lt, cond-true, cond-false}
use Rattle.std.proofs.lemmas.Bool.Decides.{nat_tests}
use Rattle.std.proofs.lemmas.List.{take-append-drop, take-append-le, drop-append-le, take_all, drop_all, append-nil, length-take-le, length-drop, take-replicate, drop-replicate}
use Rattle.elf_read.proofs.FileSlices.{length_slice}
use Rattle.elf_emit.specs.Job.{BytesAt}
use Rattle.elf_emit.specs.Layout.{slice, placed, in_patch, written_by, written_at, rewritten}
use Rattle.elf_emit.proofs.StayingSegments.{all_map}
use Rattle.elf_emit.proofs.OriginalChunks.{written_none}
use Rattle.elf_emit.proofs.OverwrittenBytes.{rewritten_is}
use Rattle.elf_emit.proofs.GroupPages.{slice_at}

-- bytes that no write changes stay
pub kept : (ws : List BytesAt) (lo : ℕ) (bs : List ℕ) → ((a b : ℕ) → lo ≤ a → a < lo + length bs → written_at ws a b ≡ b) → rewritten ws lo bs ≡ bs
kept ws lo [] h = refl
kept ws lo (b ∷ bs) h =
    let first = h lo b (omega arith) (omega arith) in
    let later = kept ws (lo + 1) bs (λ a c l m. h a c (omega arith) (omega arith)) in
    λ i. first i ∷ later i

-- a write has no byte among n from an address on
abbrev pub Misses : ℕ → ℕ → BytesAt → Type 0
Misses lo n w = (w.addr + length w.now ≤ lo) ⊎ (lo + n ≤ w.addr)

outside : (w : BytesAt) (lo n a : ℕ) → lo ≤ a → a < lo + n → Misses lo n w → in_patch w a ≡ false
outside w lo n a l m (inl e) = behind w.addr (length w.now) a (omega arith)
  where
    behind : (v k x : ℕ) → v + k ≤ x → (nat_le v x && nat_lt (x - v) k) ≡ false
    behind v k x q = grind (arith, nat_tests)
outside w lo n a l m (inr e) = before w.addr (length w.now) a (omega arith)
  where
    before : (v k x : ℕ) → x < v → (nat_le v x && nat_lt (x - v) k) ≡ false
    before v k x q = grind (arith, nat_tests)

-- bytes that no write meets stay
pub missed : (ws : List BytesAt) (lo : ℕ) (bs : List ℕ) → AllByRecursion (Misses lo (length bs)) ws → rewritten ws lo bs ≡ bs
missed ws lo bs h =
    kept ws lo bs (λ a b l m. written_none ws a b (all_map (Misses lo (length bs)) (λ w. in_patch w a ≡ false) ws (λ w k. outside w lo (length bs) a l m k) h))

-- a write of no bytes changes nothing
pub none_written : (at lo : ℕ) (c bs : List ℕ) → length c ≡ 0 → rewritten (record { addr = at; now = c } ∷ []) lo bs ≡ bs
none_written at lo c bs e = kept (record { addr = at; now = c } ∷ []) lo bs (λ a b l m. cond-false _ _ _ (empty (length c) a e))
  where
    empty : (n a : ℕ) → n ≡ 0 → (nat_le at a && nat_lt (a - at) n) ≡ false
    empty n a z = grind (arith, nat_tests)

-- writes over two lists, one behind the other, are the writes over each
pub rewritten-append : (ws : List BytesAt) (lo : ℕ) (xs ys : List ℕ) → rewritten ws lo (xs ++ ys) ≡ rewritten ws lo xs ++ rewritten ws (lo + length xs) ys
rewritten-append ws lo [] ys = let e : lo ≡ lo + 0 = omega arith in ap (λ (a : ℕ). rewritten ws a ys) e
rewritten-append ws lo (x ∷ xs) ys =
    let e : lo + 1 + length xs ≡ lo + suc (length xs) = omega arith in
    ap (λ (z : List ℕ). written_at ws lo x ∷ z) (rewritten-append ws (lo + 1) xs ys ∙ ap (λ (a : ℕ). rewritten ws (lo + 1) xs ++ rewritten ws a ys) e)

take-rewritten : (ws : List BytesAt) (lo n : ℕ) (bs : List ℕ) → take n (rewritten ws lo bs) ≡ rewritten ws lo (take n bs)
take-rewritten ws lo zero bs = refl
take-rewritten ws lo (suc n) [] = refl
take-rewritten ws lo (suc n) (b ∷ bs) = ap (λ (z : List ℕ). written_at ws lo b ∷ z) (take-rewritten ws (lo + 1) n bs)

drop-rewritten : (ws : List BytesAt) (lo n : ℕ) (bs : List ℕ) → drop n (rewritten ws lo bs) ≡ rewritten ws (lo + n) (drop n bs)
drop-rewritten ws lo zero bs = let e : lo ≡ lo + 0 = omega arith in ap (λ (a : ℕ). rewritten ws a bs) e
drop-rewritten ws lo (suc n) [] = refl
drop-rewritten ws lo (suc n) (b ∷ bs) =
    let e : lo + 1 + n ≡ lo + suc n = omega arith in drop-rewritten ws (lo + 1) n bs ∙ ap (λ (a : ℕ). rewritten ws a (drop n bs)) e

-- a part of bytes that were written over is that part, written over
pub slice-rewritten : (ws : List BytesAt) (lo n k : ℕ) (bs : List ℕ) → slice n k (rewritten ws lo bs) ≡ rewritten ws (lo + k) (slice n k bs)
slice-rewritten ws lo n k bs = ap (λ (z : List ℕ). take n z) (drop-rewritten ws lo k bs) ∙ take-rewritten ws (lo + k) n (drop k bs)

-- a part of a write over as many bytes
part_written : (at skip n : ℕ) (c mid : List ℕ) → length mid ≡ n → skip + n ≤ length c → rewritten (record { addr = at; now = c } ∷ []) (at + skip) mid ≡ slice n skip c
part_written at skip n c mid e l =
    sym (rewritten_is (record { addr = at; now = c } ∷ []) (at + skip) mid (slice n skip c) (length_slice n skip c l ∙ sym e) (λ k m.
    slice_at n skip k c (omega arith) ∙ sym (here k (slice_index mid k) (omega arith))))
  where
    inside : (k : ℕ) → skip + k < length c → (nat_le at (at + skip + k) && nat_lt (at + skip + k - at) (length c)) ≡ true
    inside k m = within at (at + skip + k) (length c) (omega arith) (omega arith)
      where
        within : (v x n : ℕ) → v ≤ x → x - v < n → (nat_le v x && nat_lt (x - v) n) ≡ true
        within v x n a b = grind (arith, nat_tests)

    here : (k b : ℕ) → skip + k < length c → written_by (record { addr = at; now = c }) (at + skip + k) b ≡ slice_index c (skip + k)
    here k b m = let q : at + skip + k - at ≡ skip + k = omega arith in cond-true _ _ _ (inside k m) ∙ ap (λ (x : ℕ). slice_index c x) q

-- n bytes left out and then m are n + m left out
pub drop_twice : (n m : ℕ) (xs : List ℕ) → drop m (drop n xs) ≡ drop (n + m) xs
drop_twice zero m xs = let e : m ≡ 0 + m = omega arith in ap (λ (k : ℕ). drop k xs) e
drop_twice (suc n) m [] = drop_all m [] (omega arith) ∙ sym (drop_all (suc n + m) [] (omega arith))
drop_twice (suc n) m (x ∷ xs) = let e : suc (n + m) ≡ suc n + m = omega arith in drop_twice n m xs ∙ ap (λ (k : ℕ). drop k (x ∷ xs)) e

-- a list in three parts
three_parts : (start n : ℕ) (bs : List ℕ) → bs ≡ take start bs ++ (take n (drop start bs) ++ drop (start + n) bs)
three_parts start n bs =
    sym (take-append-drop start bs)
    ∙ ap (λ (z : List ℕ). take start bs ++ z) (sym (take-append-drop n (drop start bs)) ∙ ap (λ (z : List ℕ). take n (drop start bs) ++ z) (drop_twice start n bs))

-- a write over bytes of which it meets n, from its byte `skip` on and from their byte `start` on
pub over_part : (at lo start skip n : ℕ) (c bs : List ℕ) → lo + start ≡ at + skip → start + n ≤ length bs → skip + n ≤ length c
    → (start ≡ 0) ⊎ (skip ≡ 0) → (start + n ≡ length bs) ⊎ (skip + n ≡ length c)
    → rewritten (record { addr = at; now = c } ∷ []) lo bs ≡ placed bs start (slice n skip c)
over_part at lo start skip n c bs e l m f g =
    let w : List BytesAt = record { addr = at; now = c } ∷ [] in
    let front : List ℕ = take start bs in
    let mid : List ℕ = slice n start bs in
    let back : List ℕ = drop (start + n) bs in
    let lf : length front ≡ start = length-take-le start bs (omega arith) in
    let lm : length mid ≡ n = length_slice n start bs l in
    let ln : length (slice n skip c) ≡ n = length_slice n skip c m in
    let first : rewritten w lo front ≡ front = kept w lo front (λ a b p q. cond-false _ _ _ (early a (omega arith) p f)) in
    let second : rewritten w (lo + length front) mid ≡ slice n skip c =
    (let x : lo + length front ≡ at + skip = omega arith in ap (λ (a : ℕ). rewritten w a mid) x ∙ part_written at skip n c mid lm m) in
    let third : rewritten w (lo + length front + length mid) back ≡ back =
    kept w (lo + length front + length mid) back (λ a b p q. cond-false _ _ _ (late a (omega arith) (omega (arith, length-drop (start + n) bs)) g)) in
    ap (λ (z : List ℕ). rewritten w lo z) (three_parts start n bs)
    ∙ rewritten-append w lo front (mid ++ back)
    ∙ ap (λ (z : List ℕ). rewritten w lo front ++ z) (rewritten-append w (lo + length front) mid back)
    ∙ (λ i. first i ++ (second i ++ third i))
    ∙ ap (λ (k : ℕ). front ++ (slice n skip c ++ drop (start + k) bs)) (sym ln)
  where
    outer : (v x k : ℕ) → (x < v) ⊎ (v + k ≤ x) → (nat_le v x && nat_lt (x - v) k) ≡ false
    outer v x k (inl q) = grind (arith, nat_tests)
    outer v x k (inr q) = grind (arith, nat_tests)

    early : (a : ℕ) → a < lo + start → lo ≤ a → (start ≡ 0) ⊎ (skip ≡ 0) → (nat_le at a && nat_lt (a - at) (length c)) ≡ false
    early a p q (inl z) = absurd (omega arith)
    early a p q (inr z) = outer at a (length c) (inl (omega arith))

    late : (a : ℕ) → lo + start + n ≤ a → a < lo + length bs → (start + n ≡ length bs) ⊎ (skip + n ≡ length c) → (nat_le at a && nat_lt (a - at) (length c)) ≡ false
    late a p q (inl z) = absurd (omega arith)
    late a p q (inr z) = outer at a (length c) (inr (omega arith))

-- a write that lies whole in bytes is put into them
pub over_whole : (at lo start : ℕ) (c bs : List ℕ) → lo + start ≡ at → start + length c ≤ length bs → rewritten (record { addr = at; now = c } ∷ []) lo bs ≡ placed bs start c
over_whole at lo start c bs e l =
    over_part at lo start 0 (length c) c bs (omega arith) l (omega arith) (inr refl) (inr (omega arith))
    ∙ ap (λ (z : List ℕ). placed bs start z) (take_all (length c) c (omega arith))

-- a write that lies whole in bytes is put into them also where others stand behind
pub over_front : (at : ℕ) (c xs ys : List ℕ) → at + length c ≤ length xs → rewritten (record { addr = at; now = c } ∷ []) 0 (xs ++ ys) ≡ placed xs at c ++ ys
over_front at c xs ys l =
    rewritten-append (record { addr = at; now = c } ∷ []) 0 xs ys
    ∙ (λ i. over_whole at 0 at c xs (omega arith) l i ++ missed (record { addr = at; now = c } ∷ []) (0 + length xs) ys (inl (omega arith), tt) i)

-- a part of zeros is zeros
pub slice_zeros : (n k m : ℕ) → k + n ≤ m → slice n k (replicate m 0) ≡ replicate n 0
slice_zeros n k m l = ap (λ (z : List ℕ). take n z) (drop-replicate {X = ℕ} k m 0) ∙ take-replicate {X = ℕ} n (m - k) 0 (omega arith)

-- a part of bytes with zeros behind them is their part there, filled with zeros
pub slice_filled : (n k m : ℕ) (xs : List ℕ) → k + n ≤ length xs + m → slice n k (xs ++ replicate m 0) ≡ slice n k xs ++ replicate (n - length (slice n k xs)) 0
slice_filled n k m xs l = elim (cases_lt (length xs) k) [
  | inl past ↦
      let e : length xs + (k - length xs) ≡ k = omega arith in
      let none : slice n k xs ≡ [] = ap (λ (z : List ℕ). take n z) (drop_all k xs (omega arith)) ∙ take_all n [] (omega arith) in
      ap (λ (z : List ℕ). take n z) (ap (λ (x : ℕ). drop x (xs ++ replicate m 0)) (sym e) ∙ drop-append-add xs (replicate m 0) (k - length xs))
      ∙ slice_zeros n (k - length xs) m (omega arith)
      ∙ (let z : n ≡ n - 0 = omega arith in ap (λ (x : ℕ). replicate x 0) z)
      ∙ sym (λ i. none i ++ replicate (n - length (none i)) 0)
  | inr within ↦ cut (drop k xs) (length-drop k xs) (drop-append-le k xs (replicate m 0) within)
]
  where
    cut : (ds : List ℕ) → length ds ≡ length xs - k → drop k (xs ++ replicate m 0) ≡ ds ++ replicate m 0 → take n (drop k (xs ++ replicate m 0)) ≡ take n ds ++ replicate (n - length (take n ds)) 0
    cut ds e d = elim (cases_lt (length ds) n) [
      | inr long ↦
          let q : n - length (take n ds) ≡ 0 = (let z = length-take-le n ds long in omega arith) in
          ap (λ (z : List ℕ). take n z) d ∙ take-append-le n ds (replicate m 0) long
          ∙ sym (append-nil (take n ds)) ∙ ap (λ (x : ℕ). take n ds ++ replicate x 0) (sym q)
      | inl short ↦
          let t : take n ds ≡ ds = take_all n ds (omega arith) in
          let q : length ds + (n - length ds) ≡ n = omega arith in
          ap (λ (z : List ℕ). take n z) d
          ∙ ap (λ (x : ℕ). take x (ds ++ replicate m 0)) (sym q) ∙ take-append-add ds (replicate m 0) (n - length ds)
          ∙ ap (λ (z : List ℕ). ds ++ z) (take-replicate {X = ℕ} (n - length ds) m 0 (let z = length-drop k xs in omega arith))
          ∙ sym (λ i. t i ++ replicate (n - length (t i)) 0)
    ]
