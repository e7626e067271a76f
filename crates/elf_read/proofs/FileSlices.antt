-- Parts of a file by their places: n bytes from place k on are `take n (drop k file)`.
use Rattle.std.proofs.Common.{◌≡◌, ℕ, ◌+◌, ◌≤◌, List, ◌++◌, length, take, drop, sym, ap, ◌∙◌, arith}
use Rattle.std.proofs.Math.Seq.{drop-append-add}
use Rattle.std.proofs.lemmas.List.{take-append-le, drop-append-le, length-drop, length-take-le, take_at, drop_at}

-- dropping the front and k bytes more drops k bytes of the rest
pub drop_past : (p k : ℕ) (front rest : List ℕ) → length front ≡ p → drop (p + k) (front ++ rest) ≡ drop k rest
drop_past p k front rest e = ap (λ (m : ℕ). drop (m + k) (front ++ rest)) (sym e) ∙ drop-append-add front rest k

-- a part that lies in the front
pub slice_within : (n k : ℕ) (front rest : List ℕ) → k + n ≤ length front → take n (drop k (front ++ rest)) ≡ take n (drop k front)
slice_within n k front rest l =
    let m : n ≤ length (drop k front) = omega (arith, length-drop k front) in
    ap (λ (z : List ℕ). take n z) (drop-append-le k front rest (omega arith)) ∙ take-append-le n (drop k front) rest m

-- a part that lies past the front
pub slice_past : (n p k : ℕ) (front rest : List ℕ) → length front ≡ p → take n (drop (p + k) (front ++ rest)) ≡ take n (drop k rest)
slice_past n p k front rest e = ap (λ (z : List ℕ). take n z) (drop_past p k front rest e)

-- the part between front and rest
pub slice_middle : (n p : ℕ) (front middle rest : List ℕ) → length front ≡ p → length middle ≡ n → take n (drop p (front ++ (middle ++ rest))) ≡ middle
slice_middle n p front middle rest e f =
    ap (λ (z : List ℕ). take n z) (drop_at front (middle ++ rest) p e) ∙ take_at middle rest n f

-- a part of n bytes that lies in the file has n bytes
pub length_slice : (n k : ℕ) (file : List ℕ) → k + n ≤ length file → length (take n (drop k file)) ≡ n
length_slice n k file l = length-take-le n (drop k file) (omega (arith, length-drop k file))
