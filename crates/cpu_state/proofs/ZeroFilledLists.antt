-- Lists that are filled up with zeros: their parts, one item changed, and more of the zeros written out.
use Rattle.std.proofs.Common.{◌≡◌, ℕ, ◌+◌, ◌-◌, ◌<◌, ◌≤◌, List, ◌++◌, length, take, drop, set, replicate, refl, sym, ap, ◌∙◌, arith, length-set, append_assoc}
use Rattle.std.proofs.lemmas.List.{drop-drop, drop_at, drop-replicate, take-replicate, set-append_left, replicate-append-replicate, length-append, length-replicate}
use Rattle.cpu_state.specs.Padded.{zero_filled}

past : (at k n : ℕ) (xs : List ℕ) → at ≡ length xs + k → drop at (xs ++ replicate n 0) ≡ replicate (n - k) 0
past at k n xs e =
    ap (λ j. drop j (xs ++ replicate n 0)) e ∙ sym (drop-drop k (length xs) (xs ++ replicate n 0))
    ∙ ap (drop k) (drop_at xs (replicate n 0) (length xs) refl) ∙ drop-replicate k n 0

-- behind the list each part is of zeros
pub zeros_in : (size at n : ℕ) (xs : List ℕ) → length xs ≤ at → at + n ≤ size → take n (drop at (zero_filled size xs)) ≡ replicate n 0
zeros_in size at n xs l m =
    ap (take n) (past at (at - length xs) (size - length xs) xs (omega arith))
    ∙ take-replicate n (size - length xs - (at - length xs)) 0 (omega arith)

-- an item of the list changed
pub set_filled : (size at b : ℕ) (xs : List ℕ) → at < length xs → zero_filled size (set xs at b) ≡ set (zero_filled size xs) at b
set_filled size at b xs l = rw length-set (sym (set-append_left xs (replicate (size - length xs) 0) at b l))

joined : (n k m : ℕ) (xs : List ℕ) → n + k ≡ m → (xs ++ replicate n 0) ++ replicate k 0 ≡ xs ++ replicate m 0
joined n k m xs e = append_assoc xs (replicate n 0) (replicate k 0) ∙ ap (λ ys. xs ++ ys) (replicate-append-replicate n k 0 ∙ ap (λ j. replicate j 0) e)

-- the same with some of the zeros in the list
pub filled_more : (size n : ℕ) (xs : List ℕ) → length xs + n ≤ size → zero_filled size (xs ++ replicate n 0) ≡ zero_filled size xs
filled_more size n xs l =
    joined n (size - length (xs ++ replicate n 0)) (size - length xs) xs (omega (arith, length-append {A = ℕ}, length-replicate {A = ℕ}))

-- the bytes are as many as the size says
pub length_filled : (size : ℕ) (xs : List ℕ) → length xs ≤ size → length (zero_filled size xs) ≡ size
length_filled size xs l = omega (arith, length-append {A = ℕ}, length-replicate {A = ℕ})
