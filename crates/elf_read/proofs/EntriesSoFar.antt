-- Entries that were read so far, and those that are still to be read.
use Rattle.std.proofs.Common.{◌≡◌, ℕ, suc, ◌+◌, ◌-◌, ◌<◌, List, [], ◌∷◌, ◌++◌, length, ap, ◌∙◌, arith, append_assoc}
use Rattle.std.proofs.lemmas.List.{length_push}
use Rattle.elf_read.specs.declared.segment.Segment.{Segment}
use Rattle.elf_read.specs.Entries.{segment_at, segments_from}

-- The entries read so far and those still to come are the same when one more was read.
pub one_more : (bytes : List ℕ) (at n k : ℕ) (xs ys : List Segment) (s : Segment) → k < n → ys ≡ xs ++ s ∷ [] → s ≡ segment_at bytes at → ys ++ segments_from bytes (at + 56) (n - (k + 1)) ≡ xs ++ segments_from bytes at (n - k)
one_more bytes at n k xs ys s l e f =
    let more : n - k ≡ suc (n - (k + 1)) = omega arith in
    let rest = segments_from bytes (at + 56) (n - (k + 1)) in
    rw more (ap (λ (z : List Segment). z ++ rest) e ∙ append_assoc xs (s ∷ []) rest ∙ ap (λ (z : Segment). xs ++ (z ∷ rest)) f)

-- One entry more is pushed, and the list is one longer.
pub length_pushed : (xs ys : List Segment) (s : Segment) → ys ≡ xs ++ s ∷ [] → length ys ≡ length xs + 1
length_pushed xs ys s e = ap length e ∙ length_push xs s
