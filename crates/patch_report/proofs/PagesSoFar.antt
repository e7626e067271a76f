-- Pages that were read so far, and those that are still to be read.
use Rattle.std.proofs.Common.{◌≡◌, ℕ, suc, ◌+◌, ◌-◌, ◌<◌, ◌≤◌, List, [], ◌∷◌, ◌++◌, Some, None, sym, ap, ◌∙◌, append_assoc, append-nil, arith}
use Rattle.patch_report.specs.Reading.{At, found, page_from, pages_at, next_place}

-- What was read in front of what a reading gives.
abbrev pub behind : {X S : Type 0} → List X → List X × S → List X × S
behind front x = (front ++ x.0, x.1)

-- What is read next goes behind what was read.
pub regroup : {X S : Type 0} (front : List X) (y : X) (x : List X × S) → behind front (y ∷ x.0, x.1) ≡ behind (front ++ y ∷ []) x
regroup front y x = λ i. (sym (append_assoc front (y ∷ []) x.0) i, x.1)

-- Where a page was read, the others are those of the rest.
pub goes_on : (front : List (ℕ × ℕ)) (most turn low : ℕ) (at : At) (page : ℕ × ℕ) (next : At) (total : List (ℕ × ℕ) × At)
    → turn < most → found (page_from low) at ≡ Some (page, next)
    → behind front (pages_at (most - turn) low at) ≡ total
    → behind (front ++ page ∷ []) (pages_at (most - (turn + 1)) (next_place page.0) next) ≡ total
unfolding pages_at
goes_on front most turn low at page next total lt h so_far =
    let k : most - turn ≡ suc (most - (turn + 1)) = omega arith in
    let one : behind front (pages_at (most - turn) low at)
    ≡ behind (front ++ page ∷ []) (pages_at (most - (turn + 1)) (next_place page.0) next) =
    rw (k, h) (regroup front page (pages_at (most - (turn + 1)) (next_place page.0) next)) in
    sym one ∙ so_far

-- Where none comes next, reading is done.
pub stops : (front : List (ℕ × ℕ)) (most turn low : ℕ) (at : At) (total : List (ℕ × ℕ) × At)
    → turn < most → found (page_from low) at ≡ None
    → behind front (pages_at (most - turn) low at) ≡ total → total ≡ (front, at)
unfolding pages_at
stops front most turn low at total lt h so_far =
    let k : most - turn ≡ suc (most - (turn + 1)) = omega arith in
    let one : behind front (pages_at (most - turn) low at) ≡ (front, at) =
    rw (k, h) (ap (λ (ps : List (ℕ × ℕ)). (ps, at)) (append-nil front)) in
    sym so_far ∙ one

-- Where as many as may be were read, reading is done.
pub is_done : (front : List (ℕ × ℕ)) (most turn low : ℕ) (at : At) (total : List (ℕ × ℕ) × At)
    → most ≤ turn → behind front (pages_at (most - turn) low at) ≡ total → total ≡ (front, at)
unfolding pages_at
is_done front most turn low at total le so_far =
    let k : most - turn ≡ 0 = omega arith in
    let one : behind front (pages_at (most - turn) low at) ≡ (front, at) =
    rw k (ap (λ (ps : List (ℕ × ℕ)). (ps, at)) (append-nil front)) in
    sym so_far ∙ one
