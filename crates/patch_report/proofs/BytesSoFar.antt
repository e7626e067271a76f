-- Bytes that were read into a buffer so far, and those that are still to be read.
use Rattle.std.proofs.Common.{◌≡◌, ℕ, suc, ◌+◌, ◌-◌, ◌<◌, ◌≤◌, List, [], ◌∷◌, ◌++◌, length, take, set, Some, None, refl, sym, ap, ◌∙◌, append-nil, arith}
use Rattle.std.proofs.lemmas.List.{take_more_set, length-take-le}
use Rattle.patch_report.specs.Fields.{byte_at, bytes_at}
use Rattle.patch_report.proofs.PagesSoFar.{behind, regroup}

-- Where a byte was read and written, the others are those of the rest.
pub goes_on : (buffer : List ℕ) (place byte : ℕ) (text later : List ℕ) (total : List ℕ × List ℕ) → place < 16 → length buffer ≡ 16
    → byte_at text ≡ Some (byte, later) → behind (take place buffer) (bytes_at (16 - place) text) ≡ total
    → behind (take (place + 1) (set buffer place byte)) (bytes_at (16 - (place + 1)) later) ≡ total
unfolding bytes_at
goes_on buffer place byte text later total lt l h so_far =
    let k : 16 - place ≡ suc (16 - (place + 1)) = omega arith in
    let t : take (place + 1) (set buffer place byte) ≡ take place buffer ++ byte ∷ [] = take_more_set buffer place byte (omega arith) in
    let one : behind (take place buffer) (bytes_at (16 - place) text)
    ≡ behind (take (place + 1) (set buffer place byte)) (bytes_at (16 - (place + 1)) later) =
    rw (k, h, t) (regroup (take place buffer) byte (bytes_at (16 - (place + 1)) later)) in
    sym one ∙ so_far

-- The bytes that a text begins with stand at the front of a buffer, and so many they are.
pub record IsFilled (buffer : List ℕ) (count : ℕ) (text left : List ℕ) : Type 0 where
  pub bytes : take count buffer ≡ (bytes_at 16 text).0
  pub count_is : count ≡ length (bytes_at 16 text).0
  pub later : left ≡ (bytes_at 16 text).1
  pub fits : count ≤ 16

-- Where nothing more is read, all was read.
filled : (buffer text left : List ℕ) (place : ℕ) (rest : List ℕ × List ℕ) → place ≤ 16 → length buffer ≡ 16 → rest ≡ ([], left)
    → behind (take place buffer) rest ≡ bytes_at 16 text → IsFilled buffer place text left
filled buffer text left place rest le l e so_far =
    let whole : (take place buffer, left) ≡ bytes_at 16 text =
    (λ i. (sym (append-nil (take place buffer)) i, left)) ∙ (sym (ap (behind (take place buffer)) e) ∙ so_far) in
    record {
      bytes = ap (λ (x : List ℕ × List ℕ). x.0) whole;
      count_is = sym (length-take-le place buffer (omega arith)) ∙ ap (λ (x : List ℕ × List ℕ). length x.0) whole;
      later = ap (λ (x : List ℕ × List ℕ). x.1) whole;
      fits = le;
    }

-- Where no byte comes next, reading is done.
pub stops : (buffer text left : List ℕ) (place : ℕ) → place < 16 → length buffer ≡ 16 → byte_at left ≡ None
    → behind (take place buffer) (bytes_at (16 - place) left) ≡ bytes_at 16 text → IsFilled buffer place text left
unfolding bytes_at
stops buffer text left place lt l h so_far =
    let k : 16 - place ≡ suc (16 - (place + 1)) = omega arith in
    filled buffer text left place (bytes_at (16 - place) left) (omega arith) l (rw (k, h) refl) so_far

-- Where the buffer is full, reading is done.
pub is_done : (buffer text left : List ℕ) (place : ℕ) → 16 ≤ place → place ≤ 16 → length buffer ≡ 16
    → behind (take place buffer) (bytes_at (16 - place) left) ≡ bytes_at 16 text → IsFilled buffer 16 text left
unfolding bytes_at
is_done buffer text left place ge le l so_far =
    let k : 16 - place ≡ 0 = omega arith in
    let p : place ≡ 16 = omega arith in
    let done = filled buffer text left place (bytes_at (16 - place) left) le l (rw k refl) so_far in
    rw p at done
