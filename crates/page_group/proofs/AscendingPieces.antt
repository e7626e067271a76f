-- Pieces that ascend don't meet.
use Rattle.std.proofs.Common.{◌≡◌, ℕ, ◌+◌, ◌<◌, ◌≤◌, inl, inr, List, [], ◌∷◌, ◌++◌, length, get_or, take, sym, ap, ◌∙◌, subst, arith}
use Rattle.std.proofs.lemmas.Bool.{cases_lt}
use Rattle.std.proofs.lemmas.List.{length_push, get_or_append_left, get_or_push, get_or-map, length-map, take_more, take_all}
use Rattle.pun_base.specs.declared.range.Range.{Range}
use Rattle.pun_base.specs.Ranges.{ends}
use Rattle.page_group.specs.Pages.{ends_of, AreDisjoint}

-- each piece ends at or before the beginning of a later one, and at or before an address
pub record AscendTo (end : ℕ) (pieces : List Range) : Type 0 where
  pub apart : (i j : ℕ) (d : Range) → i < j → j < length pieces → (get_or pieces i d).hi ≤ (get_or pieces j d).lo
  pub below : (i : ℕ) (d : Range) → i < length pieces → (get_or pieces i d).hi ≤ end

-- no piece ascends to 0
pub ascend_none : AscendTo 0 []
ascend_none = record { apart = λ i j d l m. absurd (omega arith); below = λ i d l. absurd (omega arith) }

-- one piece more
ascend_push : (end : ℕ) (pieces : List Range) (piece : Range) → AscendTo end pieces → end ≤ piece.lo
    → AscendTo piece.hi (pieces ++ piece ∷ [])
ascend_push end pieces piece h low =
    let size = length_push pieces piece in
    let kept = λ (i : ℕ) (d : Range) (l : i < length pieces). get_or_append_left pieces (piece ∷ []) d i l in
    let last = λ (i : ℕ) (d : Range) (e : length pieces ≡ i). get_or_push pieces piece d i e in
    record {
      apart = λ i j d l m.
          let first : i < length pieces = omega arith in
          let a = ap (λ (p : Range). p.hi) (kept i d first) in
          elim (cases_lt j (length pieces)) [
            | inl n ↦ (let b = ap (λ (p : Range). p.lo) (kept j d n) in let c = h.apart i j d l n in omega arith)
            | inr n ↦ (let b = ap (λ (p : Range). p.lo) (last j d (omega arith)) in let c = h.below i d first in omega arith)
          ];
      below = λ i d l. elim (cases_lt i (length pieces)) [
        | inl n ↦ (
            let a = ap (λ (p : Range). p.hi) (kept i d n) in
            let c = h.below i d n in
            let some = piece.nonempty in
            omega arith
            )
        | inr n ↦ (let a = ap (λ (p : Range). p.hi) (last i d (omega arith)) in omega arith)
      ];
    }

-- one piece more of a list, which begins at or behind the end so far, ascends to its own end
pub ascend_more : (end i : ℕ) (pieces : List Range) (piece : Range) → i < length pieces → piece ≡ get_or pieces i piece
    → AscendTo end (take i pieces) → end ≤ piece.lo → AscendTo piece.hi (take (i + 1) pieces)
ascend_more end i pieces piece l e h low =
    let split : take (i + 1) pieces ≡ take i pieces ++ piece ∷ [] =
    take_more pieces i piece l ∙ ap (λ (p : Range). take i pieces ++ p ∷ []) (sym e) in
    subst (AscendTo piece.hi) (sym split) (ascend_push end (take i pieces) piece h low)

-- pieces that ascend are disjoint
pub ascend_all : (end i : ℕ) (pieces : List Range) → length pieces ≤ i → AscendTo end (take i pieces) → AreDisjoint (ends_of pieces)
ascend_all end i pieces l h =
    let all : AscendTo end pieces = subst (AscendTo end) (take_all i pieces l) h in
    λ a b d m n.
    let within : b < length pieces = omega (arith, n, length-map pieces ends) in
    let first : a < length pieces = omega arith in
    let e : Range = record { lo = 0; hi = 1; nonempty = omega arith } in
    let end_a = ap (λ (p : ℕ × ℕ). p.1) (get_or-map ends pieces a e d first) in
    let begin_b = ap (λ (p : ℕ × ℕ). p.0) (get_or-map ends pieces b e d within) in
    let apart = all.apart a b e m within in
    inl (omega arith)
