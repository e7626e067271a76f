-- The occupied offsets of pages, piece by piece.
use Rattle.std.proofs.Common.{◌≡◌, ℕ, ◌+◌, ◌-◌, ◌*◌, ◌/◌, ◌%◌, ◌≤◌, ◌<◌, min, inl, inr, Bool, true, false, ◌&&◌, ◌||◌, ◌==◌, nat_le, nat_lt, List, [], ◌∷◌, ◌++◌, length, get_or, set, take, refl, sym, ap, ◌∙◌, subst, arith}
use Rattle.std.specs.List.Sorted.{IsStrictlyIncreasing, IsNonDecreasingBy}
use Rattle.std.proofs.lemmas.Bool.{cases_eq, cases_lt, eq-eqb, lt-ltb, le-ltb, lt-leb, and_left, and_right}
use Rattle.std.proofs.lemmas.Bool.Decides.{nat_tests}
use Rattle.std.proofs.lemmas.List.{get_or-set_same, get_or-set_other, map-append, take_more, take_all, get_or_default}
use Rattle.std.proofs.lemmas.List.Elements.{Contains-get_or}
use Rattle.std.proofs.lemmas.List.Folds.{list_any-append}
use Rattle.std.proofs.lemmas.Map.Keys.{sorted_from_strictly_increasing, non_decreasing_from_sorted}
use Rattle.pun_base.specs.declared.range.Range.{Range}
use Rattle.pun_base.specs.Ranges.{ends}
use Rattle.page_group.specs.declared.offsets.Offsets.{Offsets}
use Rattle.page_group.specs.Pages.{ends_of, holds, is_covered, is_occupied, IsPageList}
use Rattle.page_group.specs.Occupancy.{has, AreOccupied}

-- pages that ascend don't descend
pub non_decreasing : (pages : List ℕ) → IsStrictlyIncreasing pages → IsNonDecreasingBy (λ x. x) pages
non_decreasing pages s = λ i j d l m. non_decreasing_from_sorted pages (sorted_from_strictly_increasing pages s) i j d l m

-- the offsets from a piece's first byte in a page up to its last are those that it occupies
pub page_range : (lo hi page k : ℕ) → page % 4096 ≡ 0 → page < hi
    → (nat_le (lo - page) k && nat_lt k (min (hi - page) 4096)) ≡ is_occupied ((lo, hi) ∷ []) page k
page_range lo hi page k whole below = rw (eq-eqb (page % 4096) 0 whole) (grind (arith, nat_tests))

-- a page below that of a piece's first byte has none of its bytes
pub misses_low : (lo hi page k : ℕ) → page % 4096 ≡ 0 → page < lo / 4096 * 4096 → is_occupied ((lo, hi) ∷ []) page k ≡ false
misses_low lo hi page k whole low = and_right (page % 4096 == 0) _ (elim (cases_lt k 4096) [
  | inr far ↦ and_left (nat_lt k 4096) _ (le-ltb k 4096 far)
  | inl near ↦ (
      let before : page + k < lo = omega arith in
      and_right (nat_lt k 4096) _ (rw (lt-leb lo (page + k) before) refl)
      )
])

-- a page at or past a piece's end has none of its bytes
pub misses_high : (lo hi page k : ℕ) → hi ≤ page → is_occupied ((lo, hi) ∷ []) page k ≡ false
misses_high lo hi page k high = and_right (page % 4096 == 0) _ (and_right (nat_lt k 4096) _ (
    let past : hi ≤ page + k = omega arith in rw (le-ltb (page + k) hi past, and_right (nat_le lo (page + k)) false refl) refl
    ))

-- the sets of the pages before a place have a piece's bytes besides what they had
abbrev pub AddsBefore : ℕ × ℕ → ℕ → List ℕ → List Offsets → List Offsets → Type 0
AddsBefore piece place pages was now = (other k : ℕ) (d : Offsets) → other < length pages
    → has (get_or now other d) k
    ≡ ((nat_lt other place && is_occupied (piece ∷ []) (get_or pages other 0) k) || has (get_or was other d) k)

-- before the first page with a byte of the piece there is nothing to add
pub adds_none : (lo hi first : ℕ) (pages : List ℕ) (sets : List Offsets)
    → ((place : ℕ) → place < length pages → get_or pages place 0 % 4096 ≡ 0)
    → ((place : ℕ) → place < first → get_or pages place 0 < lo / 4096 * 4096) → first ≤ length pages
    → AddsBefore (lo, hi) first pages sets sets
adds_none lo hi first pages sets whole below within other k d l = elim (cases_lt other first) [
  | inl m ↦ rw (misses_low lo hi (get_or pages other 0) k (whole other l) (below other m), and_right (nat_lt other first) false refl) refl
  | inr m ↦ rw (le-ltb other first m) refl
]

-- one page more gets the piece's bytes besides what it had
pub adds_more : (piece : ℕ × ℕ) (place : ℕ) (pages : List ℕ) (was now : List Offsets) (new old : Offsets) → place < length now
    → AddsBefore piece place pages was now
    → ((k : ℕ) → has new k ≡ (is_occupied (piece ∷ []) (get_or pages place 0) k || has (get_or now place old) k))
    → AddsBefore piece (place + 1) pages was (set now place new)
adds_more piece place pages was now new old within before added other k d l = elim (cases_eq other place) [
  | inl e ↦ subst (λ (o : ℕ). has (get_or (set now place new) o d) k
      ≡ ((nat_lt o (place + 1) && is_occupied (piece ∷ []) (get_or pages o 0) k) || has (get_or was o d) k)) (sym e) (
      let kept = before place k d (subst (λ (o : ℕ). o < length pages) e l) in
      rw (get_or-set_same now place new d within, added k, get_or_default now place old d within, kept) (
      rw (le-ltb place place (omega arith), lt-ltb place (place + 1) (omega arith)) refl
      )
      )
  | inr n ↦ (
      let same : nat_lt other (place + 1) ≡ nat_lt other place = grind (arith, nat_tests) in
      rw (get_or-set_other now place other new d n, same) (before other k d l)
      )
]

-- behind the last page with a byte of the piece there is nothing left to add
pub adds_all : (lo hi end place : ℕ) (pages : List ℕ) (was now : List Offsets) → AddsBefore (lo, hi) place pages was now → end ≤ place
    → ((other : ℕ) → end ≤ other → other < length pages → hi ≤ get_or pages other 0) → (other k : ℕ) (d : Offsets) → other < length pages
    → has (get_or now other d) k ≡ (is_occupied ((lo, hi) ∷ []) (get_or pages other 0) k || has (get_or was other d) k)
adds_all lo hi end place pages was now h l above other k d m = h other k d m ∙ elim (cases_lt other place) [
  | inl n ↦ rw (lt-ltb other place n) refl
  | inr n ↦ rw (misses_high lo hi (get_or pages other 0) k (above other (omega arith) m), and_right (nat_lt other place) false refl) refl
]

-- two conditions on either of two tests
spread : (a b x y : Bool) → (a && (b && (x || y))) ≡ ((a && (b && y)) || (a && (b && x)))
spread false b x y = refl
spread true false x y = refl
spread true true true true = refl
spread true true true false = refl
spread true true false true = refl
spread true true false false = refl

-- nothing is occupied without a piece
nothing : (page k : ℕ) → is_occupied [] page k ≡ false
nothing page k = and_right (page % 4096 == 0) _ (and_right (nat_lt k 4096) false refl)

-- one piece more
occupied_more : (ps : List (ℕ × ℕ)) (p : ℕ × ℕ) (page k : ℕ)
    → is_occupied (ps ++ p ∷ []) page k ≡ (is_occupied (p ∷ []) page k || is_occupied ps page k)
occupied_more ps p page k =
    ap (λ (b : Bool). (page % 4096 == 0) && (nat_lt k 4096 && b)) (list_any-append (holds (page + k)) ps (p ∷ []))
    ∙ spread (page % 4096 == 0) (nat_lt k 4096) (is_covered ps (page + k)) (is_covered (p ∷ []) (page + k))

-- before the first piece nothing is occupied
pub occupied_none : (pages : List ℕ) (sets : List Offsets) → length sets ≡ length pages
    → ((place k : ℕ) (d : Offsets) → place < length pages → has (get_or sets place d) k ≡ false) → AreOccupied [] pages sets
occupied_none pages sets size empty = record {
  size = size;
  exact = λ place k d l. empty place k d l ∙ sym (nothing (get_or pages place 0) k);
}

-- after one piece more its offsets are occupied too
pub occupied_next : (pieces : List Range) (i : ℕ) (piece : Range) (pages : List ℕ) (was now : List Offsets) → i < length pieces
    → piece ≡ get_or pieces i piece → length now ≡ length was → AreOccupied (ends_of (take i pieces)) pages was
    → ((place k : ℕ) (d : Offsets) → place < length pages → has (get_or now place d) k
    ≡ (is_occupied (ends piece ∷ []) (get_or pages place 0) k || has (get_or was place d) k))
    → AreOccupied (ends_of (take (i + 1) pieces)) pages now
occupied_next pieces i piece pages was now l e size h added =
    let front = take i pieces in
    let split : take (i + 1) pieces ≡ front ++ piece ∷ [] = take_more pieces i piece l ∙ ap (λ (p : Range). front ++ p ∷ []) (sym e) in
    let mapped : ends_of (take (i + 1) pieces) ≡ ends_of front ++ ends piece ∷ [] =
    ap (λ (ps : List Range). ends_of ps) split ∙ map-append ends front (piece ∷ []) in
    subst (λ (ps : List (ℕ × ℕ)). AreOccupied ps pages now) (sym mapped) (record {
      size = size ∙ h.size;
      exact = λ place k d m.
          added place k d m
          ∙ ap (λ (b : Bool). is_occupied (ends piece ∷ []) (get_or pages place 0) k || b) (h.exact place k d m)
          ∙ sym (occupied_more (ends_of front) (ends piece) (get_or pages place 0) k);
    })

-- after all pieces the sets are the occupied offsets
pub occupied_all : (pieces : List Range) (i : ℕ) (pages : List ℕ) (sets : List Offsets) → length pieces ≤ i
    → AreOccupied (ends_of (take i pieces)) pages sets → AreOccupied (ends_of pieces) pages sets
occupied_all pieces i pages sets l h = subst (λ (ps : List Range). AreOccupied (ends_of ps) pages sets) (take_all i pieces l) h

-- a listed page's address is a multiple of a page's size
pub whole_pages : (pieces : List (ℕ × ℕ)) (pages : List ℕ) → IsPageList pieces pages → (place : ℕ) → place < length pages
    → get_or pages place 0 % 4096 ≡ 0
whole_pages pieces pages listed place l =
    let m = (listed.exact (get_or pages place 0)).0 (Contains-get_or pages place 0 l) in
    let e = m.2 in omega arith
