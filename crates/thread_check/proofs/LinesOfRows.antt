-- Numbers differ among a report's trampolines with an event: a row's first one alone has one, and rows are numbered from the top down.
use Rattle.std.proofs.Common.{◌≡◌, inl, inr, ℕ, suc, ◌+◌, ◌≤◌, Bool, true, false, cond, not, ◌&&◌, eqb, List, [], ◌∷◌, length, map, refl, ap, ◌∙◌, arith}
use Rattle.std.specs.Prelude.{count_by}
use Rattle.std.specs.List.{list_any, flat_map}
use Rattle.std.proofs.lemmas.Bool.{cases_Bool, and_parts, or_parts, eqb-true, false_from_ne_true, not-true}
use Rattle.pun_base.specs.declared.tramp.Tramp.{Tramp}
use Rattle.patch_report.specs.Values.{BodyValue, RowValue}
use Rattle.patch_report.specs.Grammar.{CountsDown}
use Rattle.patch_report.proofs.ListPlaces.{In, count_cons}
use Rattle.sound_images.specs.Reports.{Line, lines, row_lines, tramps_of}
use Rattle.sound_images.specs.Rules.{is_own}
use Rattle.site_turns.proofs.JoinedLists.{counted_both}

-- a row's first trampoline is its own
abbrev pub IsOwn : RowValue → Type 0
IsOwn r = is_own r.site (tramps_of r.outcome) ≡ true

-- a trampoline has an event and this number
abbrev pub is_numbered : ℕ → Line → Bool
is_numbered n l = l.tramp.event && eqb l.number n

-- a trampoline with the number of its row
abbrev line_with : RowValue → Tramp → Line
line_with r t = record { number = r.number; tramp = t }

-- a fact and one that doesn't hold don't hold
with_false : (x y : Bool) → y ≡ false → (x && y) ≡ false
with_false true y e = e
with_false false y e = refl

-- one that doesn't hold and a fact don't hold
of_false : (x y : Bool) → x ≡ false → (x && y) ≡ false
of_false x y e = ap (λ z. z && y) e

-- what is counted of one element is one at most
one_at_most : (b : Bool) (k : ℕ) → k ≡ 0 → cond b 1 0 + k ≤ 1
one_at_most true k e = omega (arith, e)
one_at_most false k e = omega (arith, e)

module _ (n : ℕ) where
  -- one trampoline more
  more : (r : RowValue) (t : Tramp) (ts : List Tramp) → count_by (is_numbered n) (map (line_with r) (t ∷ ts))
      ≡ cond (t.event && eqb r.number n) 1 0 + count_by (is_numbered n) (map (line_with r) ts)
  more r t ts = count_cons (is_numbered n) (line_with r t) (map (line_with r) ts)

  -- a row with another number has none
  none_of_row : (r : RowValue) (ts : List Tramp) → eqb r.number n ≡ false → count_by (is_numbered n) (map (line_with r) ts) ≡ 0
  none_of_row r [] e = refl
  none_of_row r (t ∷ ts) e =
      let a = more r t ts ∙ ap (λ b. cond b 1 0 + count_by (is_numbered n) (map (line_with r) ts)) (with_false t.event (eqb r.number n) e) in
      let k = none_of_row r ts e in omega (arith, a, k)

  -- trampolines without an event have none
  none_without : (r : RowValue) (ts : List Tramp) → list_any (λ (t : Tramp). t.event) ts ≡ false → count_by (is_numbered n) (map (line_with r) ts) ≡ 0
  none_without r [] e = refl
  none_without r (t ∷ ts) e =
      let q = or_parts t.event (list_any (λ (t : Tramp). t.event) ts) e in
      let a = more r t ts ∙ ap (λ b. cond b 1 0 + count_by (is_numbered n) (map (line_with r) ts)) (of_false t.event (eqb r.number n) q.0) in
      let k = none_without r ts q.1 in omega (arith, a, k)

  -- a row whose first trampoline is its own has one at most
  few_of_row : (r : RowValue) (ts : List Tramp) → is_own r.site ts ≡ true → count_by (is_numbered n) (map (line_with r) ts) ≤ 1
  few_of_row r [] h = omega arith
  few_of_row r (t ∷ ts) h =
      let none = not-true (list_any (λ (t : Tramp). t.event) ts) (and_parts (eqb t.start r.site && t.event) (not (list_any (λ (t : Tramp). t.event) ts)) h).1 in
      let a = more r t ts in
      let k = one_at_most (t.event && eqb r.number n) (count_by (is_numbered n) (map (line_with r) ts)) (none_without r ts none) in
      omega (arith, a, k)

  -- so many rows have none: their numbers are below their count
  none_above : (rows : List RowValue) → CountsDown rows → length rows ≤ n → count_by (is_numbered n) (flat_map row_lines rows) ≡ 0
  none_above [] d h = refl
  none_above (r ∷ rs) d h =
      let other : eqb r.number n ≡ false = false_from_ne_true (eqb r.number n) (λ e. let s = eqb-true r.number n e in let k = d.0 in absurd (omega (arith, s, k, h))) in
      let a : count_by (is_numbered n) (flat_map row_lines (r ∷ rs)) ≡ count_by (is_numbered n) (row_lines r) + count_by (is_numbered n) (flat_map row_lines rs) =
      counted_both (is_numbered n) (row_lines r) (flat_map row_lines rs) in
      let b : count_by (is_numbered n) (row_lines r) ≡ 0 = none_of_row r (tramps_of r.outcome) other in
      let c = none_above rs d.1 (omega (arith, h)) in omega (arith, a, b, c)

  -- rows have one at most
  few_of_rows : (rows : List RowValue) → CountsDown rows → ((r : RowValue) → In rows r → IsOwn r) → count_by (is_numbered n) (flat_map row_lines rows) ≤ 1
  few_of_rows [] d own = omega arith
  few_of_rows (r ∷ rs) d own =
      let a : count_by (is_numbered n) (flat_map row_lines (r ∷ rs)) ≡ count_by (is_numbered n) (row_lines r) + count_by (is_numbered n) (flat_map row_lines rs) =
      counted_both (is_numbered n) (row_lines r) (flat_map row_lines rs) in
      elim (cases_Bool (eqb r.number n)) [
        | inl e ↦ (let s = eqb-true r.number n e in
            let k = d.0 in
            let b : count_by (is_numbered n) (row_lines r) ≤ 1 = few_of_row r (tramps_of r.outcome) (own r (0, refl)) in
            let c = none_above rs d.1 (omega (arith, s, k)) in omega (arith, a, b, c))
        | inr e ↦ (let b : count_by (is_numbered n) (row_lines r) ≡ 0 = none_of_row r (tramps_of r.outcome) e in
            let c = few_of_rows rs d.1 (λ q h. own q (suc h.0, h.1)) in omega (arith, a, b, c))
      ]

-- a number is that of one trampoline of the report with an event at most
pub number_once : (v : BodyValue) → ((r : RowValue) → In v.rows r → IsOwn r) → CountsDown v.rows → (n : ℕ) → count_by (is_numbered n) (lines v) ≤ 1
number_once v own d n = few_of_rows n v.rows d own
