-- Rule 4's test tells exactly where the rule fails.
use Rattle.std.proofs.Common.{◌≡◌, ◌≢◌, ◌⊎◌, inl, inr, ◌↔◌, ℕ, suc, ◌+◌, ◌-◌, ◌<◌, ◌≤◌, Bool, true, false, cond, ltb, List, [], ◌∷◌, length, slice_index, Option, Some, None, refl, sym, ap, ◌∙◌, subst, arith}
use Rattle.std.specs.Prelude.{◌||◌, ◌==◌, not, nat_le, nat_lt, slice_get, option_map}
use Rattle.std.specs.List.{list_any, count_by}
use Rattle.std.specs.List.Sorted.{IsPermutation}
use Rattle.std.proofs.lemmas.Bool.{cases_Bool, cases_lt, and_parts, and_from, or_cases, or_left, or_right, eqb-true, eq-eqb, leb-true, ltb-true, le-leb, lt-ltb, false_from_ne_true, not-true, not_from_false}
use Rattle.std.proofs.lemmas.Bool.Decides.{nat_tests}
use Rattle.std.proofs.lemmas.Option.{slice_get-map, slice_get_within}
use Rattle.pun_base.specs.Memory.{Cell}
use Rattle.elf_read.proofs.PlainFronts.{is_false}
use Rattle.patch_report.proofs.ListPlaces.{found, some_is, any_at, counted_twice, all_in}
use Rattle.image_check.specs.declared.placed_code.PlacedCode.{PlacedCode}
use Rattle.image_check.specs.CodeParts.{code_span, ArePlaced, IsPlaced, in_code, holds_code, breaks_code, wrong_code}
use Rattle.image_check.specs.declared.rule.Rule.TheVariants as rule
use Rattle.image_check.specs.declared.span.Span.{Span}
use Rattle.image_check.specs.Parts.{Covers, in_span, line_of}
use Rattle.sound_images.specs.Reports.{Line, on_page}
use Rattle.image_check.specs.Stretches.{CoversFirst, CodeBroken}
use Rattle.sound_images.specs.Rules.{Case, HasCode, LiesIn, HoldsCode, CodeFails}
use Rattle.sound_images.proofs.CountedElements.{by_count, count_cons}
use Rattle.image_check.proofs.NearCounts.{any_moved}
use Rattle.image_check.proofs.NearCode.{code_moved}

-- two places of a list pass a test
pub record TwoAt {X : Type 0} (p : X → Bool) (xs : List X) : Type 0 where
  pub first : ℕ
  pub second : ℕ
  pub one : X
  pub other : X
  pub below : first < second
  pub at_first : slice_get xs first ≡ Some one
  pub at_second : slice_get xs second ≡ Some other
  pub one_passes : p one ≡ true
  pub other_passes : p other ≡ true

-- a list of which something is counted has an element that passes the test
counted_some : {X : Type 0} (p : X → Bool) (xs : List X) → 1 ≤ count_by p xs → list_any p xs ≡ true
counted_some p xs h = by_count p xs ∙ lt-ltb 0 (count_by p xs) (omega (arith, h))

-- where two elements are counted of a list with one more, two places of the list pass
two_step : {X : Type 0} (p : X → Bool) (x : X) (xs : List X) → (2 ≤ count_by p xs → TwoAt p xs) → (p x ≡ true) ⊎ (p x ≡ false)
    → 2 ≤ count_by p (x ∷ xs) → TwoAt p (x ∷ xs)
two_step p x xs go (inl e) h =
    let n : count_by p (x ∷ xs) ≡ 1 + count_by p xs = count_cons p x xs ∙ ap (λ b. cond b 1 0 + count_by p xs) e in
    let f = found p xs (counted_some p xs (omega (arith, n, h))) in
    record {
      first = 0;
      second = suc f.place;
      one = x;
      other = f.is;
      below = omega arith;
      at_first = refl;
      at_second = f.at;
      one_passes = e;
      other_passes = f.passes;
    }
two_step p x xs go (inr e) h =
    let n : count_by p (x ∷ xs) ≡ 0 + count_by p xs = count_cons p x xs ∙ ap (λ b. cond b 1 0 + count_by p xs) e in
    let t = go (omega (arith, n, h)) in
    record {
      first = suc t.first;
      second = suc t.second;
      one = t.one;
      other = t.other;
      below = omega (arith, t.below);
      at_first = t.at_first;
      at_second = t.at_second;
      one_passes = t.one_passes;
      other_passes = t.other_passes;
    }

-- what is counted twice stands at two places
pub two_places : {X : Type 0} (p : X → Bool) (xs : List X) → 2 ≤ count_by p xs → TwoAt p xs
two_places p [] h = absurd (omega (arith, h))
two_places p (x ∷ xs) h = two_step p x xs (two_places p xs) (cases_Bool (p x)) h

-- a byte that is held, R-X
pub held : (d : Option Cell) (b : ℕ) → holds_code d b ≡ true → d ≡ Some (record { byte = b; perms = 5 })
held None b h = absurd cc
held (Some d) b h =
    let p = and_parts (d.byte == b) (d.perms == 5) h in
    λ i. Some (record { byte = eqb-true d.byte b p.0 i; perms = eqb-true d.perms 5 p.1 i })

-- a byte that is loaded R-X is held
pub held_back : (d : Option Cell) (b : ℕ) → d ≡ Some (record { byte = b; perms = 5 }) → holds_code d b ≡ true
held_back d b e = ap (λ z. holds_code z b) e ∙ and_from (b == b) true (eq-eqb b b refl) refl

-- the code of the trampoline at a place of a list
pub record PlacedAt (c : Case) (ps : List PlacedCode) (i x : ℕ) (at : LiesIn c i x) : Type 0 where
  pub code : PlacedCode
  pub is : slice_get ps i ≡ Some code
  pub lies : in_code x code ≡ true
  pub line : line_of code.line ≡ at.line
  pub bytes : at.code ≡ code.bytes

-- what a trampoline of placed code maps to comes from a piece of placed code
pub mapped : (o : Option PlacedCode) (l : Line) → option_map (λ (p : PlacedCode). line_of p.line) o ≡ Some l
    → (p : PlacedCode) × (o ≡ Some p) × (line_of p.line ≡ l)
mapped None l e = absurd cc
mapped (Some p) l e = (p, refl, some_is (line_of p.line) l e)

module _ (c : Case) (ps : List PlacedCode) (A : ArePlaced c ps) (x : ℕ) where
  -- an address in placed code lies in the code of that trampoline
  lies : (i : ℕ) (p : PlacedCode) → slice_get ps i ≡ Some p → in_code x p ≡ true → LiesIn c i x
  lies i p e h =
      let q = and_parts (nat_le p.line.tramp.place x) (nat_lt x (p.line.tramp.place + length p.bytes)) h in
      let lo : p.line.tramp.place ≤ x = leb-true p.line.tramp.place x q.0 in
      let hi : x < p.line.tramp.place + length p.bytes = ltb-true x (p.line.tramp.place + length p.bytes) q.1 in
      record {
        line = line_of p.line;
        listed = sym (ap (λ (z : List Line). slice_get z i) A.lines_are) ∙ slice_get-map (λ (p : PlacedCode). line_of p.line) ps i
            ∙ ap (option_map (λ (p : PlacedCode). line_of p.line)) e;
        code = p.bytes;
        has = (all_in (IsPlaced c) ps p A.codes_are (i, e)).has (omega (arith, lo, hi));
        low = lo;
        high = hi;
      }

  -- an address in the code of a trampoline lies in that placed code
  placed_at : (i : ℕ) (at : LiesIn c i x) → PlacedAt c ps i x at
  placed_at i at =
      let m = mapped (slice_get ps i) at.line
      (sym (slice_get-map (λ (p : PlacedCode). line_of p.line) ps i) ∙ ap (λ (z : List Line). slice_get z i) A.lines_are ∙ at.listed) in
      let p = m.0 in
      let own : HasCode c (line_of p.line) at.code = subst (λ (l : Line). HasCode c l at.code) (sym m.2) at.has in
      let same : at.code ≡ p.bytes = (all_in (IsPlaced c) ps p A.codes_are (i, m.1)).only at.code own in
      let place : p.line.tramp.place ≡ at.line.tramp.place = ap (λ (l : Line). l.tramp.place) m.2 in
      let long : length at.code ≡ length p.bytes = ap length same in
      record {
        code = p;
        is = m.1;
        lies = and_from (nat_le p.line.tramp.place x) (nat_lt x (p.line.tramp.place + length p.bytes))
            (le-leb p.line.tramp.place x (omega (arith, place, at.low)))
            (lt-ltb x (p.line.tramp.place + length p.bytes) (omega (arith, place, long, at.high)));
        line = m.2;
        bytes = same;
      }

  -- how it fails, where it does by the test
  broken : list_any (breaks_code (c.patched x) x) ps ≡ true → CodeFails c x
  unfolding lies
  broken h =
      let f = found (breaks_code (c.patched x) x) ps h in
      let byte = slice_index f.is.bytes (x - f.is.line.tramp.place) in
      let held = holds_code (c.patched x) byte in
      let q = and_parts (in_code x f.is) (not held) f.passes in
      (f.place, lies f.place f.is f.at q.0, inl (λ e. is_false held (not-true held q.1) (held_back (c.patched x) byte e)))

  -- an address in two codes breaks rule 4
  twice : 2 ≤ count_by (in_code x) ps → CodeFails c x
  twice h =
      let t = two_places (in_code x) ps h in
      let n : t.first ≢ t.second = λ e. omega (arith, t.below, e) in
      (t.first, lies t.first t.one t.at_first t.one_passes, inr (inl (t.second, n, lies t.second t.other t.at_second t.other_passes)))

  -- an address in code but on no page of the report breaks rule 4
  unpaged : 1 ≤ count_by (in_code x) ps → on_page c.report x ≡ false → CodeFails c x
  unpaged h e = let f = found (in_code x) ps (counted_some (in_code x) ps h) in (f.place, lies f.place f.is f.at f.passes, inr (inr e))

  -- where the test of rule 4 passes, the rule fails
  test_fails : wrong_code c ps x ≡ true → CodeFails c x
  test_fails h =
      let q = and_parts (nat_le 1 (count_by (in_code x) ps)) _ h in
      elim (or_cases (nat_le 2 (count_by (in_code x) ps)) (list_any (breaks_code (c.patched x) x) ps || not (on_page c.report x)) q.1) [
        | inl e ↦ twice (leb-true 2 (count_by (in_code x) ps) e)
        | inr e ↦ elim (or_cases (list_any (breaks_code (c.patched x) x) ps) (not (on_page c.report x)) e) [
          | inl k ↦ broken k
          | inr k ↦ unpaged (leb-true 1 (count_by (in_code x) ps) q.0) (not-true (on_page c.report x) k)
        ]
      ]

  -- an address in placed code is counted
  counted : (i : ℕ) (p : PlacedCode) → slice_get ps i ≡ Some p → in_code x p ≡ true → nat_le 1 (count_by (in_code x) ps) ≡ true
  counted i p e h =
      let k : ltb 0 (count_by (in_code x) ps) ≡ true = sym (by_count (in_code x) ps) ∙ any_at (in_code x) ps i p e h in
      le-leb 1 (count_by (in_code x) ps) (omega (arith, ltb-true 0 (count_by (in_code x) ps) k))

  -- an address in the codes at two indices is in two codes at least
  both_lie : (i j : ℕ) (p q : PlacedCode) → i ≢ j → slice_get ps i ≡ Some p → in_code x p ≡ true → slice_get ps j ≡ Some q
      → in_code x q ≡ true → 2 ≤ count_by (in_code x) ps
  both_lie i j p q n e h f k = elim (cases_lt i j) [
    | inl l ↦ counted_twice (in_code x) ps i j p q l e h f k
    | inr l ↦ counted_twice (in_code x) ps j i q p (omega (arith, n, l)) f k e h
  ]

  -- each reason why rule 4 fails passes its test
  fails_by : (i : ℕ) (at : LiesIn c i x)
      → ((HoldsCode c x (slice_index at.code (x - at.line.tramp.place)) → ⊥) ⊎ ((j : ℕ) × (i ≢ j) × LiesIn c j x)
      ⊎ (on_page c.report x ≡ false))
      → (nat_le 2 (count_by (in_code x) ps) || (list_any (breaks_code (c.patched x) x) ps || not (on_page c.report x))) ≡ true
  fails_by i at (inl n) =
      let u = placed_at i at in
      let p = u.code in
      let byte : slice_index at.code (x - at.line.tramp.place) ≡ slice_index p.bytes (x - p.line.tramp.place) =
      λ k. slice_index (u.bytes k) (x - (sym u.line k).tramp.place) in
      let test = holds_code (c.patched x) (slice_index p.bytes (x - p.line.tramp.place)) in
      let fails : test ≡ false = false_from_ne_true test (λ e. n (held (c.patched x) (slice_index p.bytes (x - p.line.tramp.place)) e
      ∙ ap (λ z. Some (record { byte = z; perms = 5 })) (sym byte))) in
      let b : breaks_code (c.patched x) x p ≡ true = and_from (in_code x p) (not test) u.lies (not_from_false test fails) in
      or_right (nat_le 2 (count_by (in_code x) ps)) _
      (or_left (list_any (breaks_code (c.patched x) x) ps) (not (on_page c.report x)) (any_at (breaks_code (c.patched x) x) ps i p u.is b))
  fails_by i at (inr (inl o)) =
      let u = placed_at i at in
      let v = placed_at o.0 o.2 in
      or_left (nat_le 2 (count_by (in_code x) ps)) _
      (le-leb 2 (count_by (in_code x) ps) (both_lie i o.0 u.code v.code o.1 u.is u.lies v.is v.lies))
  fails_by i at (inr (inr e)) =
      or_right (nat_le 2 (count_by (in_code x) ps)) _
      (or_right (list_any (breaks_code (c.patched x) x) ps) (not (on_page c.report x)) (ap not e))

  -- where rule 4 fails, its test passes
  fails_test : CodeFails c x → wrong_code c ps x ≡ true
  fails_test f =
      let u = placed_at f.0 f.1 in
      and_from (nat_le 1 (count_by (in_code x) ps)) _ (counted f.0 u.code u.is u.lies) (fails_by f.0 f.1 f.2)

  -- the test tells exactly where rule 4 fails
  pub code_is : (wrong_code c ps x ≡ true) ↔ CodeFails c x
  code_is = (test_fails, fails_test)

-- an address in code is in its span
pub code_in_span : (x : ℕ) (p : PlacedCode) → in_code x p ≡ true → in_span x (code_span p) ≡ true
code_in_span x p h = grind (arith, nat_tests)

-- where rule 4 fails is in the span of some code, whatever its order
pub code_covered : (c : Case) (qs ps : List PlacedCode) → ArePlaced c qs → IsPermutation qs ps → (ss : List Span)
    → CoversFirst (CodeBroken c ps) ps (length ps) ss → Covers c rule.Code ss
code_covered c qs ps a m ss h x f =
    let u = placed_at c qs a x f.0 f.1 in
    let k = found (in_code x) ps (any_moved (in_code x) qs ps m ∙ any_at (in_code x) qs f.0 u.code u.is u.lies) in
    h k.place k.is (slice_get_within ps k.place k.is k.at) k.at x (k.passes, code_moved c x qs ps m ∙ fails_test c qs a x f)
