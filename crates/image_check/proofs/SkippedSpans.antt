-- Spans that are left out for what keeps a rule, and what a list's other elements leave of an address.
use Rattle.std.proofs.Common.{◌≡◌, inl, inr, ◌↔◌, IsTrue, ℕ, ◌+◌, ◌-◌, ◌<◌, ◌≤◌, Bool, true, false, List, [], ◌∷◌, length, get_or, slice_index, Some, refl, sym, ap, ◌∙◌, subst, arith}
use Rattle.std.specs.Prelude.{◌&&◌, ◌||◌, not, nat_le, nat_lt, slice_get}
use Rattle.std.specs.List.{list_any, count_by}
use Rattle.std.specs.List.Sorted.{IsNonDecreasingBy}
use Rattle.std.proofs.lemmas.Bool.{cases_lt, and_parts, leb-true, ltb-true, false_from_ne_true, not-true}
use Rattle.std.proofs.lemmas.Bool.Decides.{nat_tests}
use Rattle.std.proofs.lemmas.Option.{slice_get_within, get_or_from_slice_get}
use Rattle.elf_read.proofs.PlainFronts.{is_false}
use Rattle.patch_report.proofs.ListPlaces.{found, some_is}
use Rattle.image_check.specs.declared.placed_code.PlacedCode.{PlacedCode}
use Rattle.image_check.specs.declared.span.Span.{Span}
use Rattle.image_check.specs.CodeParts.{in_code, holds_code, breaks_code, code_span}
use Rattle.image_check.specs.Parts.{in_span, in_spans, single_span, line_of, unless}
use Rattle.sound_images.specs.Reports.{on_page}
use Rattle.sound_images.specs.Rules.{Case}
use Rattle.image_check.specs.Stretches.{HasFrom, CoversFirst, EndBelow, BeginFrom, CodeBroken, LineBroken, IsHeldCode, code_end}
use Rattle.image_check.proofs.CodeRule.{two_places, held_back, code_in_span}
use Rattle.image_check.specs.declared.flat.ReportLine.{ReportLine}
use Rattle.image_check.specs.Jumps.{LineFails}
use Rattle.image_check.specs.Nearness.{IsNear}
use Rattle.image_check.proofs.FailureSpans.{single_in}
use Rattle.image_check.proofs.NearCounts.{any_near}
use Rattle.image_check.proofs.SharedPages.{any_before, any_behind, any_here, any_implies}
use Rattle.image_check.proofs.RuleTests.{above_one}

-- in a list sorted by where its elements begin, those from an index on begin where the one at the index does, or above
pub begins_at : {X : Type 0} (first : X → ℕ) (xs : List X) (place a : ℕ) (d z : X) (n : ℕ) → place < length xs → z ≡ get_or xs place d → n ≡ first z
    → IsNonDecreasingBy first xs → a ≤ n → BeginFrom first xs place a
begins_at {X} first xs place a d z n l e f rises m i y k h =
    let w = slice_get_within xs i y h in
    let q : get_or xs i d ≡ y = get_or_from_slice_get xs i y d h in
    let p = rises place i d k w in
    omega (arith, m, f, ap first e, p, ap first q)

-- spans with one more have those that stood there, and that one
kept_spans : (b : Bool) (s : Span) (ss : List Span) (x : ℕ) → in_spans ss x ≡ true → in_spans (unless b s ss) x ≡ true
kept_spans true s ss x h = h
kept_spans false s ss x h = any_before (in_span x) ss (s ∷ []) h

-- a span that is left out only where nothing fails is there where something does
new_span : (b : Bool) (s : Span) (ss : List Span) (x : ℕ) (F : Type 0) → (b ≡ true → F → ⊥) → F → in_span x s ≡ true → in_spans (unless b s ss) x ≡ true
new_span true s ss x F n f h = absurd (n refl f)
new_span false s ss x F n f h = any_behind (in_span x) ss (s ∷ []) (any_here (in_span x) s [] h)

-- spans that have where the first n fail have it of one more, with its span, or without where it doesn't fail
pub covers_more : {X : Type 0} (F : ℕ → X → Type 0) (xs : List X) (n : ℕ) (d y : X) (b : Bool) (s : Span) (ss : List Span) → n < length xs
    → y ≡ get_or xs n d → (slice_get xs n ≡ Some y → b ≡ true → (x : ℕ) → F x y → ⊥) → ((x : ℕ) → F x y → in_span x s ≡ true)
    → CoversFirst F xs n ss → CoversFirst F xs (n + 1) (unless b s ss)
covers_more {X} F xs n d y b s ss l e keeps has h i z m k x f = elim (cases_lt i n) [
  | inl p ↦ kept_spans b s ss x (h i z p k x f)
  | inr p ↦ (let q : i ≡ n = omega (arith, m, p) in
      let t : slice_get xs n ≡ Some z = subst (λ (j : ℕ). slice_get xs j ≡ Some z) q k in
      let w : z ≡ y = sym (get_or_from_slice_get xs n z d t) ∙ sym e in
      let g : F x y = subst (λ (v : X). F x v) w f in
      new_span b s ss x (F x y) (λ u v. keeps (t ∙ ap (λ (v : X). Some v) w) u x v) g (has x g))
]

-- where the first n elements end at an address or below, the first n + 1 do at a further one
pub ends_more : {X : Type 0} (end : X → ℕ) (xs : List X) (n a b m : ℕ) (d y : X) → y ≡ get_or xs n d → m ≡ end y → a ≤ b → m ≤ b → EndBelow end xs n a
    → EndBelow end xs (n + 1) b
ends_more {X} end xs n a b m d y e f l p h i z k g = elim (cases_lt i n) [
  | inl q ↦ (let w = h i z q g in omega (arith, w, l))
  | inr q ↦ (let j : i ≡ n = omega (arith, k, q) in
      let t : slice_get xs n ≡ Some z = subst (λ (v : ℕ). slice_get xs v ≡ Some z) j g in
      let w : z ≡ y = sym (get_or_from_slice_get xs n z d t) ∙ sym e in
      omega (arith, ap end w, f, p))
]

-- what passes at one place alone is counted once
pub counted_once : {X : Type 0} (p : X → Bool) (xs : List X) (i : ℕ) → ((k : ℕ) (z : X) → slice_get xs k ≡ Some z → p z ≡ true → k ≡ i)
    → count_by p xs < 2
counted_once p xs i h = elim (cases_lt (count_by p xs) 2) [
  | inl l ↦ l
  | inr l ↦ (let t = two_places p xs l in
      let a = h t.first t.one t.at_first t.one_passes in
      let b = h t.second t.other t.at_second t.other_passes in
      absurd (omega (arith, a, b, t.below)))
]

-- where the elements before one end before it, and those after it begin at its end, no other has an address of it
pub only_there : {X : Type 0} (first end : X → ℕ) (has : X → Bool) (xs : List X) (i a x : ℕ) (y : X)
    → ((z : X) → has z ≡ true → (first z ≤ x) × (x < end z)) → EndBelow end xs i a → a ≤ first y → BeginFrom first xs (i + 1) (end y)
    → has y ≡ true → (k : ℕ) (z : X) → slice_get xs k ≡ Some z → has z ≡ true → k ≡ i
only_there first end has xs i a x y parts below l above own k z at h =
    let o = parts y own in
    let p = parts z h in
    elim (cases_lt k i) [
      | inl m ↦ (let q = below k z m at in absurd (omega (arith, q, l, o.0, p.1)))
      | inr m ↦ elim (cases_lt i k) [
        | inl n ↦ (let q = above k z (omega (arith, n)) at in absurd (omega (arith, q, o.1, p.0)))
        | inr n ↦ omega (arith, m, n)
      ]
    ]

-- an address in placed code lies from its place on and before its end
code_parts : (x : ℕ) (p : PlacedCode) → in_code x p ≡ true → (p.line.tramp.place ≤ x) × (x < code_end p)
code_parts x p h =
    let q = and_parts (nat_le p.line.tramp.place x) (nat_lt x (p.line.tramp.place + length p.bytes)) h in
    (leb-true p.line.tramp.place x q.0, ltb-true x (p.line.tramp.place + length p.bytes) q.1)

-- code that is alone, unbroken and on a page of the report keeps rule 4
wrong_parts : (n : ℕ) (t b o : Bool) → t ≡ false → b ≡ false → o ≡ true → (nat_le 1 n && (t || (b || not o))) ≡ true → ⊥
wrong_parts n true b o e f g h = absurd cc
wrong_parts n false true o e f g h = absurd cc
wrong_parts n false false false e f g h = absurd cc
wrong_parts n false false true e f g h = let q = and_parts (nat_le 1 n) false h in absurd cc

-- code that is held, alone with its bytes, keeps rule 4
pub code_keeps : (c : Case) (ps : List PlacedCode) (i a : ℕ) (p : PlacedCode) → slice_get ps i ≡ Some p → EndBelow code_end ps i a
    → a ≤ p.line.tramp.place → BeginFrom (λ (q : PlacedCode). q.line.tramp.place) ps (i + 1) (code_end p) → IsHeldCode c p → (x : ℕ)
    → CodeBroken c ps x p → ⊥
code_keeps c ps i a p at below l above held x f =
    let only = only_there (λ (q : PlacedCode). q.line.tramp.place) code_end (in_code x) ps i a x p (code_parts x) below l above f.0 in
    let d = held x f.0 in
    let whole : list_any (breaks_code (c.patched x) x) ps ≡ false = false_from_ne_true _ (λ e.
    let g = found (breaks_code (c.patched x) x) ps e in
    let q = and_parts (in_code x g.is) (not (holds_code (c.patched x) (slice_index g.is.bytes (x - g.is.line.tramp.place)))) g.passes in
    let same : g.is ≡ p = some_is g.is p (sym g.at ∙ ap (λ (k : ℕ). slice_get ps k) (only g.place g.is g.at q.0) ∙ at) in
    let good : holds_code (c.patched x) (slice_index p.bytes (x - p.line.tramp.place)) ≡ true = held_back (c.patched x) (slice_index p.bytes (x - p.line.tramp.place)) d.0 in
    is_false (holds_code (c.patched x) (slice_index g.is.bytes (x - g.is.line.tramp.place))) (not-true _ q.1)
    (ap (λ (z : PlacedCode). holds_code (c.patched x) (slice_index z.bytes (x - z.line.tramp.place))) same ∙ good)) in
    wrong_parts (count_by (in_code x) ps) (nat_le 2 (count_by (in_code x) ps)) (list_any (breaks_code (c.patched x) x) ps) (on_page c.report x)
    (above_one (count_by (in_code x) ps) (counted_once (in_code x) ps i only)) whole d.1 f.1

-- code on one page that stands there
pub held_code : (c : Case) (p : PlacedCode) (place perms : ℕ) (bytes : List ℕ) → place ≡ p.line.tramp.place → bytes ≡ p.bytes
    → HasFrom c.patched place perms bytes → perms ≡ 5
    → ((x : ℕ) → place ≤ x → x ≤ place + (length bytes - 1) → on_page c.report x ≡ true) → IsHeldCode c p
held_code c p place perms bytes e f h k paged x i =
    let q = code_parts x p i in
    let len : length bytes ≡ length p.bytes = ap length f in
    let at : place + (x - p.line.tramp.place) ≡ x = omega (arith, e, q.0) in (
      sym (ap c.patched at) ∙ h (x - p.line.tramp.place) (omega (arith, q.0, q.1, len))
          ∙ (λ j. Some (record { byte = slice_index (f j) (x - p.line.tramp.place); perms = k j })),
      paged x (omega (arith, e, q.0)) (omega (arith, e, q.0, q.1, len)),
    )

-- where rule 4 fails at a byte of code, the code's span has it
pub code_has : (c : Case) (ps : List PlacedCode) (x : ℕ) (p : PlacedCode) → CodeBroken c ps x p → in_span x (code_span p) ≡ true
code_has c ps x p f = code_in_span x p f.0

-- a page that has an address and one above it has the first
both_held : (addr more : ℕ) (p : ℕ × ℕ) → (nat_le p.0 addr && nat_lt (addr + more) (p.0 + 4096)) ≡ true → (p.0 ≤ addr) × (addr < p.0 + 4096)
both_held addr more p h =
    let q = and_parts (nat_le p.0 addr) (nat_lt (addr + more) (p.0 + 4096)) h in
    let l = ltb-true (addr + more) (p.0 + 4096) q.1 in
    (leb-true p.0 addr q.0, omega (arith, l))

-- a page that has two addresses has each address between them
between : (addr more x : ℕ) → addr ≤ x → x ≤ addr + more → (p : ℕ × ℕ) → (nat_le p.0 addr && nat_lt (addr + more) (p.0 + 4096)) ≡ true
    → (nat_le p.0 x && nat_lt x (p.0 + 4096)) ≡ true
between addr more x l m p h = grind (arith, nat_tests)

-- what lies between two addresses of one page is on it
pub paged : (addr more x : ℕ) (near ps : List (ℕ × ℕ)) → IsNear (λ (p : ℕ × ℕ). p) (λ (p : ℕ × ℕ). p.0) 4096 addr near ps
    → list_any (λ (p : ℕ × ℕ). nat_le p.0 addr && nat_lt (addr + more) (p.0 + 4096)) near ≡ true → addr ≤ x → x ≤ addr + more
    → list_any (λ (p : ℕ × ℕ). nat_le p.0 x && nat_lt x (p.0 + 4096)) ps ≡ true
paged addr more x near ps n h l m =
    any_implies (λ (p : ℕ × ℕ). nat_le p.0 addr && nat_lt (addr + more) (p.0 + 4096)) (λ (p : ℕ × ℕ). nat_le p.0 x && nat_lt x (p.0 + 4096))
    (between addr more x l m) ps
    (sym (any_near (λ (p : ℕ × ℕ). p) (λ (p : ℕ × ℕ). p.0) 4096 addr near ps n (λ (p : ℕ × ℕ). nat_le p.0 addr && nat_lt (addr + more) (p.0 + 4096))
    (both_held addr more)) ∙ h)

-- a trampoline at whose start rule 3 doesn't fail
pub line_keeps : (c : Case) (y : ReportLine) (a : ℕ) (r : Bool) → a ≡ y.tramp.start → IsTrue r ↔ LineFails c a (line_of y) → not r ≡ true → (x : ℕ)
    → LineBroken c x y → ⊥
line_keeps c y a r e h t x f =
    is_false r (not-true r t) (h.1 (subst (λ (z : ℕ). LineFails c z (line_of y)) (sym f.0 ∙ sym e) f))

-- where rule 3 fails for a trampoline, the span of its start has it
pub line_has : (c : Case) (y : ReportLine) (a : ℕ) (s : Span) → a ≡ y.tramp.start → s ≡ single_span a → (x : ℕ) → LineBroken c x y → in_span x s ≡ true
line_has c y a s e q x f = ap (in_span x) q ∙ single_in x a (sym f.0 ∙ sym e)
