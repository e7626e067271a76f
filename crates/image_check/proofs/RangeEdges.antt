-- What rule 5 asks goes on from one address to the next, but at the edges of ranges and pages.
use Rattle.std.proofs.Common.{append_assoc, ◌≡◌, ◌⊎◌, inl, inr, ℕ, suc, ◌+◌, ◌-◌, ◌*◌, ◌/◌, ◌^◌, ◌<◌, ◌≤◌, min, Bool, true, false, List, [], ◌∷◌, ◌++◌, map, length, Option, Some, None, is_some, refl, sym, ap, ◌∙◌, arith}
use Rattle.std.specs.Prelude.{◌||◌, ◌&&◌, ◌==◌, not, nat_le, nat_lt}
use Rattle.std.specs.List.{list_any, AllByRecursion}
use Rattle.std.proofs.lemmas.Bool.{and_parts, leb-true, ltb-true}
use Rattle.std.proofs.lemmas.Bool.Decides.{nat_tests}
use Rattle.pun_base.specs.Memory.{Cell}
use Rattle.patch_report.specs.Values.{BodyValue}
use Rattle.patch_report.proofs.ListPlaces.{some_is}
use Rattle.elf_read.specs.declared.segment.Segment.{Segment}
use Rattle.elf_read.specs.Accepted.{IsPlaced}
use Rattle.elf_read.specs.Entries.{loads, segments}
use Rattle.elf_read.specs.Image.{image_of}
use Rattle.elf_read.specs.Refusals.{refusal}
use Rattle.elf_read.proofs.AcceptedFiles.{is_accepted}
use Rattle.image_check.specs.declared.rule.Rule.TheVariants as rule
use Rattle.image_check.specs.declared.span.Span.{Span}
use Rattle.image_check.specs.Parts.{FindsFirst, in_span, in_spans, single_span, first_page, last_page, page_first, page_last, segment_pages, report_pages, fixed_spans, private_span, edge_spans, kind_spans, range_spans, on_page_of, shares, wrong_range}
use Rattle.sound_images.specs.Reports.{in_private, on_page}
use Rattle.sound_images.specs.Rules.{Case, is_unexpected, RangeFails}
use Rattle.image_check.proofs.RuleTests.{range_is}
use Rattle.image_check.proofs.SegmentKinds.{kind_of, some_on, file_kind, private_cell}
use Rattle.image_check.proofs.ZeroTails.{neither_of, neither_first, none_mapped, outside, reach_down, zero_looked_at}

-- an address is below a number or above it
abbrev Misses : ℕ → ℕ → Type 0
Misses y a = (y < a) ⊎ (a < y)

-- from x to x + 1, below a, whether a ≤ x doesn't change
le_low : (a x : ℕ) → suc x < a → nat_le a (suc x) ≡ nat_le a x
le_low a x l = grind (arith, nat_tests)

-- from x to x + 1, above a, whether a ≤ x doesn't change
le_high : (a x : ℕ) → a < suc x → nat_le a (suc x) ≡ nat_le a x
le_high a x l = grind (arith, nat_tests)

-- from x to x + 1, unless that is a, whether a ≤ x doesn't change
le_on : (a x : ℕ) → Misses (suc x) a → nat_le a (suc x) ≡ nat_le a x
le_on a x h = elim h [ inl k ↦ le_low a x k | inr k ↦ le_high a x k ]

-- from x to x + 1, below a, whether x < a doesn't change
lt_low : (a x : ℕ) → suc x < a → nat_lt (suc x) a ≡ nat_lt x a
lt_low a x l = grind (arith, nat_tests)

-- from x to x + 1, above a, whether x < a doesn't change
lt_high : (a x : ℕ) → a < suc x → nat_lt (suc x) a ≡ nat_lt x a
lt_high a x l = grind (arith, nat_tests)

-- from x to x + 1, unless that is a, whether x < a doesn't change
lt_on : (a x : ℕ) → Misses (suc x) a → nat_lt (suc x) a ≡ nat_lt x a
lt_on a x h = elim h [ inl k ↦ lt_low a x k | inr k ↦ lt_high a x k ]

-- an address that isn't in the span of one address misses that one
misses : (y a : ℕ) → in_span y (single_span a) ≡ false → Misses y a
misses y a h = outside y (single_span a) h

-- pages of a report
page_on : (ps : List (ℕ × ℕ)) (x : ℕ) → AllByRecursion (λ (p : ℕ × ℕ). in_span (suc x) (page_first p) ≡ false) ps
    → AllByRecursion (λ (p : ℕ × ℕ). in_span (suc x) (page_last p) ≡ false) ps
    → list_any (λ (p : ℕ × ℕ). nat_le p.0 (suc x) && nat_lt (suc x) (p.0 + 4096)) ps ≡ list_any (λ (p : ℕ × ℕ). nat_le p.0 x
    && nat_lt x (p.0 + 4096)) ps
page_on [] x a b = refl
page_on (p ∷ ps) x a b =
    let l = le_on p.0 x (misses (suc x) p.0 a.0) in
    let n = lt_on (p.0 + 4096) x (misses (suc x) (p.0 + 4096) b.0) in
    let r = page_on ps x a.1 b.1 in
    λ i. (l i && n i) || r i

-- pages of a segment
le_both_above : (a m n : ℕ) → m < a → n < a → nat_le a m ≡ nat_le a n
le_both_above a m n k l = grind (arith, nat_tests)

-- two numbers at or above a bound compare alike with it
le_both_below : (a m n : ℕ) → a ≤ m → a ≤ n → nat_le a m ≡ nat_le a n
le_both_below a m n k l = grind (arith, nat_tests)

-- two numbers above a bound compare alike with it
ge_both_above : (a m n : ℕ) → a < m → a < n → nat_le m a ≡ nat_le n a
ge_both_above a m n k l = grind (arith, nat_tests)

-- two numbers at or below a bound compare alike with it
ge_both_below : (a m n : ℕ) → m ≤ a → n ≤ a → nat_le m a ≡ nat_le n a
ge_both_below a m n k l = grind (arith, nat_tests)

-- from x to x + 1, unless the page numbered a begins there, whether a is at most the page's number doesn't change
first_on : (a x : ℕ) → Misses (suc x) (a * 4096) → nat_le a (suc x / 4096) ≡ nat_le a (x / 4096)
first_on a x h = elim h [
  | inl k ↦ le_both_above a (suc x / 4096) (x / 4096) (omega (arith, k)) (omega (arith, k))
  | inr k ↦ le_both_below a (suc x / 4096) (x / 4096) (omega (arith, k)) (omega (arith, k))
]

-- from x to x + 1, unless the page numbered a ends there, whether the page's number is at most a doesn't change
last_on : (a x : ℕ) → Misses (suc x) ((a + 1) * 4096) → nat_le (suc x / 4096) a ≡ nat_le (x / 4096) a
last_on a x h = elim h [
  | inl k ↦ ge_both_below a (suc x / 4096) (x / 4096) (omega (arith, k)) (omega (arith, k))
  | inr k ↦ ge_both_above a (suc x / 4096) (x / 4096) (omega (arith, k)) (omega (arith, k))
]

-- the end of a segment's last page, as it is looked at
last_at : (a y : ℕ) → a < 0x80000 → Misses y (min ((a + 1) * 4096) (2 ^ 64 - 1)) → Misses y ((a + 1) * 4096)
last_at a y l h = elim h [ inl k ↦ inl (omega (arith, k, l)) | inr k ↦ inr (omega (arith, k, l)) ]

-- from one address to the next, but at edges of its pages, a segment has a byte of the page or doesn't
segment_on : (n : ℕ) (s : Segment) (x : ℕ) → IsPlaced 0x10000 n s → in_span (suc x) (first_page s) ≡ false
    → in_span (suc x) (last_page s) ≡ false
    → on_page_of (suc x) s ≡ on_page_of x s
segment_on n s x p a b =
    let last = min (s.vaddr + (s.memsz - 1)) (2 ^ 64 - 1) / 4096 in
    let f = first_on (s.vaddr / 4096) x (misses (suc x) (s.vaddr / 4096 * 4096) a) in
    let m = misses (suc x) (min ((last + 1) * 4096) (2 ^ 64 - 1)) b in
    let l = last_on last x (last_at last (suc x) (omega (arith, p.high)) m) in
    λ i. f i && l i

-- from one address to the next, but at edges of their pages, some segment has a byte of the page or none does
segments_on : (n : ℕ) (ss : List Segment) (x : ℕ) → AllByRecursion (IsPlaced 0x10000 n) ss
    → AllByRecursion (λ s. in_span (suc x) (first_page s) ≡ false) ss → AllByRecursion (λ s. in_span (suc x) (last_page s) ≡ false) ss
    → list_any (on_page_of (suc x)) ss ≡ list_any (on_page_of x) ss
segments_on n [] x p a b = refl
segments_on n (s ∷ ss) x p a b =
    let f = segment_on n s x p.0 a.0 b.0 in
    let r = segments_on n ss x p.1 a.1 b.1 in
    λ i. f i || r i

-- all that is asked at an address is as it is one below
record AllGoOn (c : Case) (file : List ℕ) (x : ℕ) : Type 0 where
  original : kind_of (c.original (suc x)) ≡ kind_of (c.original x)
  patched : kind_of (c.patched (suc x)) ≡ kind_of (c.patched x)
  private_same : in_private c.report (suc x) ≡ true → c.patched (suc x) ≡ c.patched x
  table : nat_le 0x10000 (suc x) ≡ nat_le 0x10000 x
  table_end : nat_lt (suc x) 0x1E000 ≡ nat_lt x 0x1E000
  low : nat_lt (suc x) 0x20000 ≡ nat_lt x 0x20000
  private_on : in_private c.report (suc x) ≡ in_private c.report x
  pages : on_page c.report (suc x) ≡ on_page c.report x
  shared : shares file (suc x) ≡ shares file x

-- a test that is asked in a range alone
asked_in : (b d r s : Bool) → b ≡ d → (b ≡ true → r ≡ s) → (b && r) ≡ (d && s)
asked_in true d r s e h = h refl ∙ ap (λ z. z && s) e
asked_in false d r s e h = ap (λ z. z && s) e

-- whether a byte is unexpected is the same at two addresses that are alike in all that rule 5 asks
unexpected_on : (v : BodyValue) (y x : ℕ) (o n q r : Option Cell) → kind_of o ≡ kind_of n → kind_of q ≡ kind_of r
    → (in_private v y ≡ true → q ≡ r) → nat_le 0x10000 y ≡ nat_le 0x10000 x → nat_lt y 0x1E000 ≡ nat_lt x 0x1E000
    → in_private v y ≡ in_private v x → on_page v y ≡ on_page v x → is_unexpected v y o q ≡ is_unexpected v x n r
unexpected_on v y x (Some c) (Some d) q r k m h a b e g = refl
unexpected_on v y x (Some c) None q r k m h a b e g = absurd cc
unexpected_on v y x None (Some d) q r k m h a b e g = absurd cc
unexpected_on v y x None None None None k m h a b e g = refl
unexpected_on v y x None None None (Some d) k m h a b e g = absurd cc
unexpected_on v y x None None (Some d) None k m h a b e g = absurd cc
unexpected_on v y x None None (Some d) (Some f) k m h a b e g =
    let p : d.perms ≡ f.perms = some_is d.perms f.perms m in
    let i : (in_private v y && ((d.byte == 0) && (d.perms == 6))) ≡ (in_private v x && ((f.byte == 0) && (f.perms == 6))) =
    asked_in (in_private v y) (in_private v x) ((d.byte == 0) && (d.perms == 6)) ((f.byte == 0) && (f.perms == 6)) e
    (λ t. ap (λ (z : Cell). (z.byte == 0) && (z.perms == 6)) (some_is d f (h t))) in
    λ j. not ((a j && (b j && (p j == 4))) || (i j || (g j && (p j == 5))))

-- rule 5's test gives the same from one address to the next where all that it asks goes on
wrong_on : (c : Case) (file : List ℕ) (x : ℕ) → AllGoOn c file x
    → wrong_range c (shares file (suc x)) (suc x) ≡ wrong_range c (shares file x) x
wrong_on c file x g =
    let u : is_unexpected c.report (suc x) (c.original (suc x)) (c.patched (suc x)) ≡ is_unexpected c.report x (c.original x)
    (c.patched x) =
    unexpected_on c.report (suc x) x (c.original (suc x)) (c.original x) (c.patched (suc x)) (c.patched x) g.original g.patched
    g.private_same g.table g.table_end g.private_on g.pages in
    let s : is_some (c.patched (suc x)) ≡ is_some (c.patched x) = some_on (c.patched (suc x)) (c.patched x) g.patched in
    λ i. u i || ((g.private_on i || g.pages i) && (not (s i) || ((g.private_on i && g.pages i) || (g.low i || g.shared i))))

-- outside the spans of rule 5 all that the rule asks goes on from one address to the next
all_on : (c : Case) (o p : List ℕ) (x : ℕ) → c.original ≡ image_of o → c.patched ≡ image_of p → refusal 0x10000 o ≡ None
    → refusal 0x10000 p ≡ None
    → in_spans (range_spans o p c.report) (suc x) ≡ false → AllGoOn c o x
all_on c o p x e f r q h =
    let t = in_span (suc x) in
    let v = c.report in
    let ss = loads (segments o) in
    let held = map (private_span v.private.0 v.private.1) (loads (segments p)) in
    let a = neither_of t (kind_spans o p v.private.0 v.private.1) (fixed_spans v ++ (report_pages v ++ segment_pages o)) h in
    let a0 = neither_first t (single_span 0) ((edge_spans o ++ edge_spans p) ++ held) a.0 in
    let a1 = neither_of t (edge_spans o ++ edge_spans p) held a0.1 in
    let a2 = neither_of t (edge_spans o) (edge_spans p) a1.0 in
    let b = neither_of t (fixed_spans v) (report_pages v ++ segment_pages o) a.1 in
    let d = neither_of t (report_pages v) (segment_pages o) b.1 in
    let ps = neither_of t (map page_first v.pages) (map page_last v.pages) d.0 in
    let es = neither_of t (map first_page ss) (map last_page ss) d.1 in
    let one = neither_first t (single_span 0x10000) (single_span 0x1E000 ∷ single_span 0x20000 ∷ single_span v.private.0
    ∷ single_span v.private.1 ∷ []) b.0 in
    let two = neither_first t (single_span 0x1E000) (single_span 0x20000 ∷ single_span v.private.0 ∷ single_span v.private.1 ∷ []) one.1 in
    let three = neither_first t (single_span 0x20000) (single_span v.private.0 ∷ single_span v.private.1 ∷ []) two.1 in
    let four = neither_first t (single_span v.private.0) (single_span v.private.1 ∷ []) three.1 in
    let five = neither_first t (single_span v.private.1) [] four.1 in
    let lo = le_on v.private.0 x (misses (suc x) v.private.0 four.0) in
    let hi = lt_on v.private.1 x (misses (suc x) v.private.1 five.0) in
    record {
      original = ap (λ m. kind_of (m (suc x))) e ∙ file_kind o x r a2.0 ∙ sym (ap (λ m. kind_of (m x)) e);
      patched = ap (λ m. kind_of (m (suc x))) f ∙ file_kind p x q a2.1 ∙ sym (ap (λ m. kind_of (m x)) f);
      private_same = λ i. (let w = and_parts (nat_le v.private.0 (suc x)) (nat_lt (suc x) v.private.1) i in
          ap (λ m. m (suc x)) f
          ∙ private_cell p v.private.0 v.private.1 x q a2.1 a1.1 (leb-true v.private.0 (suc x) w.0) (ltb-true (suc x) v.private.1 w.1)
          ∙ sym (ap (λ m. m x) f));
      table = le_on 0x10000 x (misses (suc x) 0x10000 one.0);
      table_end = lt_on 0x1E000 x (misses (suc x) 0x1E000 two.0);
      low = lt_on 0x20000 x (misses (suc x) 0x20000 three.0);
      private_on = λ i. lo i && hi i;
      pages = page_on v.pages x (none_mapped t page_first v.pages ps.0) (none_mapped t page_last v.pages ps.1);
      shared = segments_on (length o) ss x (is_accepted 0x10000 o r).placed (none_mapped t first_page ss es.0)
          (none_mapped t last_page ss es.1);
    }

-- where rule 5 fails at the next address and all that it asks goes on, it fails at this one
range_down : (c : Case) (o : List ℕ) (x : ℕ) → c.original ≡ image_of o → refusal 0x10000 o ≡ None → AllGoOn c o x → RangeFails c (suc x)
    → RangeFails c x
range_down c o x e r g f = (range_is c o x e r).0 (sym (wrong_on c o x g) ∙ (range_is c o (suc x) e r).1 f)

-- where rule 5 fails, it fails there or below in one of the spans, for a report that is that one
pub range_told : (c : Case) (o p : List ℕ) (v : BodyValue) → c.original ≡ image_of o → c.patched ≡ image_of p → refusal 0x10000 o ≡ None
    → refusal 0x10000 p ≡ None → v ≡ c.report → (ss : List Span) → ss ≡ range_spans o p v → FindsFirst c rule.Range ss
range_told c o p v e f r q w ss k x h =
    let m : ss ≡ range_spans o p c.report = k ∙ ap (range_spans o p) w in
    reach_down (RangeFails c) (in_spans ss)
    (ap (λ z. in_spans z 0) m ∙ zero_looked_at (((edge_spans o ++ edge_spans p) ++ map (private_span c.report.private.0 c.report.private.1) (loads (segments p))) ++ (fixed_spans c.report ++
    (report_pages c.report ++ segment_pages o))))
    (λ y n g. range_down c o y e r (all_on c o p y e f r q (sym (ap (λ z. in_spans z (suc y)) m) ∙ n)) g) x h

-- spans that are joined one after the other
pub ranges_are : (kinds fixed pages edges spans ds two es all : List Span) → spans ≡ kinds ++ fixed → ds ≡ pages → two ≡ spans ++ ds → es ≡ edges
    → all ≡ two ++ es → all ≡ kinds ++ (fixed ++ (pages ++ edges))
ranges_are kinds fixed pages edges spans ds two es all a b d e f =
    f ∙ (λ i. d i ++ e i) ∙ (λ i. (a i ++ b i) ++ edges) ∙ append_assoc (kinds ++ fixed) pages edges ∙ append_assoc kinds fixed (pages ++ edges)
