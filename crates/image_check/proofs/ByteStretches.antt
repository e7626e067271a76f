-- Where rule 1 fails nowhere: between segments, and where two files have the same bytes.
use Rattle.std.proofs.Common.{◌≡◌, ◌⊎◌, inl, inr, ℕ, suc, ◌+◌, ◌-◌, ◌^◌, ◌<◌, ◌≤◌, Bool, true, false, cond, nat_le, List, [], ◌∷◌, length, get_or, take, drop, slice_index, Option, Some, None, refl, sym, ap, ◌∙◌, subst, arith}
use Rattle.std.specs.Prelude.{◌&&◌, ◌||◌, ◌==◌, not, slice_get}
use Rattle.std.specs.List.Sorted.{IsNonDecreasingBy}
use Rattle.std.proofs.lemmas.Bool.{cases_lt, leb-true, eq-eqb, cond-false}
use Rattle.std.proofs.lemmas.Bool.Decides.{nat_tests}
use Rattle.std.proofs.lemmas.List.{length-drop, length-take}
use Rattle.std.proofs.lemmas.Option.{slice_get_within, get_or_from_slice_get}
use Rattle.elf_read.specs.declared.segment.Segment.{Segment}
use Rattle.elf_read.specs.Accepted.{IsPlaced}
use Rattle.elf_read.specs.Entries.{loads, segments}
use Rattle.elf_read.specs.Find.{covers, Parted, segment_of, segment_holding}
use Rattle.elf_read.specs.Image.{image_of}
use Rattle.elf_read.specs.Refusals.{refusal}
use Rattle.elf_read.proofs.AcceptedFiles.{is_accepted}
use Rattle.elf_read.proofs.HoldingSegments.{image_at}
use Rattle.elf_read.proofs.SegmentSearch.{covers_parts}
use Rattle.image_check.specs.declared.rule.Rule.TheVariants as rule
use Rattle.sound_images.specs.Reports.{is_written}
use Rattle.sound_images.specs.Rules.{Case, differs}
use Rattle.image_check.specs.Stretches.{HasFrom, HoldsTo, IsSameAt}
use Rattle.image_check.proofs.FileParts.{found_all, found_in}

-- no segment begins between two addresses
abbrev pub Apart : List Segment → ℕ → ℕ → Type 0
Apart ss a n = (i : ℕ) (s : Segment) → slice_get ss i ≡ Some s → (s.vaddr ≤ a) ⊎ (n ≤ s.vaddr)

-- where each segment begins at or below an address, none begins between it and another
pub gap_end : (ss : List Segment) (a i n : ℕ) → Parted ss a i → length ss ≤ i → Apart ss a n
gap_end ss a i n p l k s h =
    let w = slice_get_within ss k s h in
    let q = p.0 k s (omega arith) (omega (arith, w, l)) in
    inl (leb-true s.vaddr a (sym (ap (λ (z : Segment). nat_le z.vaddr a) (get_or_from_slice_get ss k s s h)) ∙ q))

-- a number that isn't at most another is at least that
above : (v a : ℕ) → nat_le v a ≡ false → a ≤ v
above v a h = grind (arith, nat_tests)

-- no segment begins between an address and where the first segment above it begins, which isn't below the address
pub gap_first : (ss : List Segment) (a i n : ℕ) (d : Segment) → IsNonDecreasingBy (λ (s : Segment). s.vaddr) ss → Parted ss a i → i < length ss
    → n ≡ (get_or ss i d).vaddr → (a ≤ n) × Apart ss a n
gap_first ss a i n d r p l e = (
  (let q = above (get_or ss i d).vaddr a (p.1 i d (omega arith) l) in omega (arith, q, e)),
  λ k s h. let w = slice_get_within ss k s h in elim (cases_lt k i) [
    | inl m ↦ (let q = p.0 k s (omega arith) m in inl (leb-true s.vaddr a (sym (ap (λ (z : Segment). nat_le z.vaddr a) (get_or_from_slice_get ss k s s h)) ∙ q)))
    | inr m ↦ (let q = r i k d m w in
        let g = ap (λ (z : Segment). z.vaddr) (get_or_from_slice_get ss k s d h) in inr (omega (arith, q, e, g)))
  ],
)

-- a segment that doesn't cover an address covers none up to where it or the next segment begins
not_on : (s : Segment) (a n y : ℕ) → covers s a ≡ false → a ≤ y → y < n → (s.vaddr ≤ a) ⊎ (n ≤ s.vaddr) → covers s y ≡ false
not_on s a n y h l m (inl k) = grind (arith, nat_tests)
not_on s a n y h l m (inr k) = grind (arith, nat_tests)

-- where no segment of a list is chosen, the test of the first fails, and none of the rest is chosen
none_step : (s : Segment) (o : Option Segment) (b : Bool) → cond b (Some s) o ≡ None → (b ≡ false) × (o ≡ None)
none_step s o true h = absurd cc
none_step s o false h = (refl, h)

-- where no segment covers an address, none does up to the next at which one begins
none_on : (ss : List Segment) (a n y : ℕ) → Apart ss a n → segment_of ss a ≡ None → a ≤ y → y < n → segment_of ss y ≡ None
none_on [] a n y p h l m = refl
none_on (s ∷ ss) a n y p h l m =
    let q = none_step s (segment_of ss a) (covers s a) h in
    cond-false (covers s y) (Some s) (segment_of ss y) (not_on s a n y q.0 l m (p 0 s refl))
    ∙ none_on ss a n y (λ i t e. p (suc i) t e) q.1 l m

-- where the original loads nothing, up to where a segment begins, rule 1 fails nowhere
pub gap_holds : (c : Case) (file : List ℕ) (a n : ℕ) (ss : List Segment) (o : Option Segment) → c.original ≡ image_of file → ss ≡ loads (segments file)
    → o ≡ segment_holding file a → o ≡ None → Apart ss a n → HoldsTo c rule.Byte a n
gap_holds c file a n ss o e f g h p x l m k =
    let q = subst (λ (z : List Segment). Apart z a n) f p in
    let t : c.original x ≡ None = ap (λ z. z x) e
    ∙ image_at file x (segment_holding file x) None refl (none_on (loads (segments file)) a n x q (sym g ∙ h) l m) in
    let u : differs None (c.patched x) (is_written c.report x) ≡ true = sym (ap (λ z. differs z (c.patched x) (is_written c.report x)) t) ∙ k in
    absurd cc

-- a byte that both files load, equal or written, doesn't differ
nothing : (s w q : Bool) → s ≡ true → (q ≡ true) ⊎ (w ≡ true) → (not s || (not w && not q)) ≡ true → ⊥
nothing true true q e h f = absurd cc
nothing true false true e h f = absurd cc
nothing true false false e (inl k) f = absurd cc
nothing true false false e (inr k) f = absurd cc
nothing false w q e h f = absurd cc

-- rule 1 holds on a stretch on which both images have the same bytes with the same permissions, or written ones
pub same_holds : (c : Case) (a n p q : ℕ) (old new : List ℕ) → HasFrom c.original a p old → HasFrom c.patched a q new → p ≡ q
    → ((x : ℕ) → a ≤ x → x < n → IsSameAt c.report old new (x - a) x) → HoldsTo c rule.Byte a n
same_holds c a n p q old new h k e same x l m f =
    let s = same x l m in
    let at : a + (x - a) ≡ x = omega (arith, l) in
    let was = sym (ap c.original at) ∙ h (x - a) s.in_old in
    let now = sym (ap c.patched at) ∙ k (x - a) s.in_new in
    let t : (not (p == q) || (not (is_written c.report x) && not (slice_index old (x - a) == slice_index new (x - a)))) ≡ true =
    sym (λ i. differs (was i) (now i) (is_written c.report x)) ∙ f in
    nothing (p == q) (is_written c.report x) (slice_index old (x - a) == slice_index new (x - a)) (eq-eqb p q e)
    (elim s.same [ inl j ↦ inl (eq-eqb (slice_index old (x - a)) (slice_index new (x - a)) j) | inr j ↦ inr j ]) t

-- what is left of a segment ends below 2^64
pub rest_low : (file : List ℕ) (a : ℕ) (s : Segment) (rest xs : List ℕ) → refusal 0x10000 file ≡ None → segment_holding file a ≡ Some s
    → rest ≡ drop (a - s.vaddr) (take s.filesz xs) → a + length rest < 2 ^ 64
rest_low file a s rest xs r h e =
    let i = is_accepted 0x10000 file r in
    let p = found_all (IsPlaced 0x10000 (length file)) (loads (segments file)) a s i.placed h in
    let v = covers_parts s a (found_in 0 a (loads (segments file)) s i.ascends h).covers in
    let n = ap length e in
    omega (arith, n, length-drop (a - s.vaddr) (take s.filesz xs), length-take s.filesz xs, p.high, p.sizes, v.0, v.1)
