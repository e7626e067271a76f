-- The tests of the rules tell exactly where they fail.
use Rattle.std.proofs.Common.{◌≡◌, ◌⊎◌, inl, inr, ◌↔◌, ℕ, ◌<◌, ◌≤◌, Bool, true, false, IsTrue, List, Option, Some, None, is_some, refl, sym, ap, ◌∙◌, arith}
use Rattle.std.specs.Prelude.{◌||◌, ◌&&◌, not, nat_le, nat_lt}
use Rattle.std.specs.List.{list_any}
use Rattle.std.proofs.lemmas.Bool.{and_parts, and_from, or_cases, or_left, or_right, leb-true, ltb-true, le-leb, lt-ltb}
use Rattle.std.proofs.lemmas.Bool.Decides.{nat_tests}
use Rattle.pun_base.specs.Memory.{Cell}
use Rattle.elf_read.specs.Image.{image_of}
use Rattle.elf_read.specs.Refusals.{refusal}
use Rattle.image_check.specs.Parts.{wrong_write, wrong_range, shares}
use Rattle.sound_images.specs.Reports.{runs, times_written, in_private, on_page}
use Rattle.sound_images.specs.Rules.{Case, mistells, belongs, is_unexpected, WriteFails, RangeFails, SharesPage}
use Rattle.image_check.proofs.SharedPages.{shares_page, page_shares}

-- a test that equals another is true exactly where that one is
pub decides : (b t : Bool) → b ≡ t → IsTrue b ↔ (t ≡ true)
decides b t e = (λ h. sym e ∙ h, λ h. e ∙ h)

-- the test of rule 2 passes only for one of its three reasons
write_cases : (a b : Bool) (n : ℕ) → (a || (nat_le 2 n || not b)) ≡ true → (a ≡ true) ⊎ (2 ≤ n) ⊎ (b ≡ false)
write_cases true b n h = inl refl
write_cases false false n h = inr (inr refl)
write_cases false true n h = elim (or_cases (nat_le 2 n) false h) [ inl e ↦ inr (inl (leb-true 2 n e)) | inr e ↦ absurd cc ]

-- each of rule 2's three reasons passes its test
write_back : (a b : Bool) (n : ℕ) → (a ≡ true) ⊎ (2 ≤ n) ⊎ (b ≡ false) → (a || (nat_le 2 n || not b)) ≡ true
write_back a b n (inl e) = or_left a _ e
write_back a b n (inr (inl e)) = or_right a _ (or_left (nat_le 2 n) _ (le-leb 2 n e))
write_back a true n (inr (inr e)) = absurd cc
write_back a false n (inr (inr e)) = or_right a _ (or_right (nat_le 2 n) true refl)

-- the test of rule 2 passes exactly where the rule fails
pub write_is : (c : Case) (x : ℕ) → (wrong_write c x ≡ true) ↔ WriteFails c x
write_is c x = (
  λ h. let p = and_parts _ _ h in (p.0, write_cases (list_any (mistells c x) (runs c.report)) (belongs c x) (times_written c.report x) p.1),
  λ f. and_from _ _ f.0 (write_back (list_any (mistells c x) (runs c.report)) (belongs c x) (times_written c.report x) f.1),
)

-- in a run that tells a wrong byte, that alone decides the test of rule 2
pub write_first : (w a rest r : Bool) → w ≡ true → r ≡ a → r ≡ true → r ≡ (w && (a || rest))
write_first w a rest r h e t = t ∙ sym (and_from w _ h (or_left a rest (sym e ∙ t)))

-- a number below 2 is none from 2 on
pub above_one : (n : ℕ) → n < 2 → nat_le 2 n ≡ false
above_one n l = grind (arith, nat_tests)

-- where the written byte is told rightly and alone, rule 2 rests on whether it belongs to a trampoline's start
write_rest : (w a q b : Bool) → w ≡ true → a ≡ false → q ≡ false → b ≡ (w && (a || (q || b)))
write_rest true false false b h e f = refl
write_rest true false true b h e f = absurd cc
write_rest true true q b h e f = absurd cc
write_rest false a q b h e f = absurd cc

-- in one run alone, which tells no wrong byte, the test of rule 2 is whether the address belongs to no instruction
pub write_last : (w a b : Bool) (n t : ℕ) (r : Bool) → w ≡ true → a ≡ false → t ≡ n → t < 2 → r ≡ b → not r ≡ (w && (a || (nat_le 2 n || not b)))
write_last w a b n t r h e q l k = ap not k ∙ write_rest w a (nat_le 2 n) (not b) h e (above_one n (omega (arith, q, l)))

abbrev InRange : Option Cell → Type 0 → Bool → ℕ → ℕ → Type 0
InRange d S both x n = (d ≡ None) ⊎ S ⊎ (both ≡ true) ⊎ (x < n)

-- what rule 5's test finds in the range is one of its four reasons
range_in : (both s : Bool) (d : Option Cell) (x n : ℕ) (S : Type 0) → (s ≡ true → S) → (not (is_some d) || (both || (nat_lt x n || s))) ≡ true → InRange d S both x n
range_in both s None x n S f h = inl refl
range_in both s (Some d) x n S f h = elim (or_cases both (nat_lt x n || s) h) [
  | inl e ↦ inr (inr (inl e))
  | inr e ↦ elim (or_cases (nat_lt x n) s e) [ inl k ↦ inr (inr (inr (ltb-true x n k))) | inr k ↦ inr (inl (f k)) ]
]

-- each of rule 5's four reasons in the range passes its test
range_back : (both s : Bool) (d : Option Cell) (x n : ℕ) (S : Type 0) → (S → s ≡ true) → InRange d S both x n → (not (is_some d) || (both || (nat_lt x n || s))) ≡ true
range_back both s None x n S f h = refl
range_back both s (Some d) x n S f (inl e) = absurd cc
range_back both s (Some d) x n S f (inr (inl e)) = or_right both _ (or_right (nat_lt x n) s (f e))
range_back both s (Some d) x n S f (inr (inr (inl e))) = or_left both _ e
range_back both s (Some d) x n S f (inr (inr (inr e))) = or_right both _ (or_left (nat_lt x n) s (lt-ltb x n e))

-- rule 5's test passes only for an unexpected byte or a reason in the range
range_to : (u any both s : Bool) (d : Option Cell) (x n : ℕ) (S : Type 0) → (s ≡ true → S) → (u || (any && (not (is_some d) || (both || (nat_lt x n || s))))) ≡ true → (u ≡ true) ⊎ ((any ≡ true) × InRange d S both x n)
range_to u any both s d x n S f h = elim (or_cases u _ h) [
  | inl e ↦ inl e
  | inr e ↦ (let p = and_parts any _ e in inr (p.0, range_in both s d x n S f p.1))
]

-- an unexpected byte, or a reason in the range, passes rule 5's test
range_from : (u any both s : Bool) (d : Option Cell) (x n : ℕ) (S : Type 0) → (S → s ≡ true) → (u ≡ true) ⊎ ((any ≡ true) × InRange d S both x n) → (u || (any && (not (is_some d) || (both || (nat_lt x n || s))))) ≡ true
range_from u any both s d x n S f (inl e) = or_left u _ e
range_from u any both s d x n S f (inr p) = or_right u _ (and_from any _ p.0 (range_back both s d x n S f p.1))

-- the test of rule 5 passes exactly where the rule fails, over the image of an accepted file
pub range_is : (c : Case) (file : List ℕ) (x : ℕ) → c.original ≡ image_of file → refusal 0x10000 file ≡ None → (wrong_range c (shares file x) x ≡ true) ↔ RangeFails c x
range_is c file x e r = (
  range_to (is_unexpected c.report x (c.original x) (c.patched x)) (in_private c.report x || on_page c.report x) (in_private c.report x && on_page c.report x) (shares file x) (c.patched x) x 0x20000 (SharesPage c.original x) (λ h. rw e (shares_page file x r h)),
  range_from (is_unexpected c.report x (c.original x) (c.patched x)) (in_private c.report x || on_page c.report x) (in_private c.report x && on_page c.report x) (shares file x) (c.patched x) x 0x20000 (SharesPage c.original x) (λ h. page_shares file x r (rw e at h)),
)
