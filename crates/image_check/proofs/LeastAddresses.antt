-- The least address at which a rule fails: of two sets together, of a span, and of several.
use Rattle.std.proofs.Common.{◌≡◌, ◌⊎◌, inl, inr, ◌↔◌, IsTrue, ℕ, ◌+◌, ◌<◌, ◌≤◌, Bool, true, false, cond, List, length, get_or, take, Option, Some, None, sym, ap, ◌∙◌, subst, arith}
use Rattle.std.specs.Prelude.{◌||◌, nat_lt}
use Rattle.std.proofs.lemmas.Bool.{cases_lt, cases_Bool, cond-true, cond-false, or_cases, or_left, or_right, and_parts, and_from, leb-true, le-leb, ltb-true, ltb-false}
use Rattle.std.proofs.lemmas.List.Folds.{list_any_more}
use Rattle.elf_read.proofs.PlainFronts.{is_false}
use Rattle.image_check.specs.declared.rule.Rule.{Rule}
use Rattle.image_check.specs.declared.span.Span.{Span}
use Rattle.image_check.specs.Parts.{Covers, FindsFirst, HaveAll, FailsIn, FailsAmong, in_span, in_spans, lesser_of}
use Rattle.sound_images.specs.Rules.{Case}
use Rattle.image_check.specs.Verdict.{FailsBy, IsLeastOf}

-- a set is two together
pub record IsBoth (P Q R : ℕ → Type 0) : Type 0 where
  pub either : (x : ℕ) → R x → P x ⊎ Q x
  pub first : (x : ℕ) → P x → R x
  pub second : (x : ℕ) → Q x → R x

-- the lesser of the least numbers of two sets is the least of both together
least_step : (P Q R : ℕ → Type 0) (x y : ℕ) → IsBoth P Q R → IsLeastOf P (Some x) → IsLeastOf Q (Some y) → (nat_lt y x ≡ true) ⊎ (nat_lt y x ≡ false) → IsLeastOf R (cond (nat_lt y x) (Some y) (Some x))
least_step P Q R x y b p q (inl e) = rw (cond-true (nat_lt y x) (Some y) (Some x) e) (
  b.second y q.0,
  λ z h. elim (b.either z h) [ inl k ↦ (let l = p.1 z k in let m = ltb-true y x e in omega arith) | inr k ↦ q.1 z k ],
)
least_step P Q R x y b p q (inr e) = rw (cond-false (nat_lt y x) (Some y) (Some x) e) (
  b.first x p.0,
  λ z h. elim (b.either z h) [ inl k ↦ p.1 z k | inr k ↦ (let l = q.1 z k in let m = ltb-false y x e in omega arith) ],
)

-- the lesser of two least numbers is the least of both sets
pub least_of_both : (P Q R : ℕ → Type 0) (o q : Option ℕ) → IsBoth P Q R → IsLeastOf P o → IsLeastOf Q q → IsLeastOf R (lesser_of o q)
least_of_both P Q R None None b p q = λ x h. elim (b.either x h) [ inl k ↦ p x k | inr k ↦ q x k ]
least_of_both P Q R None (Some y) b p q = (b.second y q.0, λ z h. elim (b.either z h) [ inl k ↦ absurd (p z k) | inr k ↦ q.1 z k ])
least_of_both P Q R (Some x) None b p q = (b.first x p.0, λ z h. elim (b.either z h) [ inl k ↦ p.1 z k | inr k ↦ absurd (q z k) ])
least_of_both P Q R (Some x) (Some y) b p q = least_step P Q R x y b p q (cases_Bool (nat_lt y x))

-- where a rule fails among spans and the next one, it fails among those or in this one
pub one_more_span : (c : Case) (r : Rule) (ss : List Span) (i : ℕ) (d s : Span) → i < length ss → s ≡ get_or ss i d → IsBoth (FailsAmong c r (take i ss)) (FailsIn c r s) (FailsAmong c r (take (i + 1) ss))
one_more_span c r ss i d s l e =
    let m : (x : ℕ) → in_spans (take (i + 1) ss) x ≡ (in_spans (take i ss) x || in_span x s) = λ x. list_any_more (in_span x) ss i d l ∙ ap (λ z. in_spans (take i ss) x || in_span x z) (sym e) in
    record {
      either = λ x h. elim (or_cases (in_spans (take i ss) x) (in_span x s) (sym (m x) ∙ h.0)) [ inl k ↦ inl (k, h.1) | inr k ↦ inr (k, h.1) ];
      first = λ x h. (m x ∙ or_left (in_spans (take i ss) x) (in_span x s) h.0, h.1);
      second = λ x h. (m x ∙ or_right (in_spans (take i ss) x) (in_span x s) h.0, h.1);
    }

-- among spans that have all of those in which a rule fails first, the least address is the least of all
pub least_reached : (c : Case) (r : Rule) (ss parts : List Span) (o : Option ℕ) → FindsFirst c r ss → HaveAll parts ss
    → IsLeastOf (FailsAmong c r parts) o → IsLeastOf (FailsBy c r) o
least_reached c r ss parts None v a h = λ x f. let w = v x f in h w.0 (a w.0 w.2.0, w.2.1)
least_reached c r ss parts (Some x) v a h = (
  h.0.1,
  λ y f. let w = v y f in let l = h.1 w.0 (a w.0 w.2.0, w.2.1) in omega (arith, l, w.1),
)

-- in spans that have each address at which a rule fails it fails first
pub reach : (c : Case) (r : Rule) (ss : List Span) → Covers c r ss → FindsFirst c r ss
reach c r ss v x f = (x, omega arith, (v x f, f))

-- the first address of a span at which a rule fails is the least there
pub first_found : (c : Case) (r : Rule) (s : Span) (x : ℕ) → s.first ≤ x → x ≤ s.last → FailsBy c r x → ((y : ℕ) → s.first ≤ y → y < x → FailsBy c r y → ⊥) → IsLeastOf (FailsIn c r s) (Some x)
first_found c r s x l m f n = (
  (and_from _ _ (le-leb s.first x l) (le-leb x s.last m), f),
  λ y h. let p = and_parts _ _ h.0 in let q = leb-true s.first y p.0 in elim (cases_lt y x) [ inl k ↦ absurd (n y q k h.1) | inr k ↦ k ],
)

-- a rule that fails at none of a span's addresses below one, nor there, fails at none below the next
pub more_below : (c : Case) (r : Rule) (first n : ℕ) (b : Bool) → ((y : ℕ) → first ≤ y → y < n → FailsBy c r y → ⊥) → IsTrue b ↔ FailsBy c r n → b ≡ false → (y : ℕ) → first ≤ y → y < n + 1 → FailsBy c r y → ⊥
more_below c r first n b h t e y l m f = elim (cases_lt y n) [
  | inl k ↦ h y l k f
  | inr k ↦ (let q : y ≡ n = omega arith in is_false b e (t.1 (subst (λ z. FailsBy c r z) q f)))
]

-- where a rule fails nowhere in a span, there is no least address
pub none_found : (c : Case) (r : Rule) (s : Span) → ((y : ℕ) → s.first ≤ y → y ≤ s.last → FailsBy c r y → ⊥) → IsLeastOf (FailsIn c r s) None
none_found c r s n x h = let p = and_parts _ _ h.0 in n x (leb-true s.first x p.0) (leb-true x s.last p.1) h.1
