-- The verdict over six rules, of which each has its least address.
use Rattle.std.proofs.Common.{◌≡◌, ◌⊎◌, inl, inr, ℕ, suc, ◌<◌, ◌≤◌, true, false, cond, Option, Some, None, refl, subst, arith}
use Rattle.std.specs.Prelude.{nat_lt}
use Rattle.std.proofs.lemmas.Bool.{cases_Bool, cases_lt, cond-true, cond-false, ltb-true, ltb-false}
use Rattle.image_check.specs.declared.rule.Rule.{Rule}
use Rattle.image_check.specs.declared.rule.Rule.TheVariants as rule
use Rattle.image_check.specs.declared.verdict.Verdict.{Verdict}
use Rattle.image_check.specs.declared.verdict.Verdict.TheVariants.{Yes, No}
use Rattle.start_entries.specs.Standing.{AreEntries}
use Rattle.patch_report.specs.Grammar.{IsTold}
use Rattle.image_check.specs.Parts.{earlier_of, rule_number}
use Rattle.sound_images.specs.Rules.{Case, Fails}
use Rattle.sound_images.specs.Soundness.{IsCaseFollowed}
use Rattle.image_check.specs.Verdict.{FailsBy, IsLeastOf, IsVerdict}
use Rattle.sound_images.proofs.StartPairs.{sound_followed}

-- a rule fails by its number
by_rule : (c : Case) (r : Rule) (x : ℕ) → FailsBy c r x → Fails c (rule_number r) x
by_rule c rule.Byte x f = inl (refl, f)
by_rule c rule.Write x f = inr (inl (refl, f))
by_rule c rule.Entry x f = inr (inr (inl (refl, f)))
by_rule c rule.Code x f = inr (inr (inr (inl (refl, f))))
by_rule c rule.Range x f = inr (inr (inr (inr (inl (refl, f)))))
by_rule c rule.Site x f = inr (inr (inr (inr (inr (refl, f)))))

-- where the rule of a number fails at an address, that rule fails there
of_number : (c : Case) (r : Rule) (x : ℕ) → Fails c (rule_number r) x → FailsBy c r x
of_number c rule.Byte x (inl h) = h.1
of_number c rule.Byte x (inr (inl h)) = absurd (omega (arith, h.0))
of_number c rule.Byte x (inr (inr (inl h))) = absurd (omega (arith, h.0))
of_number c rule.Byte x (inr (inr (inr (inl h)))) = absurd (omega (arith, h.0))
of_number c rule.Byte x (inr (inr (inr (inr (inl h))))) = absurd (omega (arith, h.0))
of_number c rule.Byte x (inr (inr (inr (inr (inr h))))) = absurd (omega (arith, h.0))
of_number c rule.Write x (inl h) = absurd (omega (arith, h.0))
of_number c rule.Write x (inr (inl h)) = h.1
of_number c rule.Write x (inr (inr (inl h))) = absurd (omega (arith, h.0))
of_number c rule.Write x (inr (inr (inr (inl h)))) = absurd (omega (arith, h.0))
of_number c rule.Write x (inr (inr (inr (inr (inl h))))) = absurd (omega (arith, h.0))
of_number c rule.Write x (inr (inr (inr (inr (inr h))))) = absurd (omega (arith, h.0))
of_number c rule.Entry x (inl h) = absurd (omega (arith, h.0))
of_number c rule.Entry x (inr (inl h)) = absurd (omega (arith, h.0))
of_number c rule.Entry x (inr (inr (inl h))) = h.1
of_number c rule.Entry x (inr (inr (inr (inl h)))) = absurd (omega (arith, h.0))
of_number c rule.Entry x (inr (inr (inr (inr (inl h))))) = absurd (omega (arith, h.0))
of_number c rule.Entry x (inr (inr (inr (inr (inr h))))) = absurd (omega (arith, h.0))
of_number c rule.Code x (inl h) = absurd (omega (arith, h.0))
of_number c rule.Code x (inr (inl h)) = absurd (omega (arith, h.0))
of_number c rule.Code x (inr (inr (inl h))) = absurd (omega (arith, h.0))
of_number c rule.Code x (inr (inr (inr (inl h)))) = h.1
of_number c rule.Code x (inr (inr (inr (inr (inl h))))) = absurd (omega (arith, h.0))
of_number c rule.Code x (inr (inr (inr (inr (inr h))))) = absurd (omega (arith, h.0))
of_number c rule.Range x (inl h) = absurd (omega (arith, h.0))
of_number c rule.Range x (inr (inl h)) = absurd (omega (arith, h.0))
of_number c rule.Range x (inr (inr (inl h))) = absurd (omega (arith, h.0))
of_number c rule.Range x (inr (inr (inr (inl h)))) = absurd (omega (arith, h.0))
of_number c rule.Range x (inr (inr (inr (inr (inl h))))) = h.1
of_number c rule.Range x (inr (inr (inr (inr (inr h))))) = absurd (omega (arith, h.0))
of_number c rule.Site x (inl h) = absurd (omega (arith, h.0))
of_number c rule.Site x (inr (inl h)) = absurd (omega (arith, h.0))
of_number c rule.Site x (inr (inr (inl h))) = absurd (omega (arith, h.0))
of_number c rule.Site x (inr (inr (inr (inl h)))) = absurd (omega (arith, h.0))
of_number c rule.Site x (inr (inr (inr (inr (inl h))))) = absurd (omega (arith, h.0))
of_number c rule.Site x (inr (inr (inr (inr (inr h))))) = h.1

-- rules have the numbers 1 to 6
numbered : (c : Case) (n x : ℕ) → Fails c n x → (1 ≤ n) × (n ≤ 6)
numbered c n x (inl h) = (omega (arith, h.0), omega (arith, h.0))
numbered c n x (inr (inl h)) = (omega (arith, h.0), omega (arith, h.0))
numbered c n x (inr (inr (inl h))) = (omega (arith, h.0), omega (arith, h.0))
numbered c n x (inr (inr (inr (inl h)))) = (omega (arith, h.0), omega (arith, h.0))
numbered c n x (inr (inr (inr (inr (inl h))))) = (omega (arith, h.0), omega (arith, h.0))
numbered c n x (inr (inr (inr (inr (inr h))))) = (omega (arith, h.0), omega (arith, h.0))

-- a verdict on the rules up to a number
abbrev pub IsJudged : Case → ℕ → Verdict → Type 0
IsJudged c n Yes = (other y : ℕ) → other ≤ n → Fails c other y → ⊥
IsJudged c n (No x r) =
    Fails c r x × (r ≤ n) × ((other y : ℕ) → other ≤ n → Fails c other y → (x < y) ⊎ ((x ≡ y) × (r ≤ other)))

-- of no rule
judged_none : (c : Case) → IsJudged c 0 Yes
judged_none c other y l f = let k = numbered c other y f in absurd (omega (arith, l, k.0))

-- a rule that fails is among those before, or the next one
last_or : (c : Case) (r : Rule) (other y : ℕ) → other ≤ rule_number r → Fails c other y
    → (other < rule_number r) ⊎ ((other ≡ rule_number r) × FailsBy c r y)
last_or c r other y l f = elim (cases_lt other (rule_number r)) [
  | inl k ↦ inl k
  | inr k ↦ (let e : other ≡ rule_number r = omega (arith, l, k) in inr (e, of_number c r y (subst (λ (z : ℕ). Fails c z y) e f)))
]

-- an address is below another, or the same with no greater rule
at_most : (x y r other : ℕ) → x ≤ y → r ≤ other → (x < y) ⊎ ((x ≡ y) × (r ≤ other))
at_most x y r other l k = elim (cases_lt x y) [ inl h ↦ inl h | inr h ↦ inr (omega (arith, l, h), k) ]

-- the next rule fails earlier than those before, or not
earlier_step : (c : Case) (n : ℕ) (r : Rule) (a q x : ℕ) → rule_number r ≡ suc n → IsJudged c n (No a q) → IsLeastOf (FailsBy c r) (Some x)
    → (nat_lt x a ≡ true) ⊎ (nat_lt x a ≡ false) → IsJudged c (rule_number r) (cond (nat_lt x a) (No x (rule_number r)) (No a q))
earlier_step c n r a q x e j h (inl t) =
    let u : x < a = ltb-true x a t in
    rw (cond-true (nat_lt x a) (No x (rule_number r)) (No a q) t) (
      by_rule c r x h.0,
      omega arith,
      λ other y l f. elim (last_or c r other y l f) [
        | inl k ↦ elim (j.2 other y (omega (arith, k, e)) f) [ inl m ↦ inl (omega (arith, m, u)) | inr m ↦ inl (omega (arith, m.0, u)) ]
        | inr k ↦ at_most x y (rule_number r) other (h.1 y k.1) (omega (arith, k.0))
      ],
    )
earlier_step c n r a q x e j h (inr t) =
    let u : a ≤ x = ltb-false x a t in
    rw (cond-false (nat_lt x a) (No x (rule_number r)) (No a q) t) (
      j.0,
      omega (arith, j.1, e),
      λ other y l f. elim (last_or c r other y l f) [
        | inl k ↦ j.2 other y (omega (arith, k, e)) f
        | inr k ↦ (let m : x ≤ y = h.1 y k.1 in at_most a y q other (omega (arith, u, m)) (omega (arith, j.1, k.0, e)))
      ],
    )

-- a verdict by the first n rules, and the least address at which the next one fails, make a verdict by n + 1 rules
judged_more : (c : Case) (n : ℕ) (r : Rule) (v : Verdict) (o : Option ℕ) → rule_number r ≡ suc n → IsJudged c n v
    → IsLeastOf (FailsBy c r) o → IsJudged c (rule_number r) (earlier_of v o (rule_number r))
judged_more c n r Yes None e j h = λ other y l f. elim (last_or c r other y l f) [
  | inl k ↦ j other y (omega (arith, k, e)) f
  | inr k ↦ h y k.1
]
judged_more c n r (No a q) None e j h = (
  j.0,
  omega (arith, j.1, e),
  λ other y l f. elim (last_or c r other y l f) [ inl k ↦ j.2 other y (omega (arith, k, e)) f | inr k ↦ absurd (h y k.1) ],
)
judged_more c n r Yes (Some x) e j h = (
  by_rule c r x h.0,
  omega arith,
  λ other y l f. elim (last_or c r other y l f) [
    | inl k ↦ absurd (j other y (omega (arith, k, e)) f)
    | inr k ↦ at_most x y (rule_number r) other (h.1 y k.1) (omega (arith, k.0))
  ],
)
judged_more c n r (No a q) (Some x) e j h = earlier_step c n r a q x e j h (cases_Bool (nat_lt x a))

-- of all six
judged_all : (c : Case) (v : Verdict) → IsJudged c 6 v → IsVerdict c v
judged_all c Yes j = λ r x f. j r x (numbered c r x f).1 f
judged_all c (No a q) j = record { fails = j.0; least = λ other y f. j.2 other y (numbered c other y f).1 f }

-- six least addresses give the verdict
pub judged : (c : Case) (byte write entry code range site : Option ℕ) → IsLeastOf (FailsBy c rule.Byte) byte
    → IsLeastOf (FailsBy c rule.Write) write → IsLeastOf (FailsBy c rule.Entry) entry → IsLeastOf (FailsBy c rule.Code) code
    → IsLeastOf (FailsBy c rule.Range) range → IsLeastOf (FailsBy c rule.Site) site
    → IsVerdict c
    (earlier_of (earlier_of (earlier_of (earlier_of (earlier_of (earlier_of Yes byte 1) write 2) entry 3) code 4) range 5) site 6)
judged c byte write entry code range site b w e k r s =
    let j1 = judged_more c 0 rule.Byte Yes byte refl (judged_none c) b in
    let j2 = judged_more c 1 rule.Write _ write refl j1 w in
    let j3 = judged_more c 2 rule.Entry _ entry refl j2 e in
    let j4 = judged_more c 3 rule.Code _ code refl j3 k in
    let j5 = judged_more c 4 rule.Range _ range refl j4 r in
    judged_all c _ (judged_more c 5 rule.Site _ site refl j5 s)

-- what is judged sound is followed
pub yes_followed : (c : Case) (v : Verdict) → AreEntries c.original c.listed → IsTold c.report → IsVerdict c v → v ≡ Yes → IsCaseFollowed c
unfolding IsCaseFollowed
yes_followed c v a r h e = sound_followed c a r (subst (λ (z : Verdict). IsVerdict c z) e h)
