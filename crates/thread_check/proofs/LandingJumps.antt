-- Where a jump lands, and where it leads: to a place, or on from where the original loads a byte.
use Rattle.std.proofs.Common.{◌≡◌, ◌↔◌, ◌⊎◌, inl, inr, ℕ, Bool, true, false, Option, Some, None, refl, sym, ap, ◌∙◌, subst}
use Rattle.std.specs.Prelude.{IsTrue, ◌==◌}
use Rattle.std.specs.Option.{is_some, option_map}
use Rattle.std.proofs.lemmas.Bool.{cases_Bool, cases_eq, eq-eqb, true≢false}
use Rattle.pun_base.specs.Memory.{Bytes}
use Rattle.patch_report.proofs.ListPlaces.{some_is}
use Rattle.start_entries.specs.Finding.{entry_at}
use Rattle.start_entries.specs.Leading.{JumpsTo, Leads}
use Rattle.sound_images.specs.Rules.{Case}
use Rattle.image_check.proofs.FixedJumps.{to_place}
use Rattle.sound_images.proofs.LeadingBytes.{leads_or_not, one_target}
use Rattle.thread_check.specs.ThreadRules.{ThreadLeads}
use Rattle.thread_check.specs.LineParts.{Lands}

-- what an option is mapped to is something where the option is
pub still_some : {X Y : Type 0} (f : X → Y) (o : Option X) → is_some o ≡ is_some (option_map f o)
still_some f None = refl
still_some f (Some x) = refl

-- where no jump stands, none lands
pub lands_nowhere : (o : Option ℕ) (m n : Bytes) (start place : ℕ) → ((t : ℕ) → (o ≡ Some t) ↔ JumpsTo n start t) → o ≡ None → IsTrue false ↔ Lands m n start place
lands_nowhere o m n start place h e = (λ t. absurd cc, λ l. absurd (to_place o n start l.target h e l.jump))

-- a jump to the place lands
pub lands_there : (o : Option ℕ) (m n : Bytes) (start place t : ℕ) → ((u : ℕ) → (o ≡ Some u) ↔ JumpsTo n start u) → o ≡ Some t → t ≡ place → IsTrue (t == place) ↔ Lands m n start place
lands_there o m n start place t h e s = (λ c. record { target = t; jump = (h t).0 e; there = inl s }, λ l. eq-eqb t place s)

-- a jump elsewhere lands exactly where the original loads a byte
pub lands_elsewhere : (o : Option ℕ) (m n : Bytes) (start place t : ℕ) (b : Bool) → ((u : ℕ) → (o ≡ Some u) ↔ JumpsTo n start u) → o ≡ Some t → (t ≡ place → ⊥)
    → b ≡ is_some (m t) → IsTrue b ↔ Lands m n start place
lands_elsewhere o m n start place t b h e away k = (
  λ c. record { target = t; jump = (h t).0 e; there = inr (sym k ∙ c) },
  λ l. by_there l (some_is t l.target (sym e ∙ (h l.target).1 l.jump)) l.there,
)
  where
    by_there : (l : Lands m n start place) → t ≡ l.target → (l.target ≡ place) ⊎ (is_some (m l.target) ≡ true) → b ≡ true
    by_there l s (inl p) = absurd (away (s ∙ p))
    by_there l s (inr q) = k ∙ ap (λ (z : ℕ). is_some (m z)) s ∙ q

module _ (c : Case) where
  -- what leads to a place for threads leads there
  pub leads_too : (x place : ℕ) → ThreadLeads c x place → Leads c.patched c.listed x place
  leads_too x place (inl j) = inl j
  leads_too x place (inr t) = inr (t.second, t.there, t.unlisted, t.on)

  -- and its first jump lands at the place, or where the original loads a byte
  pub lands_too : (x place : ℕ) → ThreadLeads c x place → Lands c.original c.patched x place
  lands_too x place (inl j) = record { target = place; jump = j; there = inl refl }
  lands_too x place (inr t) = record { target = t.second; jump = t.there; there = inr t.old }

  -- what leads to a place, and lands so, leads there for threads
  pub leads_for : (x place : ℕ) → Leads c.patched c.listed x place → Lands c.original c.patched x place → ThreadLeads c x place
  leads_for x place (inl j) l = inl j
  leads_for x place (inr q) l =
      let s : l.target ≡ q.0 = one_target c.patched x l.target q.0 l.jump q.1 in
      elim l.there [
        | inl p ↦ inl (subst (λ (z : ℕ). JumpsTo c.patched x z) p l.jump)
        | inr o ↦ inr (record { second = q.0; there = q.1; unlisted = q.2; old = subst (λ (z : ℕ). is_some (c.original z) ≡ true) s o; on = q.3 })
      ]

  -- whether something leads to a place for threads is decided
  pub leads_unless : (x place : ℕ) → ((ThreadLeads c x place → ⊥) → ⊥) → ThreadLeads c x place
  leads_unless x place n = elim (leads_or_not c.patched c.listed x place) [
    | inr none ↦ absurd (n (λ t. none (leads_too x place t)))
    | inl (inl j) ↦ inl j
    | inl (inr q) ↦ by_second q.0 q.1 q.2 q.3
  ]
    where
      by_second : (mid : ℕ) → JumpsTo c.patched x mid → is_some (entry_at c.listed mid) ≡ false → JumpsTo c.patched mid place → ThreadLeads c x place
      by_second mid there unlisted on = elim (cases_Bool (is_some (c.original mid))) [
        | inl old ↦ inr (record { second = mid; there = there; unlisted = unlisted; old = old; on = on })
        | inr new ↦ elim (cases_eq mid place) [
          | inl e ↦ inl (subst (λ (z : ℕ). JumpsTo c.patched x z) e there)
          | inr away ↦ absurd (n (λ t. elim t [
            | inl j ↦ away (one_target c.patched x mid place there j)
            | inr o ↦ true≢false (sym o.old ∙ ap (λ (z : ℕ). is_some (c.original z)) (one_target c.patched x o.second mid o.there there) ∙ new)
          ]))
        ]
      ]
