-- The first admissible plan of scheme T1 is the one of the fewest pads, and of these the one of the least place.
use Rattle.std.proofs.Common.{◌≡◌, inl, inr, ℕ, ◌<◌, ◌≤◌, [], ◌∷◌, refl, sym, subst, arith}
use Rattle.std.proofs.lemmas.Bool.{cases_lt}
use Rattle.pun_base.specs.declared.scheme.Scheme.TheVariants as scheme
use Rattle.pun_base.specs.declared.outcome.Plan.{Plan}
use Rattle.pun_base.specs.Least.{IsLeast}
use Rattle.start_entries.specs.declared.entry.StartEntry.{StartEntry}
use Rattle.start_list.specs.TurnViews.{TurnView}
use Rattle.start_list.specs.Forms.{Candidate, B1, B2, T1, T2, T3, MayBeSite, scheme_of}
use Rattle.start_list.specs.Admissible.{IsAdmissible, IsFirst, IsNoLater, tuple_of}
use Rattle.start_list.specs.Plans.{IsPlanOf}
use Rattle.scheme_search.specs.Padded.{Reaches, IsPaddedPlan}

module _ (v : TurnView) (site : StartEntry) where
  -- What an admissible plan of the scheme is: pads, fewer than the site's few bytes, and a place that the jump after them reaches.
  pub record IsPadded (c : Candidate) : Type 0 where
    pub pads : ℕ
    pub place : ℕ
    pub is : c ≡ T1 pads place
    pub short : site.len ≤ 4
    pub some : 1 ≤ pads
    pub inside : pads < site.len
    pub reaches : Reaches v site pads place

  -- Each admissible plan of the scheme is one.
  pub padded : (c : Candidate) → scheme_of c ≡ scheme.T1 → IsAdmissible v site c → IsPadded c
  padded (B1 t) e h = absurd (cc)
  padded (B2 t) e h = absurd (cc)
  padded (T1 p t) e h = record {
    pads = p;
    place = t;
    is = refl;
    short = h.allowed.form.0;
    some = h.allowed.form.1;
    inside = h.allowed.form.2;
    reaches = record { free = h.allowed.free; punned = h.allowed.punned; stands = h.allowed.stands; placed = h.placed };
  }
  padded (T2 x p q pad n t u) e h = absurd (cc)
  padded (T3 x i n t u) e h = absurd (cc)

  -- With fewer pads no jump reaches a free place.
  abbrev pub NoneBelow : ℕ → Type 0
  NoneBelow n = (p t : ℕ) → 1 ≤ p → p < n → Reaches v site p t → ⊥

  -- A jump after p pads that reaches a place makes an admissible plan of T1.
  admissible : (p t : ℕ) → MayBeSite site → site.len ≤ 4 → 1 ≤ p → p < site.len → Reaches v site p t → IsAdmissible v site (T1 p t)
  admissible p t may short some inside r = record {
    site_may = may;
    allowed = record { form = (short, some, inside); free = r.free; punned = r.punned; stands = r.stands };
    placed = r.placed;
    least = λ two. absurd (omega arith);
  }

  -- A plan with fewer pads, or with as many and a lower place, comes no later.
  no_later : (p t q s : ℕ) → p ≤ q → (p ≡ q → t ≤ s) → IsNoLater (p ∷ t ∷ []) (q ∷ s ∷ [])
  no_later p t q s l f = elim (cases_lt p q) [
    | inl h ↦ inl h
    | inr h ↦ (let e : p ≡ q = omega arith in inr (
      e,
      elim (cases_lt t s) [
        | inl k ↦ inl k
        | inr k ↦ (let m = f e in inr (omega arith, tt))
      ],
    ))
  ]

  -- The least place that a jump after the fewest pads reaches is the first plan of the scheme.
  pub first_padded : (p t : ℕ) → MayBeSite site → site.len ≤ 4 → 1 ≤ p → p < site.len → NoneBelow p → IsLeast (Reaches v site p) t
      → IsFirst v site scheme.T1 (T1 p t)
  first_padded p t may short some inside below h = record {
    scheme = refl;
    admissible = admissible p t may short some inside h.good;
    first = λ d e a.
        let r = padded d e a in
        subst (λ (c : Candidate). IsNoLater (p ∷ t ∷ []) (tuple_of c)) (sym r.is) (no_later p t r.pads r.place (fewest r) (λ q. h.least r.place (subst (λ (k : ℕ). Reaches v site k r.place) (sym q) r.reaches)));
  }
    where
      fewest : {d : Candidate} (r : IsPadded d) → p ≤ r.pads
      fewest r = elim (cases_lt r.pads p) [
        | inl q ↦ absurd (below r.pads r.place r.some q r.reaches)
        | inr q ↦ q
      ]

  -- A plan that tells a jump after p pads is the plan of T1.
  pub padded_is : (p t : ℕ) (plan : Plan) → IsPaddedPlan v site scheme.T1 p t plan → IsPlanOf v site (T1 p t) plan
  padded_is p t plan h = record { scheme = h.named; tramps = h.tramps; written = h.written; writes = h.writes; punned = h.punned; puns = h.puns }
