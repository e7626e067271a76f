-- The rules give one choice at each turn, and so one course of turns.
use Rattle.std.proofs.Common.{◌≡◌, inl, inr, ℕ, ◌+◌, ◌*◌, true, List, [], ◌∷◌, length, slice_index, Option, Some, None, refl, sym, ap, ◌∙◌, subst, subst₂, arith}
use Rattle.std.specs.Option.{is_some}
use Rattle.std.proofs.lemmas.Bool.{false≢true, true≢false}
use Rattle.pun_base.specs.declared.action.Action.{Action}
use Rattle.pun_base.specs.declared.scheme.Scheme.{Scheme}
use Rattle.pun_base.specs.declared.outcome.Plan.{Plan}
use Rattle.address_space.specs.declared.extent.Extent.{Extent}
use Rattle.patch_report.specs.Values.{Reason, Immovable, Unplanned, Shared}
use Rattle.patch_report.proofs.ListPlaces.{some_is}
use Rattle.start_entries.specs.declared.entry.StartEntry.{StartEntry}
use Rattle.start_entries.specs.Finding.{entry_at, addresses}
use Rattle.start_entries.specs.Standing.{AreEntries}
use Rattle.start_list.specs.TurnViews.{TurnView}
use Rattle.start_list.specs.Forms.{Candidate, B1, B2, T1, T2, T3, scheme_of, MayBeSite, HasForm}
use Rattle.start_list.specs.Admissible.{IsNoLater, tuple_of, IsFirst}
use Rattle.start_list.specs.Plans.{IsPlanOf}
use Rattle.site_turns.specs.States.{Scene, State, view_at, first_state}
use Rattle.site_turns.specs.Choices.{Choice, Apply, Left, NoneOf, FirstOf, IsReason, IsChoice, IsTurns, after}
use Rattle.site_turns.specs.Laws.{AreSites}
use Rattle.site_turns.specs.PrivateRange.{IsPrivate, pages_for}
use Rattle.site_turns.specs.Modes.{TurnRules, event_rules}
use Rattle.site_turns.specs.Planning.{Request, Turns, AreTurnsUnder, scene_under, taken_at_first}
use Rattle.site_turns.specs.PlanLaws.{IsAsked, TurnsAreOne, CodesAreOne}
use Rattle.start_list.proofs.UntouchedEntries.{one_entry}
use Rattle.site_turns.proofs.PlannedCodes.{codes_same}
use Rattle.site_turns.proofs.MaximalRuns.{plan_same, head_same, tail_same}
use Rattle.site_turns.proofs.RequestScene.{entries_are}

-- lists of which neither is later are the same
no_later_both : (xs ys : List ℕ) → IsNoLater xs ys → IsNoLater ys xs → xs ≡ ys
no_later_both [] [] h k = refl
no_later_both [] (y ∷ ys) h k = absurd k
no_later_both (x ∷ xs) [] h k = absurd h
no_later_both (x ∷ xs) (y ∷ ys) (inl l) (inl m) = absurd (omega (arith, l, m))
no_later_both (x ∷ xs) (y ∷ ys) (inl l) (inr m) = let e = m.0 in absurd (omega (arith, l, e))
no_later_both (x ∷ xs) (y ∷ ys) (inr l) (inl m) = let e = l.0 in absurd (omega (arith, e, m))
no_later_both (x ∷ xs) (y ∷ ys) (inr l) (inr m) = let rest = no_later_both xs ys l.1 m.1 in λ i. l.0 i ∷ rest i

module _ (v : TurnView) (site : StartEntry) (A : AreEntries v.image v.entries) where
  -- candidates of one scheme with one tuple are one
  candidate_same : (c d : Candidate) → HasForm v site c → HasForm v site d → scheme_of c ≡ scheme_of d → tuple_of c ≡ tuple_of d → c ≡ d
  candidate_same (B1 t) (B1 w) f h s e = ap (λ z. B1 (slice_index z 0)) e
  candidate_same (B2 t) (B2 w) f h s e = ap (λ z. B2 (slice_index z 0)) e
  candidate_same (T1 p t) (T1 q w) f h s e = ap (λ z. T1 (slice_index z 0) (slice_index z 1)) e
  candidate_same (T2 a p q pad x t u) (T2 b p' q' pad' x' t' u') f h s e =
      let m = one_entry v.image v.entries A a b f.victim.listed h.victim.listed (f.behind ∙ sym h.behind) in
      λ i. T2 (m i) (slice_index (e i) 0) (slice_index (e i) 1) (slice_index (e i) 2) (slice_index (e i) 3) (slice_index (e i) 4)
      (slice_index (e i) 5)
  candidate_same (T3 a o x t u) (T3 b o' x' t' u') f h s e =
      let m = one_entry v.image v.entries A a b f.victim.listed h.victim.listed (ap (λ z. slice_index z 0) e) in
      λ i. T3 (m i) (slice_index (e i) 1) (slice_index (e i) 2) (slice_index (e i) 3) (slice_index (e i) 4)
  candidate_same c d f h s e = absurd cc

  -- a scheme has one first plan
  first_same : (s : Scheme) (c d : Candidate) → IsFirst v site s c → IsFirst v site s d → c ≡ d
  first_same s c d h k = candidate_same c d h.admissible.allowed.form k.admissible.allowed.form (h.scheme ∙ sym k.scheme)
      (no_later_both (tuple_of c) (tuple_of d) (h.first d k.scheme k.admissible) (k.first c h.scheme h.admissible))

  -- schemes that are tried in turn give one plan
  first_of_same : (ss : List Scheme) (c d : Candidate) (p q : Plan) → FirstOf v site ss c p → FirstOf v site ss d q → Apply c p ≡ Apply d q
  first_of_same [] c d p q h k = absurd h
  first_of_same (s ∷ ss) c d p q (inl h) (inl k) =
      let e = first_same s c d h.0 k.0 in
      let r = plan_same v site d p q (subst (λ (z : Candidate). IsPlanOf v site z p) e h.1) k.1 in
      λ i. Apply (e i) (r i)
  first_of_same (s ∷ ss) c d p q (inl h) (inr k) = absurd (k.0 c h.0.scheme h.0.admissible)
  first_of_same (s ∷ ss) c d p q (inr h) (inl k) = absurd (h.0 d k.0.scheme k.0.admissible)
  first_of_same (s ∷ ss) c d p q (inr h) (inr k) = first_of_same ss c d p q h.1 k.1

  -- a scheme list with a first plan isn't one without a plan
  not_none : (ss : List Scheme) (c : Candidate) (p : Plan) → FirstOf v site ss c p → NoneOf v site ss → ⊥
  not_none [] c p h n = h
  not_none (s ∷ ss) c p (inl h) n = n.0 c h.0.scheme h.0.admissible
  not_none (s ∷ ss) c p (inr h) n = not_none ss c p h.1 n.1

  -- what is something isn't nothing
  not_nothing : (o : Option ℕ) → is_some o ≡ true → o ≡ None → ⊥
  not_nothing None h e = false≢true h
  not_nothing (Some n) h e = absurd cc

  -- what shares bytes may not be patched
  not_shared : MayBeSite site → site.shared ≡ true → ⊥
  not_shared may h = true≢false (sym h ∙ may)

  -- the site of a first plan may be patched
  plan_may : (ss : List Scheme) (c : Candidate) (p : Plan) → FirstOf v site ss c p → MayBeSite site
  plan_may [] c p h = absurd h
  plan_may (s ∷ ss) c p (inl h) = h.0.admissible.site_may
  plan_may (s ∷ ss) c p (inr h) = plan_may ss c p h.1

  -- where a plan is applied there is no reason to leave the site
  none_left : (ss : List Scheme) (c : Candidate) (p : Plan) (why : Reason) → IsChoice v ss site (Apply c p) → IsReason v ss site why → ⊥
  none_left ss c p Immovable h k = not_nothing _ h.0 k.1
  none_left ss c p Unplanned h k = not_none ss c p h.1 k.2
  none_left ss c p Shared h k = not_shared (plan_may ss c p h.1) k

  -- there is one reason
  reason_same : (ss : List Scheme) (x y : Reason) → IsReason v ss site x → IsReason v ss site y → x ≡ y
  reason_same ss Immovable Immovable h k = refl
  reason_same ss Immovable Unplanned h k = absurd (not_nothing _ k.1 h.1)
  reason_same ss Unplanned Immovable h k = absurd (not_nothing _ h.1 k.1)
  reason_same ss Unplanned Unplanned h k = refl
  reason_same ss Immovable Shared h k = absurd (not_shared h.0 k)
  reason_same ss Unplanned Shared h k = absurd (not_shared h.0 k)
  reason_same ss Shared Immovable h k = absurd (not_shared k.0 h)
  reason_same ss Shared Unplanned h k = absurd (not_shared k.0 h)
  reason_same ss Shared Shared h k = refl

  -- there is one choice at a turn
  choice_same : (ss : List Scheme) (x y : Choice) → IsChoice v ss site x → IsChoice v ss site y → x ≡ y
  choice_same ss (Apply c p) (Apply d q) h k = first_of_same ss c d p q h.1 k.1
  choice_same ss (Apply c p) (Left why) h k = absurd (none_left ss c p why h k)
  choice_same ss (Left why) (Apply d q) h k = absurd (none_left ss d q why k h)
  choice_same ss (Left why) (Left other) h k = ap Left (reason_same ss why other h k)

-- the choices at all turns are one
choices_same : (g : Scene) (ss : List Scheme) → AreEntries g.image g.entries → (t : State) (es : List StartEntry) (xs ys : List Choice)
    → IsTurns g ss t es xs → IsTurns g ss t es ys → xs ≡ ys
choices_same g ss A t [] [] [] h k = refl
choices_same g ss A t [] [] (y ∷ ys) h k = absurd k
choices_same g ss A t [] (x ∷ xs) ys h k = absurd h
choices_same g ss A t (e ∷ es) [] ys h k = absurd h
choices_same g ss A t (e ∷ es) (x ∷ xs) [] h k = absurd k
choices_same g ss A t (e ∷ es) (x ∷ xs) (y ∷ ys) h k =
    let first = choice_same (view_at g t) e A ss x y h.0 k.0 in
    let rest = choices_same g ss A (after g t e (length es) x) es xs ys h.1
    (subst (λ (z : Choice). IsTurns g ss (after g t e (length es) z) es ys) (sym first) k.1) in
    λ i. first i ∷ rest i

-- sites have one list of entries
entries_same : (g h : Scene) (es fs : List StartEntry) → g.entries ≡ h.entries → addresses es ≡ addresses fs → AreSites g es
    → AreSites h fs → es ≡ fs
entries_same g h [] [] o a s r = refl
entries_same g h [] (f ∷ fs) o a s r = absurd cc
entries_same g h (e ∷ es) [] o a s r = absurd cc
entries_same g h (e ∷ es) (f ∷ fs) o a s r =
    let addr = head_same e.addr f.addr (addresses es) (addresses fs) a in
    let first = some_is e f (sym s.0 ∙ (λ i. entry_at (o i) (addr i)) ∙ r.0) in
    let rest = entries_same g h es fs o (tail_same e.addr f.addr (addresses es) (addresses fs) a) s.2 r.2 in
    λ i. first i ∷ rest i

-- there is one least private range
private_same : (taken : List Extent) (action : Action) (n : ℕ) (x y : Extent) → IsPrivate taken action n x → IsPrivate taken action n y
    → x ≡ y
private_same taken action n x y h k =
    let a = h.least.least y.lo k.least.good in
    let b = k.least.least x.lo h.least.good in
    let lo : x.lo ≡ y.lo = omega (arith, a, b) in
    let hi = h.size ∙ ap (λ z. z + pages_for action n * 4096) lo ∙ sym k.size in
    λ i. record { lo = lo i; hi = hi i }

-- by whatever rules the turns go, they are one course
pub turns_same : (r : TurnRules) (q : Request) (t u : Turns) → IsAsked q → AreTurnsUnder r q t → AreTurnsUnder r q u → t ≡ u
turns_same r q t u a h k =
    let es = entries_same (scene_under r q t) (scene_under r q u) t.entries u.entries refl (h.sites ∙ sym k.sites) h.turns.sites k.turns.sites in
    let range = private_same (taken_at_first q) q.action (length t.entries) t.private u.private h.turns.private
    (subst (λ (z : List StartEntry). IsPrivate (taken_at_first q) q.action (length z) u.private) (sym es) k.turns.private) in
    let xs = choices_same (scene_under r q t) r.schemes (entries_are q a) (first_state (scene_under r q t)) t.entries t.choices u.choices h.turns.turns
    (subst₂ (λ (e : Extent) (z : List StartEntry). IsTurns (scene_under r q (record { entries = z; private = e; choices = u.choices })) r.schemes
    (first_state (scene_under r q (record { entries = z; private = e; choices = u.choices }))) z u.choices) (sym range) (sym es) k.turns.turns) in
    λ i. record { entries = es i; private = range i; choices = xs i }

-- the rules give one course of turns at most
pub turns_are_one : TurnsAreOne
turns_are_one q t u a h k = turns_same (event_rules q.action) q t u a h k

-- the rules give one place and one code for each trampoline
pub codes_are_one : CodesAreOne
codes_are_one q t p r a h k = codes_same _ _ p.built r.built h.built k.built
