-- An input is judged in one way at most.
use Rattle.std.proofs.Common.{◌≡◌, ◌⊎◌, inl, inr, ℕ, ◌+◌, ◌*◌, ◌≤◌, ◌<◌, List, ◌∷◌, Result, Ok, Err, refl, sym, ap, ◌∙◌, subst, arith}
use Rattle.pun_base.specs.declared.range.Range.{Range}
use Rattle.address_space.specs.declared.extent.Extent.{Extent}
use Rattle.address_space.specs.Free.{extent_of}
use Rattle.pun_base.specs.Least.{IsLeast}
use Rattle.address_space.specs.Fit.{FitsPages}
use Rattle.elf_emit.specs.Job as written
use Rattle.elf_emit.specs.declared.emit.EmitError.TheVariants as emit
use Rattle.site_turns.specs.Modes.{TurnRules, event_rules}
use Rattle.site_turns.specs.Planning.{Request, Turns, AreTurnsUnder}
use Rattle.site_turns.specs.PlanLaws.{IsAsked}
use Rattle.rewrite_core.specs.declared.rewrite.RewriteError.{RewriteError}
use Rattle.rewrite_core.specs.declared.rewrite.RewriteError.TheVariants as rewrite
use Rattle.rewrite_core.specs.Asked.{Asked, IsInOrder}
use Rattle.rewrite_core.specs.Judging.{IsJobFor, writing_of, JudgesPlanBy}
use Rattle.rewrite_core.specs.Laws.{AreJudgedOnce}
use Rattle.rewrite_core.proofs.OneJob.{job_once}
use Rattle.rewrite_core.proofs.OneVerdict.{job_turned, plan_once}
use Rattle.loader_form.specs.declared.error.LoadError.{LoadError}
use Rattle.loader_form.specs.declared.error.LoadError.TheVariants as load
use Rattle.loader_form.specs.LoaderState.{LoaderState}
use Rattle.loader_form.specs.Lay.{stub_count, laid_of, IsLoader, HasNoPlace, Lays}
use Rattle.rewrite_loader.specs.declared.error.LoaderError.{LoaderError}
use Rattle.rewrite_loader.specs.declared.error.LoaderError.TheVariants.{Rewrite, Load}
use Rattle.rewrite_loader.specs.Judging.{LaidJob, entry_count, taken_by, run_count, IsLaidFor, with_loader, JudgesLaid, JudgesPlanned, JudgesLoaderBy, Judges}

-- ---- there is one place for stub and save page

-- a least number is one
least_once : (P : ℕ → Type 0) (s t : ℕ) → IsLeast P s → IsLeast P t → s ≡ t
least_once P s t x y = omega (arith, x.least t y.good, y.least s x.good)

-- the stub and the save page have one place at most
place_once : (taken : List Extent) (n : ℕ) (k l : LoaderState) → IsLoader taken n k → IsLoader taken n l → laid_of k ≡ laid_of l
place_once taken n k l x y =
    let a : k.stub.lo ≡ l.stub.lo = least_once (FitsPages taken (stub_count n)) k.stub.lo l.stub.lo x.stub y.stub in
    let h : k.stub.hi ≡ l.stub.hi = x.stub_size ∙ ap (λ (z : ℕ). z + 4096 * stub_count n) a ∙ sym y.stub_size in
    let e : extent_of k.stub ≡ extent_of l.stub = λ i. record { lo = a i; hi = h i } in
    let s : k.save.lo ≡ l.save.lo =
    least_once (FitsPages (extent_of l.stub ∷ taken) 1) k.save.lo l.save.lo
    (subst (λ (z : Extent). IsLeast (FitsPages (z ∷ taken) 1) k.save.lo) e x.save) y.save in
    let r : k.runs ≡ l.runs = x.runs ∙ sym y.runs in
    λ i. record { at = a i; pages = stub_count (r i); save = s i }

-- why nothing is laid
abbrev IsUnlaid : List Extent → ℕ → LoadError → Type 0
IsUnlaid taken n load.Memory = ⊥
IsUnlaid taken n error = Lays taken n (Err error)

-- there is one reason at most why nothing is laid
unlaid_once : (taken : List Extent) (n : ℕ) (e f : LoadError) → IsUnlaid taken n e → IsUnlaid taken n f → e ≡ f
unlaid_once taken n (load.TooManyRuns a) (load.TooManyRuns b) x y = ap load.TooManyRuns (x.0 ∙ sym y.0)
unlaid_once taken n (load.TooManyRuns a) (load.NoLoader b) x y = absurd (omega (arith, x.1, y.0))
unlaid_once taken n (load.TooManyRuns a) load.Memory x y = absurd y
unlaid_once taken n (load.NoLoader a) (load.TooManyRuns b) x y = absurd (omega (arith, x.0, y.1))
unlaid_once taken n (load.NoLoader a) (load.NoLoader b) x y = ap load.NoLoader (x.1 ∙ sym y.1)
unlaid_once taken n (load.NoLoader a) load.Memory x y = absurd y
unlaid_once taken n load.Memory f x y = absurd x

-- where a stub is laid, there is a place
has_place : (taken : List Extent) (n : ℕ) (l : LoaderState) → IsLoader taken n l → HasNoPlace taken (stub_count n) → ⊥
has_place taken n l x (inl none) = none l.stub.lo x.stub.good
has_place taken n l x (inr h) =
    let a : h.0 ≡ l.stub.lo = least_once (FitsPages taken (stub_count n)) h.0 l.stub.lo h.1 x.stub in
    let b : h.0 + 4096 * stub_count n ≡ l.stub.hi = ap (λ (z : ℕ). z + 4096 * stub_count n) a ∙ sym x.stub_size in
    let e : record { lo = h.0; hi = h.0 + 4096 * stub_count n } ≡ extent_of l.stub = λ i. record { lo = a i; hi = b i } in
    h.2 l.save.lo (subst (λ (z : Extent). FitsPages (z ∷ taken) 1 l.save.lo) (sym e) x.save.good)

-- where something is laid, there is no reason why nothing is
no_both : (taken : List Extent) (n : ℕ) (e : LoadError) (l : LoaderState) → IsUnlaid taken n e → IsLoader taken n l → ⊥
no_both taken n (load.TooManyRuns a) l x y = let few = y.few in omega (arith, x.1, few)
no_both taken n (load.NoLoader a) l x y = has_place taken n l y (subst (HasNoPlace taken) x.1 x.2)
no_both taken n load.Memory l x y = x

-- ---- the table after it

-- the verdict of too long a table
abbrev too_many : {J : Type 0} → ℕ → Result J LoaderError
too_many n = Err (Rewrite (rewrite.Emit (emit.TooManySegments n)))

-- how a laid job with such a count of entries is judged
abbrev AfterLaid : {J : Type 0} → J → ℕ → Result J LoaderError → Type 0
AfterLaid k n v = ((v ≡ Ok k) × (n ≤ 1024)) ⊎ ((v ≡ too_many n) × (1024 < n))

-- a laid job has one verdict by its table at most
table_once : {J : Type 0} → (k : J) (n : ℕ) (v w : Result J LoaderError) → AfterLaid k n v → AfterLaid k n w → v ≡ w
table_once k n v w (inl x) (inl y) = x.0 ∙ sym y.0
table_once k n v w (inl x) (inr y) = absurd (omega (arith, x.1, y.1))
table_once k n v w (inr x) (inl y) = absurd (omega (arith, x.1, y.1))
table_once k n v w (inr x) (inr y) = x.0 ∙ sym y.0

-- ---- for any kind of rewriting whose jobs have turns, and of which a request has one at most

module _ {J : Type 0} (IsJob : Request → J → Type 0) (writing : J → written.Job) (rules : Request → TurnRules)
    (turned : (q : Request) (j : J) → IsJob q j → (t : Turns) × AreTurnsUnder (rules q) q t)
    (once : (q : Request) (i j : J) → IsAsked q → IsJob q i → IsJob q j → i ≡ j) where
  -- ---- a planned job

  -- the verdict is why nothing is laid for the job
  abbrev IsUnlaidSo : List Range → J → Result (LaidJob J) LoaderError → Type 0
  IsUnlaidSo rs j v = (e : LoadError) × (v ≡ Err (Load e)) × IsUnlaid (taken_by (writing j) rs) (run_count (writing j)) e

  -- a stub is laid for the job, and the verdict is that of the table
  abbrev IsLaidSo : List Range → J → Result (LaidJob J) LoaderError → Type 0
  IsLaidSo rs j v = (l : LoaderState) × IsLaidFor rs (writing j) l × AfterLaid (with_loader j l) (entry_count writing (with_loader j l)) v

  -- a planned job is judged by why nothing is laid, or by the table of what is
  laid_so : (rs : List Range) (j : J) (v : Result (LaidJob J) LoaderError) → JudgesLaid writing rs j v → IsUnlaidSo rs j v ⊎ IsLaidSo rs j v
  laid_so rs j (Err (Load load.Memory)) x = absurd x
  laid_so rs j (Err (Load (load.TooManyRuns n))) x = inl (load.TooManyRuns n, refl, x)
  laid_so rs j (Err (Load (load.NoLoader n))) x = inl (load.NoLoader n, refl, x)
  laid_so rs j (Err (Rewrite (rewrite.Emit (emit.TooManySegments n)))) x = inr (x.0, x.1, inr (ap (λ (z : ℕ). Err (Rewrite (rewrite.Emit (emit.TooManySegments z)))) x.3, x.2))
  laid_so rs j (Err (Rewrite other)) x = absurd x
  laid_so rs j (Ok k) x =
      let few : entry_count writing (with_loader j x.0) ≤ 1024 = subst (λ (z : LaidJob J). entry_count writing z ≤ 1024) x.2 x.3 in
      inr (x.0, x.1, inl (ap Ok x.2, few))

  -- a planned job has one verdict at most
  laid_once : (rs : List Range) (j : J) (v w : Result (LaidJob J) LoaderError) → IsUnlaidSo rs j v ⊎ IsLaidSo rs j v → IsUnlaidSo rs j w ⊎ IsLaidSo rs j w
      → v ≡ w
  laid_once rs j v w (inl x) (inl y) =
      let e : x.0 ≡ y.0 = unlaid_once (taken_by (writing j) rs) (run_count (writing j)) x.0 y.0 x.2 y.2 in
      x.1 ∙ ap (λ (z : LoadError). Err (Load z)) e ∙ sym y.1
  laid_once rs j v w (inl x) (inr y) = absurd (no_both (taken_by (writing j) rs) (run_count (writing j)) x.0 y.0 x.2 y.1)
  laid_once rs j v w (inr x) (inl y) = absurd (no_both (taken_by (writing j) rs) (run_count (writing j)) y.0 x.0 y.2 x.1)
  laid_once rs j v w (inr x) (inr y) =
      let p = place_once (taken_by (writing j) rs) (run_count (writing j)) x.0 y.0 x.1 y.1 in
      let same : with_loader j x.0 ≡ with_loader j y.0 = λ i. record { job = j; laid = p i } in
      table_once (with_loader j y.0) (entry_count writing (with_loader j y.0)) v w
      (subst (λ (z : LaidJob J). AfterLaid z (entry_count writing z) v) same x.2) y.2

  -- ---- all of it

  -- the verdict is that of the plan, or that of a planned job
  abbrev InTurn : Asked → Result (LaidJob J) LoaderError → Type 0
  InTurn a v = ((e : RewriteError) × (v ≡ Err (Rewrite e)) × JudgesPlanBy IsJob a (Err e)) ⊎ JudgesPlanned IsJob writing a v

  -- an input is judged by its plan first, and then by what is laid
  in_turn : (a : Asked) (v : Result (LaidJob J) LoaderError) → JudgesLoaderBy IsJob writing a v → InTurn a v
  in_turn a (Err (Rewrite (rewrite.Emit error))) x = inr x
  in_turn a (Err (Rewrite error)) x = inl (error, refl, x)
  in_turn a (Err (Load error)) x = inr x
  in_turn a (Ok k) x = inr x

  -- of two plans of an input the first is the second
  planned : AreJudgedOnce (JudgesPlanBy IsJob)
  planned = plan_once IsJob writing rules turned once

  -- a refused plan and a planned job are two verdicts
  plan_apart : (a : Asked) (error : RewriteError) (j : J) → IsInOrder a → JudgesPlanBy IsJob a (Err error) → JudgesPlanBy IsJob a (Ok j) → ⊥
  plan_apart a error j o x y =
      let e : ◌≡◌ {A = Result J RewriteError} (Err error) (Ok j) = planned a (Err error) (Ok j) o x y in cc

  -- an input that is judged by its plan first and then by what is laid has one verdict at most
  turn_once : (a : Asked) (v w : Result (LaidJob J) LoaderError) → IsInOrder a → InTurn a v → InTurn a w → v ≡ w
  turn_once a v w o (inl x) (inl y) =
      let e : ◌≡◌ {A = Result J RewriteError} (Err x.0) (Err y.0) = planned a (Err x.0) (Err y.0) o x.2 y.2 in
      let k : x.0 ≡ y.0 = cc in x.1 ∙ ap (λ (z : RewriteError). Err (Rewrite z)) k ∙ sym y.1
  turn_once a v w o (inl x) (inr y) = absurd (plan_apart a x.0 y.0 o x.2 y.1)
  turn_once a v w o (inr x) (inl y) = absurd (plan_apart a y.0 x.0 o y.2 x.1)
  turn_once a v w o (inr x) (inr y) =
      let e : ◌≡◌ {A = Result J RewriteError} (Ok x.0) (Ok y.0) = planned a (Ok x.0) (Ok y.0) o x.1 y.1 in
      let k : x.0 ≡ y.0 = cc in
      laid_once a.reserves y.0 v w (subst (λ (j : J). IsUnlaidSo a.reserves j v ⊎ IsLaidSo a.reserves j v) k (laid_so a.reserves x.0 v x.2))
      (laid_so a.reserves y.0 w y.2)

  -- of two verdicts on an input the first is the second
  pub loader_verdict_once : AreJudgedOnce (JudgesLoaderBy IsJob writing)
  loader_verdict_once a v w o x y = turn_once a v w o (in_turn a v x) (in_turn a w y)

-- an input of `rewrite_loader` is judged in one way at most: one job, or one refusal
pub judged_once : AreJudgedOnce Judges
judged_once = loader_verdict_once IsJobFor writing_of (λ q. event_rules q.action) job_turned job_once
