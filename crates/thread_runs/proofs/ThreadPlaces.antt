-- Where a thread stands in a sound image, by its address alone.
use Rattle.std.proofs.Common.{◌≡◌, ◌≢◌, inl, inr, ℕ, zero, suc, ◌+◌, ◌<◌, ◌≤◌, Bool, true, false, not, ◌&&◌, ◌||◌, cond, eqb, leb, ltb, List, [], ◌∷◌, length, Option, Some, None, refl, sym, ap, ap₂, ◌∙◌, arith}
use Rattle.std.proofs.lemmas.List.{length-append}
use Rattle.std.specs.Prelude.{Contains, slice_get}
use Rattle.std.specs.Option.{is_some}
use Rattle.std.specs.List.{list_any}
use Rattle.std.proofs.lemmas.Bool.{cases_Bool, and_parts, and_from, cond-true, cond-false, eqb-true, eq-eqb, ne_eqb, leb-true, ltb-true, le-leb, lt-ltb, false_from_ne_true, true≢false, false≢true}
use Rattle.pun_base.specs.Memory.{Cell}
use Rattle.pun_base.specs.declared.action.Base.{Base}
use Rattle.pun_base.specs.declared.action.Base.TheVariants.{Cover, Count}
use Rattle.pun_base.specs.declared.action.Comparison.{Comparison}
use Rattle.cpu_state.specs.declared.state.Core.{Core}
use Rattle.start_entries.specs.declared.entry.StartEntry.{StartEntry}
use Rattle.start_entries.specs.Standing.{AreEntries}
use Rattle.image_runs.specs.Listed.{is_start}
use Rattle.thread_runs.specs.ThreadCode.{Kind, Marks, Keeps, ring_len, is_saving, event_len, event_if, thread_work, code_if}
use Rattle.thread_runs.specs.Threading.{ThreadSite, Threading, next_of, work_at, is_new, is_site, is_kept, is_keeping, Part, part_from, part_to, is_part, site_if, relocated_at, claims_at, fills_at, claiming_at, is_filling, is_unfilled, in_event, saves, is_code_of, IsThreadSound}
use Rattle.thread_runs.specs.Threading.Part.{Whole, Save, Saved, Marked, Unfilled}
use Rattle.thread_runs.specs.Watching.{is_effect, is_there}
use Rattle.thread_runs.specs.StepLaws.{WorkLong}
use Rattle.thread_runs.specs.Ring.{ringing_at, claimed_at}
use Rattle.thread_runs.specs.Theorem.{when_at, further_at}
use Rattle.thread_runs.proofs.ThreadTrampolines.{event_long}
use Rattle.patch_report.proofs.ListPlaces.{found, any_at, contains_at, place_of, some_is}
use Rattle.sound_images.proofs.RelatedStates.{allowed_some}

-- where a test can pass at one element alone, any says what the test says of that
pub any_only : {X : Type 0} (p : X → Bool) (xs : List X) (s : X) → Contains xs s → ((t : X) → Contains xs t → p t ≡ true → t ≡ s) → list_any p xs ≡ p s
any_only p xs s c h = elim (cases_Bool (p s)) [
  | inl e ↦ (let i = place_of xs s c in any_at p xs i.0 s i.1 e ∙ sym e)
  | inr e ↦ false_from_ne_true (list_any p xs) (λ k. let f = found p xs k in
      let g : f.is ≡ s = h f.is (contains_at xs f.place f.is f.at) f.passes in
      true≢false (sym f.passes ∙ ap p g ∙ e)) ∙ sym e
]

-- where no element passes a test, any says no
pub any_none : {X : Type 0} (p : X → Bool) (xs : List X) → ((t : X) → Contains xs t → p t ≡ true → ⊥) → list_any p xs ≡ false
any_none p xs h = false_from_ne_true (list_any p xs) (λ k. let f = found p xs k in h f.is (contains_at xs f.place f.is f.at) f.passes)

-- where the relocated code of one site alone begins at an address, that site is found for it
pub relocated_here : (x : ℕ) (s : ThreadSite) (ss : List ThreadSite) → ((i : ℕ) (t : ThreadSite) → slice_get ss i ≡ Some t → work_at t ≡ x → t ≡ s)
    → (i : ℕ) → slice_get ss i ≡ Some s → work_at s ≡ x → relocated_at ss x ≡ Some s
relocated_here x s [] h i e f = absurd cc
relocated_here x s (t ∷ ts) h zero e f = ap (λ b. site_if b t (relocated_at ts x)) (eq-eqb (work_at t) x (ap work_at (some_is t s e) ∙ f)) ∙ ap Some (some_is t s e)
relocated_here x s (t ∷ ts) h (suc i) e f = by_test (eqb (work_at t) x) refl (relocated_here x s ts (λ j u k g. h (suc j) u k g) i e f)
  where
    by_test : (b : Bool) → eqb (work_at t) x ≡ b → relocated_at ts x ≡ Some s → site_if b t (relocated_at ts x) ≡ Some s
    by_test true k g = ap Some (h 0 t refl (eqb-true (work_at t) x k))
    by_test false k g = g

-- where one site alone stands at an address, its condition is found there
pub when_here : (x : ℕ) (s : ThreadSite) (ss : List ThreadSite) → ((i : ℕ) (t : ThreadSite) → slice_get ss i ≡ Some t → t.entry.addr ≡ x → t ≡ s)
    → (i : ℕ) → slice_get ss i ≡ Some s → s.entry.addr ≡ x → when_at ss x ≡ s.when
when_here x s [] h i e f = absurd cc
when_here x s (t ∷ ts) h zero e f =
    let same : t ≡ s = some_is t s e in
    cond-true (eqb t.entry.addr x) t.when (when_at ts x) (eq-eqb t.entry.addr x (ap (λ (z : ThreadSite). z.entry.addr) same ∙ f)) ∙ ap (λ (z : ThreadSite). z.when) same
when_here x s (t ∷ ts) h (suc i) e f = by_test (eqb t.entry.addr x) refl (when_here x s ts (λ j u k g. h (suc j) u k g) i e f)
  where
    by_test : (b : Bool) → eqb t.entry.addr x ≡ b → when_at ts x ≡ s.when → cond b t.when (when_at ts x) ≡ s.when
    by_test true k g = ap (λ (z : ThreadSite). z.when) (h 0 t refl (eqb-true t.entry.addr x k))
    by_test false k g = g

-- and so is how many instructions its event has more
pub further_here : (x : ℕ) (s : ThreadSite) (ss : List ThreadSite) → ((i : ℕ) (t : ThreadSite) → slice_get ss i ≡ Some t → t.entry.addr ≡ x → t ≡ s)
    → (i : ℕ) → slice_get ss i ≡ Some s → s.entry.addr ≡ x → further_at ss x ≡ cond (is_keeping s.event) 5 0
further_here x s [] h i e f = absurd cc
further_here x s (t ∷ ts) h zero e f =
    let same : t ≡ s = some_is t s e in
    cond-true (eqb t.entry.addr x) (cond (is_keeping t.event) 5 0) (further_at ts x) (eq-eqb t.entry.addr x (ap (λ (z : ThreadSite). z.entry.addr) same ∙ f))
    ∙ ap (λ (z : ThreadSite). cond (is_keeping z.event) 5 0) same
further_here x s (t ∷ ts) h (suc i) e f = by_test (eqb t.entry.addr x) refl (further_here x s ts (λ j u k g. h (suc j) u k g) i e f)
  where
    by_test : (b : Bool) → eqb t.entry.addr x ≡ b → further_at ts x ≡ cond (is_keeping s.event) 5 0 → cond b (cond (is_keeping t.event) 5 0) (further_at ts x) ≡ cond (is_keeping s.event) 5 0
    by_test true k g = ap (λ (z : ThreadSite). cond (is_keeping z.event) 5 0) (h 0 t refl (eqb-true t.entry.addr x k))
    by_test false k g = g

-- where one site alone passes a test, the first site found by it is that one
pub first_site : (p : ThreadSite → Bool) (found : List ThreadSite → Option ThreadSite) → found [] ≡ None → ((t : ThreadSite) (ts : List ThreadSite) → found (t ∷ ts) ≡ site_if (p t) t (found ts))
    → (s : ThreadSite) (ss : List ThreadSite) → ((i : ℕ) (t : ThreadSite) → slice_get ss i ≡ Some t → p t ≡ true → t ≡ s) → (i : ℕ) → slice_get ss i ≡ Some s → p s ≡ true → found ss ≡ Some s
first_site p found none next s [] h i e f = absurd cc
first_site p found none next s (t ∷ ts) h zero e f = next t ts ∙ ap (λ b. site_if b t (found ts)) (ap p (some_is t s e) ∙ f) ∙ ap Some (some_is t s e)
first_site p found none next s (t ∷ ts) h (suc i) e f = next t ts ∙ by_test (p t) refl (first_site p found none next s ts (λ j u k g. h (suc j) u k g) i e f)
  where
    by_test : (b : Bool) → p t ≡ b → found ts ≡ Some s → site_if b t (found ts) ≡ Some s
    by_test true k g = ap Some (h 0 t refl k)
    by_test false k g = g

-- where no site passes it, none is found
pub no_first : (p : ThreadSite → Bool) (found : List ThreadSite → Option ThreadSite) → found [] ≡ None → ((t : ThreadSite) (ts : List ThreadSite) → found (t ∷ ts) ≡ site_if (p t) t (found ts))
    → (ss : List ThreadSite) → ((i : ℕ) (t : ThreadSite) → slice_get ss i ≡ Some t → p t ≡ false) → found ss ≡ None
no_first p found none next [] h = none
no_first p found none next (t ∷ ts) h = next t ts ∙ ap (λ b. site_if b t (found ts)) (h 0 t refl) ∙ no_first p found none next ts (λ j u k. h (suc j) u k)

-- the number of the one site that passes a test
pub first_number : (p : ThreadSite → Bool) (found : List ThreadSite → List ℕ) → found [] ≡ [] → ((t : ThreadSite) (ts : List ThreadSite) → found (t ∷ ts) ≡ cond (p t) (t.number ∷ []) (found ts))
    → (s : ThreadSite) (ss : List ThreadSite) → ((i : ℕ) (t : ThreadSite) → slice_get ss i ≡ Some t → p t ≡ true → t ≡ s) → (i : ℕ) → slice_get ss i ≡ Some s → p s ≡ true → found ss ≡ s.number ∷ []
first_number p found none next s [] h i e f = absurd cc
first_number p found none next s (t ∷ ts) h zero e f = next t ts ∙ cond-true (p t) _ _ (ap p (some_is t s e) ∙ f) ∙ ap (λ (z : ThreadSite). z.number ∷ []) (some_is t s e)
first_number p found none next s (t ∷ ts) h (suc i) e f = next t ts ∙ by_test (p t) refl (first_number p found none next s ts (λ j u k g. h (suc j) u k g) i e f)
  where
    by_test : (b : Bool) → p t ≡ b → found ts ≡ s.number ∷ [] → cond b (t.number ∷ []) (found ts) ≡ s.number ∷ []
    by_test true k g = ap (λ (z : ThreadSite). z.number ∷ []) (h 0 t refl k)
    by_test false k g = g

-- where none passes, there is no number
pub no_number : (p : ThreadSite → Bool) (found : List ThreadSite → List ℕ) → found [] ≡ [] → ((t : ThreadSite) (ts : List ThreadSite) → found (t ∷ ts) ≡ cond (p t) (t.number ∷ []) (found ts))
    → (ss : List ThreadSite) → ((i : ℕ) (t : ThreadSite) → slice_get ss i ≡ Some t → p t ≡ false) → found ss ≡ []
no_number p found none next [] h = none
no_number p found none next (t ∷ ts) h = next t ts ∙ cond-false (p t) _ _ (h 0 t refl) ∙ no_number p found none next ts (λ j u k. h (suc j) u k)

-- where no site's relocated code begins at an address, no site is found for it
pub relocated_none : (x : ℕ) (ss : List ThreadSite) → ((i : ℕ) (t : ThreadSite) → slice_get ss i ≡ Some t → work_at t ≡ x → ⊥) → relocated_at ss x ≡ None
relocated_none x [] h = refl
relocated_none x (t ∷ ts) h = ap (λ b. site_if b t (relocated_at ts x)) (ne_eqb (work_at t) x (h 0 t refl)) ∙ relocated_none x ts (λ j u k g. h (suc j) u k g)

-- an address from the first byte of a part of a site's event on, and below its end, is in that part
pub part_true : (p : Part) (x : ℕ) (s : ThreadSite) → s.place + part_from p s.event s.when ≤ x → x < s.place + part_to p s.event s.when → is_part p x s ≡ true
part_true p x s a b = and_from (leb (s.place + part_from p s.event s.when) x) (ltb x (s.place + part_to p s.event s.when)) (le-leb (s.place + part_from p s.event s.when) x a) (lt-ltb x (s.place + part_to p s.event s.when) b)

-- an address in a part of an event lies from the part's first byte on and below its end
pub part_is : (p : Part) (x : ℕ) (s : ThreadSite) → is_part p x s ≡ true → (s.place + part_from p s.event s.when ≤ x) × (x < s.place + part_to p s.event s.when)
part_is p x s h =
    let q = and_parts (leb (s.place + part_from p s.event s.when) x) (ltb x (s.place + part_to p s.event s.when)) h in
    (leb-true (s.place + part_from p s.event s.when) x q.0, ltb-true x (s.place + part_to p s.event s.when) q.1)

-- an address below a part isn't in it
pub part_low : (p : Part) (x : ℕ) (s : ThreadSite) → x < s.place + part_from p s.event s.when → is_part p x s ≡ false
part_low p x s h = false_from_ne_true (is_part p x s) (λ k. let q = part_is p x s k in omega (arith, q.0, h))

-- an address after a part isn't in it
pub part_high : (p : Part) (x : ℕ) (s : ThreadSite) → s.place + part_to p s.event s.when ≤ x → is_part p x s ≡ false
part_high p x s h = false_from_ne_true (is_part p x s) (λ k. let q = part_is p x s k in omega (arith, q.1, h))

-- no part goes beyond the first byte after the event
pub part_small : (p : Part) (e : Option Kind) (cs : List Comparison) → part_to p e cs ≤ event_len e cs + 1
part_small Whole e cs = omega arith
part_small Save None cs = omega arith
part_small Save (Some (Keeps n)) cs = omega arith
part_small Save (Some (Marks d)) cs = by_test (is_saving (Some (Marks d)) cs)
  where
    by_test : (b : Bool) → cond b 1 0 ≤ event_len (Some (Marks d)) cs + 1
    by_test true = omega arith
    by_test false = omega arith
part_small Saved e cs = by_test (is_saving e cs)
  where
    by_test : (b : Bool) → cond b (event_len e cs) 0 ≤ event_len e cs + 1
    by_test true = omega arith
    by_test false = omega arith
part_small Marked (Some k) cs = omega arith
part_small Marked None cs = omega arith
part_small Unfilled (Some (Keeps n)) cs = omega arith
part_small Unfilled (Some (Marks b)) cs = omega arith
part_small Unfilled None cs = omega arith

-- the instruction that saves rax is one of the event's
pub save_small : (e : Option Kind) (cs : List Comparison) → part_to Save e cs ≤ event_len e cs
save_small (Some (Marks Cover)) [] = omega arith
save_small (Some (Marks Cover)) (c ∷ cs) = omega arith
save_small (Some (Marks Count)) cs = omega arith
save_small (Some (Keeps n)) cs = omega arith
save_small None cs = omega arith

-- an event marks before the relocated code
pub mark_from : (e : Option Kind) (cs : List Comparison) → part_from Marked e cs ≤ event_len e cs
mark_from (Some (Marks Cover)) [] = omega arith
mark_from (Some (Marks Cover)) (c ∷ cs) = omega arith
mark_from (Some (Marks Count)) cs = omega arith
mark_from (Some (Keeps n)) cs = omega arith
mark_from None cs = omega arith

-- it doesn't mark before its first instruction
pub mark_late : (e : Option Kind) (cs : List Comparison) → 0 < part_to Marked e cs → 0 < part_from Marked e cs
mark_late (Some (Marks Cover)) [] h = omega arith
mark_late (Some (Marks Cover)) (c ∷ cs) h = omega arith
mark_late (Some (Marks Count)) cs h = omega arith
mark_late (Some (Keeps n)) cs h = omega arith
mark_late None cs h = absurd (omega (arith, h))

-- what is after the mark ends with the first byte of the relocated code
pub mark_end : (e : Option Kind) (cs : List Comparison) → 0 < part_to Marked e cs → part_to Marked e cs ≡ event_len e cs + 1
mark_end (Some k) cs h = refl
mark_end None cs h = absurd (omega (arith, h))

-- each event marks
pub mark_some : (e : Option Kind) (cs : List Comparison) (k : Kind) → e ≡ Some k → 0 < part_to Marked e cs
mark_some (Some d) cs k h = omega arith
mark_some None cs k h = absurd cc

-- an address from the relocated code on is in no part of the event that ends with it
pub part_past : (p : Part) (x : ℕ) (s : ThreadSite) → part_to p s.event s.when ≤ event_len s.event s.when → work_at s ≤ x → is_part p x s ≡ false
part_past p x s b h = part_high p x s (omega (arith, b, h))

-- a byte that is held before is not new
new_parts : (o q : Option Cell) → is_some q ≡ true → (is_some o && not (is_some q)) ≡ false
new_parts o None e = absurd (false≢true e)
new_parts None (Some d) e = refl
new_parts (Some c) (Some d) e = refl

module _ (r : Threading) (A : AreEntries r.original r.listed) (S : IsThreadSound r) (W : WorkLong) where
  -- a site's trampoline has more than the event
  pub longer : (s : ThreadSite) (h : Contains r.sites s) → event_len s.event s.when < length (code_if s.event s.when r.private s.number (S.sites s h).fields (next_of s) s.place)
  longer s h =
      let k = S.sites s h in
      omega (
        arith,
        length-append (event_if s.event s.when r.private s.number) (thread_work k.fields (next_of s) (work_at s)),
        event_long s.event s.when r.private s.number,
        W k.fields (next_of s) (work_at s) k.size s.entry.len s.entry.addr k.spelled k.len k.displaced,
      )

  -- each address of a site's event is one of its code, and so is the next one
  pub in_code : (s : ThreadSite) (h : Contains r.sites s) (x : ℕ) → s.place ≤ x → x < s.place + (event_len s.event s.when + 1) → is_code_of r s (S.sites s h) x
  in_code s h x a b = (a, omega (arith, b, longer s h))

  -- so is each address of a part of the event
  pub part_in : (p : Part) (s : ThreadSite) (h : Contains r.sites s) (x : ℕ) → is_part p x s ≡ true → is_code_of r s (S.sites s h) x
  part_in p s h x e = let q = part_is p x s e in in_code s h x (omega (arith, q.0)) (omega (arith, q.1, part_small p s.event s.when))

  -- the first address of a site's trampoline is one of its code
  pub place_in : (s : ThreadSite) (h : Contains r.sites s) (x : ℕ) → x ≡ s.place → is_code_of r s (S.sites s h) x
  place_in s h x e = (omega (arith, e), omega (arith, e, longer s h))

  -- the first address of a site's relocated code is one of its code
  pub work_in : (s : ThreadSite) (h : Contains r.sites s) (x : ℕ) → x ≡ work_at s → is_code_of r s (S.sites s h) x
  work_in s h x e = (omega (arith, e), omega (arith, e, longer s h))

  -- each address of a site's code is new
  pub code_new : (s : ThreadSite) (h : Contains r.sites s) (x : ℕ) → is_code_of r s (S.sites s h) x → is_new r x ≡ true
  code_new s h x c = (S.sites s h).new x c.0 c.1

  -- no listed start is new
  pub start_old : (x : ℕ) → is_start r.listed x ≡ true → is_new r x ≡ false
  start_old x h =
      let f = found (λ (e : StartEntry). eqb e.addr x) r.listed h in
      let i = A.each f.is (contains_at r.listed f.place f.is f.at) in
      let e : f.is.addr ≡ x = eqb-true f.is.addr x f.passes in
      new_parts (r.patched x) (r.original x) (allowed_some 1 (r.original x) (i.executed x (omega (arith, e)) (omega (arith, e, i.some))).0)

  -- no address of a site's code is a listed start
  pub code_unlisted : (s : ThreadSite) (h : Contains r.sites s) (x : ℕ) → is_code_of r s (S.sites s h) x → is_start r.listed x ≡ false
  code_unlisted s h x c = false_from_ne_true (is_start r.listed x) (λ k. true≢false (sym (code_new s h x c) ∙ start_old x k))

  -- in the code of a site tests by address speak of this site alone
  pub part_only : (s : ThreadSite) (h : Contains r.sites s) (x : ℕ) (p : Part) → is_code_of r s (S.sites s h) x → list_any (is_part p x) r.sites ≡ is_part p x s
  part_only s h x p c = any_only (is_part p x) r.sites s h (λ t k e. S.apart t s k h x (part_in p t k x e) c)

  -- each address of a site's event is one of its code
  pub event_code : (s : ThreadSite) (h : Contains r.sites s) (x : ℕ) → s.place ≤ x → x < work_at s → is_code_of r s (S.sites s h) x
  event_code s h x a b = in_code s h x a (omega (arith, b))

  -- a thread there is in an event
  pub event_inside : (s : ThreadSite) (h : Contains r.sites s) (x : ℕ) → s.place ≤ x → x < work_at s → in_event r x ≡ true
  event_inside s h x a b = part_only s h x Whole (event_code s h x a b) ∙ part_true Whole x s (omega (arith, a)) (omega (arith, b))

  -- which saves there exactly where the site's does
  pub event_saves : (s : ThreadSite) (h : Contains r.sites s) (x : ℕ) → s.place ≤ x → x < work_at s → saves r x ≡ is_part Save x s
  event_saves s h x a b = part_only s h x Save (event_code s h x a b)

  -- an address that isn't new is in no part of an event
  pub part_never : (x : ℕ) (p : Part) → is_new r x ≡ false → list_any (is_part p x) r.sites ≡ false
  part_never x p n = any_none (is_part p x) r.sites (λ t k e. true≢false (sym (code_new t k x (part_in p t k x e)) ∙ n))

  -- at an address that isn't new no site is counted
  pub old_uncounted : (x : ℕ) (s : ThreadSite) → Contains r.sites s → is_new r x ≡ false → is_part Marked x s ≡ false
  old_uncounted x s h n = false_from_ne_true (is_part Marked x s) (λ e. true≢false (sym (code_new s h x (part_in Marked s h x e)) ∙ n))

  -- no address of a site's code is a kept start
  pub kept_not : (s : ThreadSite) (h : Contains r.sites s) (x : ℕ) → is_code_of r s (S.sites s h) x → is_kept r x ≡ false
  kept_not s h x c = ap (λ b. b && not (is_site r x)) (code_unlisted s h x c)

  -- after a site's event that site's relocated code is found
  pub site_here : (s : ThreadSite) (h : Contains r.sites s) → relocated_at r.sites (work_at s) ≡ Some s
  site_here s h =
      let i = place_of r.sites s h in
      relocated_here (work_at s) s r.sites (λ j t k e. S.apart t s (contains_at r.sites j t k) h (work_at s)
      (work_in t (contains_at r.sites j t k) (work_at s) (sym e)) (work_in s h (work_at s) refl)) i.0 i.1 refl

  -- elsewhere in a site's code no relocated code begins
  pub no_site : (s : ThreadSite) (h : Contains r.sites s) (x : ℕ) → is_code_of r s (S.sites s h) x → x ≢ work_at s → relocated_at r.sites x ≡ None
  no_site s h x c n = relocated_none x r.sites (λ j t k e.
      let g : t ≡ s = S.apart t s (contains_at r.sites j t k) h x (work_in t (contains_at r.sites j t k) x (sym e)) c in
      n (sym e ∙ ap work_at g))

  -- at an address that isn't new no relocated code begins
  pub start_no_site : (x : ℕ) → is_new r x ≡ false → relocated_at r.sites x ≡ None
  start_no_site x n = relocated_none x r.sites (λ j t k e.
      true≢false (sym (code_new t (contains_at r.sites j t k) x (work_in t (contains_at r.sites j t k) x (sym e))) ∙ n))

  -- a displaced start is the address of a site's entry
  pub site_of : (x : ℕ) → is_site r x ≡ true → (s : ThreadSite) × Contains r.sites s × (s.entry.addr ≡ x)
  site_of x h = let f = found (λ (s : ThreadSite). eqb s.entry.addr x) r.sites h in
      (f.is, contains_at r.sites f.place f.is f.at, eqb-true f.is.entry.addr x f.passes)

  -- a step at a kept start is an effect step
  pub effect_kept : (x : ℕ) → is_kept r x ≡ true → is_effect r x ≡ true
  effect_kept x h = ap (λ b. b || is_there (relocated_at r.sites x)) h

  -- a step at no kept start, where no relocated code begins, is none
  pub effect_never : (x : ℕ) → is_kept r x ≡ false → relocated_at r.sites x ≡ None → is_effect r x ≡ false
  effect_never x h e = ap₂ (λ b o. b || is_there o) h e

  -- a step where relocated code begins is an effect step
  pub effect_there : (x : ℕ) (s : ThreadSite) → is_kept r x ≡ false → relocated_at r.sites x ≡ Some s → is_effect r x ≡ true
  effect_there x s h e = ap₂ (λ b o. b || is_there o) h e

  -- an address in a ring's event is in the code of its site
  pub ring_in : (s : ThreadSite) (h : Contains r.sites s) (n x : ℕ) → s.event ≡ Some (Keeps n) → s.place ≤ x → x ≤ s.place + ring_len → is_code_of r s (S.sites s h) x
  ring_in s h n x e a b = let len : event_len s.event s.when ≡ ring_len = ap (λ o. event_len o s.when) e in in_code s h x a (omega (arith, b, len))

  -- so the site is the one at whose code the address is
  pub ring_site : (s t : ThreadSite) (h : Contains r.sites s) (k : Contains r.sites t) (n x : ℕ) → t.event ≡ Some (Keeps n) → t.place ≤ x → x ≤ t.place + ring_len → is_code_of r s (S.sites s h) x → t ≡ s
  ring_site s t h k n x e a b c = S.apart t s k h x (ring_in t k n x e a b) c

  -- an event that keeps a ring says so
  pub keeping_is : (o : Option Kind) → is_keeping o ≡ true → (n : ℕ) × (o ≡ Some (Keeps n))
  keeping_is None e = absurd (false≢true e)
  keeping_is (Some (Marks b)) e = absurd (false≢true e)
  keeping_is (Some (Keeps n)) e = (n, refl)

  -- a site at whose LOCK XADD, or at whose fill, the address is has it in its code
  pub claims_in : (s : ThreadSite) (h : Contains r.sites s) (x : ℕ) → claims_at x s ≡ true → is_code_of r s (S.sites s h) x
  claims_in s h x e =
      let q = and_parts (is_keeping s.event) (eqb (s.place + 25) x) e in
      let k = keeping_is s.event q.0 in
      let z = eqb-true (s.place + 25) x q.1 in
      ring_in s h k.0 x k.1 (omega (arith, z)) (omega (arith, z))

  -- where the slot is filled, too
  pub fills_in : (s : ThreadSite) (h : Contains r.sites s) (x : ℕ) → fills_at x s ≡ true → is_code_of r s (S.sites s h) x
  fills_in s h x e =
      let q = and_parts (is_keeping s.event) (eqb (s.place + 37) x) e in
      let k = keeping_is s.event q.0 in
      let z = eqb-true (s.place + 37) x q.1 in
      ring_in s h k.0 x k.1 (omega (arith, z)) (omega (arith, z))

  -- in the code of a site no other claims
  pub claiming_only : (s : ThreadSite) (h : Contains r.sites s) (x : ℕ) → is_code_of r s (S.sites s h) x → claims_at x s ≡ false → claiming_at r.sites x ≡ None
  claiming_only s h x c e = no_first (claims_at x) (λ ss. claiming_at ss x) refl (λ t ts. refl) r.sites (λ i t g. false_from_ne_true (claims_at x t) (λ k.
      let m = contains_at r.sites i t g in
      true≢false (sym k ∙ ap (claims_at x) (S.apart t s m h x (claims_in t m x k) c) ∙ e)))

  -- nor fills
  pub filling_only : (s : ThreadSite) (h : Contains r.sites s) (x : ℕ) → is_code_of r s (S.sites s h) x → is_filling r x ≡ fills_at x s
  filling_only s h x c = any_only (fills_at x) r.sites s h (λ t k e. S.apart t s k h x (fills_in t k x e) c)

  -- a site that claims at an address is found there
  pub claiming_here : (s : ThreadSite) (h : Contains r.sites s) (x : ℕ) → claims_at x s ≡ true → claiming_at r.sites x ≡ Some s
  claiming_here s h x e =
      let i = place_of r.sites s h in
      first_site (claims_at x) (λ ss. claiming_at ss x) refl (λ t ts. refl) s r.sites (λ j t g k. S.apart t s (contains_at r.sites j t g) h x (claims_in t (contains_at r.sites j t g) x k) (claims_in s h x e)) i.0 i.1 e

  -- the thread's claim, where it is still to come to its effect step, by the one site in whose code it is
  pub claimed_here : (s : ThreadSite) (h : Contains r.sites s) (x : ℕ) → is_code_of r s (S.sites s h) x → claimed_at r.sites x ≡ cond (is_keeping s.event && is_part Marked x s) (s.number ∷ []) []
  claimed_here s h x c = by_test (is_keeping s.event && is_part Marked x s) refl
    where
      test : ThreadSite → Bool
      test t = is_keeping t.event && is_part Marked x t

      same : (t : ThreadSite) → Contains r.sites t → test t ≡ true → t ≡ s
      same t k e = S.apart t s k h x (part_in Marked t k x (and_parts (is_keeping t.event) (is_part Marked x t) e).1) c

      by_test : (b : Bool) → test s ≡ b → claimed_at r.sites x ≡ cond b (s.number ∷ []) []
      by_test true e = let i = place_of r.sites s h in
          first_number test (λ ss. claimed_at ss x) refl (λ t ts. refl) s r.sites (λ j t g k. same t (contains_at r.sites j t g) k) i.0 i.1 e
      by_test false e = no_number test (λ ss. claimed_at ss x) refl (λ t ts. refl) r.sites (λ j t g. false_from_ne_true (test t) (λ k.
          true≢false (sym k ∙ ap test (same t (contains_at r.sites j t g) k) ∙ e)))

  -- at an address that isn't new nothing is claimed
  pub old_unclaimed : (x : ℕ) → is_new r x ≡ false → claimed_at r.sites x ≡ []
  old_unclaimed x n = no_number (λ t. is_keeping t.event && is_part Marked x t) (λ ss. claimed_at ss x) refl (λ t ts. refl) r.sites (λ j t g. false_from_ne_true (is_keeping t.event && is_part Marked x t) (λ k.
      true≢false (sym (and_parts (is_keeping t.event) (is_part Marked x t) k).1 ∙ old_uncounted x t (contains_at r.sites j t g) n)))

  -- nor is a slot claimed there
  pub old_unclaiming : (x : ℕ) → is_new r x ≡ false → claiming_at r.sites x ≡ None
  old_unclaiming x n = no_first (claims_at x) (λ ss. claiming_at ss x) refl (λ t ts. refl) r.sites (λ i t g. false_from_ne_true (claims_at x t) (λ k.
      let m = contains_at r.sites i t g in true≢false (sym (code_new t m x (claims_in t m x k)) ∙ n)))

  -- nor filled
  pub old_unfilling : (x : ℕ) → is_new r x ≡ false → is_filling r x ≡ false
  old_unfilling x n = any_none (fills_at x) r.sites (λ t k e. true≢false (sym (code_new t k x (fills_in t k x e)) ∙ n))

  -- the number of the site at its address
  pub ringing_here : (s : ThreadSite) (h : Contains r.sites s) (x : ℕ) → s.entry.addr ≡ x → ringing_at r.sites x ≡ cond (is_keeping s.event) (s.number ∷ []) []
  ringing_here s h x e = by_test (is_keeping s.event) refl
    where
      test : ThreadSite → Bool
      test t = is_keeping t.event && eqb t.entry.addr x

      same : (t : ThreadSite) → Contains r.sites t → test t ≡ true → t ≡ s
      same t k g = S.once t s k h (eqb-true t.entry.addr x (and_parts (is_keeping t.event) (eqb t.entry.addr x) g).1 ∙ sym e)

      by_test : (b : Bool) → is_keeping s.event ≡ b → ringing_at r.sites x ≡ cond b (s.number ∷ []) []
      by_test true k = let i = place_of r.sites s h in
          first_number test (λ ss. ringing_at ss x) refl (λ t ts. refl) s r.sites (λ j t g m. same t (contains_at r.sites j t g) m) i.0 i.1 (and_from (is_keeping s.event) (eqb s.entry.addr x) k (eq-eqb s.entry.addr x e))
      by_test false k = no_number test (λ ss. ringing_at ss x) refl (λ t ts. refl) r.sites (λ j t g. false_from_ne_true (test t) (λ m.
          true≢false (sym (and_parts (is_keeping t.event) (eqb t.entry.addr x) m).0 ∙ ap (λ (z : ThreadSite). is_keeping z.event) (same t (contains_at r.sites j t g) m) ∙ k)))

  -- at an address of no site there is none
  pub ringing_none : (x : ℕ) → is_site r x ≡ false → ringing_at r.sites x ≡ []
  ringing_none x n = no_number (λ t. is_keeping t.event && eqb t.entry.addr x) (λ ss. ringing_at ss x) refl (λ t ts. refl) r.sites (λ j t g. false_from_ne_true (is_keeping t.event && eqb t.entry.addr x) (λ m.
      true≢false (sym (any_at (λ (z : ThreadSite). eqb z.entry.addr x) r.sites j t g (and_parts (is_keeping t.event) (eqb t.entry.addr x) m).1) ∙ n)))

  -- from its relocated code on a site's code neither claims nor fills, and no thread is between a claim and its fill there
  pub behind_event : (s : ThreadSite) (h : Contains r.sites s) (x : ℕ) → is_code_of r s (S.sites s h) x → work_at s ≤ x → (is_unfilled r x ≡ false) × (claiming_at r.sites x ≡ None) × (is_filling r x ≡ false)
  behind_event s h x c l = (
    part_only s h x Unfilled c ∙ part_past Unfilled x s (small s.event s.when) l,
    claiming_only s h x c (false_from_ne_true (claims_at x s) (λ e. never (s.place + 25) (and_parts (is_keeping s.event) (eqb (s.place + 25) x) e) (omega arith))),
    filling_only s h x c ∙ false_from_ne_true (fills_at x s) (λ e. never (s.place + 37) (and_parts (is_keeping s.event) (eqb (s.place + 37) x) e) (omega arith)),
  )
    where
      small : (e : Option Kind) (cs : List Comparison) → part_to Unfilled e cs ≤ event_len e cs
      small (Some (Keeps n)) cs = omega arith
      small (Some (Marks b)) cs = omega arith
      small None cs = omega arith

      never : (y : ℕ) → (is_keeping s.event ≡ true) × (eqb y x ≡ true) → y < s.place + ring_len → ⊥
      never y q b =
          let k = keeping_is s.event q.0 in
          let z = eqb-true y x q.1 in
          let len : event_len s.event s.when ≡ ring_len = ap (λ o. event_len o s.when) k.1 in
          omega (arith, z, len, l, b)
