-- Locked bytes stay, and lie at or above the last turn's site, by plans of all five schemes.
use Rattle.std.proofs.Common.{◌≡◌, ◌⊎◌, inl, inr, ℕ, ◌+◌, ◌<◌, ◌≤◌, min, Bool, true, false, not, cond, List, [], ◌∷◌, length, Option, Some, None, refl, ap, ◌∙◌, arith}
use Rattle.std.specs.Option.{is_some, option_or}
use Rattle.std.specs.List.{AllByRecursion}
use Rattle.std.proofs.lemmas.Bool.{or_cases, and_parts, false_from_ne_true, false≢true}
use Rattle.pun_base.specs.Ranges.{is_within}
use Rattle.pun_base.specs.declared.scheme.Scheme.{Scheme}
use Rattle.pun_base.specs.declared.outcome.Plan.{Plan}
use Rattle.byte_locks.specs.declared.lock.Lock.{Lock}
use Rattle.byte_locks.specs.declared.lock.Lock.TheVariants.{Free, Punned, Changed}
use Rattle.start_entries.specs.declared.entry.StartEntry.{StartEntry}
use Rattle.std.specs.Prelude.{Contains}
use Rattle.start_entries.specs.Standing.{AreEntries}
use Rattle.site_turns.proofs.PlansWithOneJump.{entry_listed}
use Rattle.start_list.proofs.UntouchedEntries.{ends_below}
use Rattle.elf_emit.proofs.StayingSegments.{all_map}
use Rattle.start_list.specs.TurnViews.{TurnView}
use Rattle.start_list.specs.PlanJumps.{Jump, written, is_written, is_spanned, is_punned}
use Rattle.start_list.specs.Forms.{Candidate, B1, B2, T1, T2, T3, MayBeSite, HasForm, jumps_of}
use Rattle.start_list.specs.Admissible.{IsAdmissible}
use Rattle.scheme_search.proofs.OneJumpBytes.{within_parts}
use Rattle.site_turns.specs.States.{Scene, State, first_state, view_at, relocked, lock_after}
use Rattle.site_turns.specs.Choices.{Choice, Apply, Left, FirstOf, after, IsTurns, state_after}
use Rattle.site_turns.specs.Folded.{is_locked}
use Rattle.site_turns.specs.Laws.{AreSites, LocksStay, LocksAreAbove, NextIsFree}
use Rattle.site_turns.proofs.KeptLocks.{kept_lock, kept_value, free_unlocked}

-- the plan of the first scheme that has one is admissible
pub admissible : (v : TurnView) (site : StartEntry) (ss : List Scheme) (c : Candidate) (plan : Plan) → FirstOf v site ss c plan → IsAdmissible v site c
admissible v site [] c plan f = absurd f
admissible v site (s ∷ ss) c plan (inl f) = f.0.admissible
admissible v site (s ∷ ss) c plan (inr f) = admissible v site ss c plan f.1

-- a byte that is locked after a plan was locked before, or is written or punned
pub lock_cases : (o : Option ℕ) (b : Bool) (k : Lock) → is_locked (relocked o b k) ≡ true → (is_some o ≡ true) ⊎ (b ≡ true) ⊎ (is_locked k ≡ true)
lock_cases (Some v) b k h = inl refl
lock_cases None true k h = inr (inl refl)
lock_cases None false k h = inr (inr h)

-- where all jumps begin at an address or above it, so does what they lie on
abbrev pub BeginAt : ℕ → List Jump → Type 0
BeginAt lo js = AllByRecursion (λ (j : Jump). lo ≤ j.at) js

-- where all jumps begin at an address or above it, each byte that they span lies there or above
pub spanned_above : (lo : ℕ) (js : List Jump) (x : ℕ) → BeginAt lo js → is_spanned js x ≡ true → lo ≤ x
spanned_above lo [] x b h = absurd (false≢true h)
spanned_above lo (j ∷ js) x b h = elim (or_cases (is_within j.at (length j.bytes) x) (is_spanned js x) h) [
  | inl i ↦ (let k = within_parts j.at (length j.bytes) x i in let l = b.0 in omega (arith, l, k.0))
  | inr i ↦ spanned_above lo js x b.1 i
]

-- where all jumps begin at an address or above it, each byte that they write lies there or above
pub written_above : (lo : ℕ) (js : List Jump) (x : ℕ) → BeginAt lo js → is_written js x ≡ true → lo ≤ x
written_above lo [] x b h = absurd (false≢true h)
written_above lo (j ∷ js) x b h =
    by_test (is_within j.at (min j.room (length j.bytes)) x) refl _ h (λ k. written_above lo js x b.1 k)
  where
    by_test : (i : Bool) → is_within j.at (min j.room (length j.bytes)) x ≡ i → (v : ℕ)
        → is_some (option_or (cond i (Some v) None) (written js x)) ≡ true → (is_written js x ≡ true → lo ≤ x) → lo ≤ x
    by_test true e v k go = let q = within_parts j.at (min j.room (length j.bytes)) x e in let l = b.0 in omega (arith, l, q.0)
    by_test false e v k go = go k

-- all jumps of a plan begin at the site or above it
pub begin_at : (v : TurnView) (site : StartEntry) (c : Candidate) → HasForm v site c → BeginAt site.addr (jumps_of site c)
begin_at v site (B1 t) h = (omega arith, tt)
begin_at v site (B2 t) h = (omega arith, tt)
begin_at v site (T1 p t) h = (omega arith, tt)
begin_at v site (T2 e p q pad x t u) h = let b = h.behind in (omega arith, (omega (arith, b), tt))
begin_at v site (T3 e i x t u) h = let b = h.above in (omega arith, (omega (arith, b), (omega (arith, b), tt)))

-- jumps that begin at or above an address begin at or above each lower one
begin_lower : (lo hi : ℕ) (js : List Jump) → lo ≤ hi → BeginAt hi js → BeginAt lo js
begin_lower lo hi [] l b = tt
begin_lower lo hi (j ∷ js) l b = (let k = b.0 in omega (arith, l, k), begin_lower lo hi js l b.1)

-- all locked bytes lie at an address or above it
abbrev pub IsAbove : ℕ → State → Type 0
IsAbove lo t = (x : ℕ) → is_locked (t.lock x) ≡ true → lo ≤ x

-- where all locked bytes lie at an address or above it, they do after jumps that begin there or above
pub above_plan : (lo : ℕ) (lock : ℕ → Lock) (js : List Jump) → BeginAt lo js → ((x : ℕ) → is_locked (lock x) ≡ true → lo ≤ x)
    → (x : ℕ) → is_locked (lock_after lock js x) ≡ true → lo ≤ x
above_plan lo lock js b a x h = elim (lock_cases (written js x) (is_punned js x) (lock x) h) [
  | inl w ↦ written_above lo js x b w
  | inr (inl p) ↦ spanned_above lo js x b (and_parts (is_spanned js x) (not (is_written js x)) p).0
  | inr (inr k) ↦ a x k
]

-- only sites that may be patched lock bytes
above_from : (g : Scene) (ss : List Scheme) (t : State) (es : List StartEntry) (xs : List Choice) (lo : ℕ) → IsTurns g ss t es xs
    → AllByRecursion (λ (e : StartEntry). MayBeSite e → lo ≤ e.addr) es → IsAbove lo t → IsAbove lo (state_after g t es xs)
above_from g ss t [] xs lo h l a = a
above_from g ss t (e ∷ es) [] lo h l a = absurd h
above_from g ss t (e ∷ es) (Apply c plan ∷ xs) lo h l a =
    let q = admissible (view_at g t) e ss c plan h.0.1 in
    let b = begin_lower lo e.addr (jumps_of e c) (l.0 q.site_may) (begin_at (view_at g t) e c q.allowed.form) in
    above_from g ss (after g t e (length es) (Apply c plan)) es xs lo h.1 l.1 (above_plan lo t.lock (jumps_of e c) b a)
above_from g ss t (e ∷ es) (Left why ∷ xs) lo h l a = above_from g ss (after g t e (length es) (Left why)) es xs lo h.1 l.1 a

-- before the first turn no byte below an address is locked, since none is
none_first : (g : Scene) (lo : ℕ) → IsAbove lo (first_state g)
none_first g lo x k = absurd (false≢true k)

-- after the turns of sites from an address on, all locked bytes lie at that address or above it
pub locks_are_above : LocksAreAbove
locks_are_above g ss es xs lo h l = above_from g ss (first_state g) es xs lo h
    (all_map (λ (e : StartEntry). lo ≤ e.addr) (λ (e : StartEntry). MayBeSite e → lo ≤ e.addr) es (λ e k may. k) l) (none_first g lo)

-- a locked byte isn't written
unwritten : (v : TurnView) (site : StartEntry) (c : Candidate) (x : ℕ) → IsAdmissible v site c → is_locked (v.lock x) ≡ true
    → is_written (jumps_of site c) x ≡ false
unwritten v site c x a h = false_from_ne_true (is_written (jumps_of site c) x) (λ w. free_unlocked (v.lock x) (a.allowed.free x w) h)

-- a locked byte keeps its lock and its value at all later turns
pub locks_stay : LocksStay
locks_stay g ss t [] xs h x k = (refl, refl)
locks_stay g ss t (e ∷ es) [] h x k = absurd h
locks_stay g ss t (e ∷ es) (Apply c plan ∷ xs) h x k =
    let a = admissible (view_at g t) e ss c plan h.0.1 in
    let js = jumps_of e c in
    let w = unwritten (view_at g t) e c x a k in
    let lock = kept_lock (written js x) (is_punned js x) (t.lock x) w k in
    let q = locks_stay g ss (after g t e (length es) (Apply c plan)) es xs h.1 x (ap is_locked lock ∙ k) in
    (q.0 ∙ lock, q.1 ∙ kept_value (written js x) (is_punned js x) (t.lock x) (g.image x) w)
locks_stay g ss t (e ∷ es) (Left why ∷ xs) h x k = locks_stay g ss (after g t e (length es) (Left why)) es xs h.1 x k

-- an entry above another begins where that ends, or after, where it may be patched
above_all : (g : Scene) (es : List StartEntry) (site : StartEntry) → AreEntries g.image g.entries → AreSites g es → Contains g.entries site
    → AllByRecursion (λ (e : StartEntry). site.addr < e.addr) es
    → AllByRecursion (λ (e : StartEntry). MayBeSite e → site.addr + site.len ≤ e.addr) es
above_all g [] site A s c b = tt
above_all g (e ∷ es) site A s c b =
    (λ may. ends_below g.image g.entries A site e c (entry_listed g.entries e.addr e s.0) (inr may) b.0, above_all g es site A s.2 c b.1)

-- a byte that isn't locked is free
pub free_unless : (k : Lock) → (is_locked k ≡ true → ⊥) → k ≡ Free
free_unless Free n = refl
free_unless Punned n = absurd (n refl)
free_unless (Changed v) n = absurd (n refl)

-- after the turns of sites above a listed instruction, each byte of this one is free
pub next_is_free : NextIsFree
next_is_free g ss es xs site A s c b h x lo hi =
    free_unless ((state_after g (first_state g) es xs).lock x) (λ k.
    let a = above_from g ss (first_state g) es xs (site.addr + site.len) h (above_all g es site A s c b) (none_first g (site.addr + site.len)) x k in
    omega (arith, a, hi))
