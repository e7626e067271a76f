-- A plan of an admissible candidate can be applied: its runs are free and low, and its trampolines have room.
use Rattle.std.proofs.Common.{◌≡◌, ℕ, ◌+◌, ◌^◌, ◌<◌, true, cond, List, [], ◌∷◌, ◌++◌, map, Some, refl, sym, ap, ◌∙◌, subst, arith}
use Rattle.std.specs.Prelude.{unwrap_or}
use Rattle.std.specs.FinMap.{get}
use Rattle.std.specs.Option.{option_map}
use Rattle.std.specs.List.{AllByRecursion}
use Rattle.pun_base.specs.declared.outcome.Plan.{Plan}
use Rattle.pun_base.specs.declared.tramp.Tramp.{Tramp}
use Rattle.byte_locks.specs.declared.lock.Lock.TheVariants.{Free}
use Rattle.byte_locks.specs.Locking.{LocksState, lock_at}
use Rattle.address_space.specs.declared.extent.Extent.{Extent}
use Rattle.address_space.specs.Free.{SpaceState}
use Rattle.elf_read.specs.Image.{image_of}
use Rattle.patch_report.proofs.ListPlaces.{all_in}
use Rattle.start_entries.specs.declared.entry.StartEntry.{StartEntry}
use Rattle.start_entries.specs.Finding.{entry_at}
use Rattle.start_entries.specs.Standing.{AreEntries}
use Rattle.start_list.specs.TurnViews.{TurnView}
use Rattle.start_list.specs.PlanJumps.{Jump}
use Rattle.start_list.specs.Forms as forms
use Rattle.start_list.specs.Forms.{Trampoline, jumps_of, trampolines_of}
use Rattle.start_list.specs.Admissible.{size_of, AreApart, ArePlaced}
use Rattle.start_list.specs.Plans.{write_run, pun_run, tramp_of}
use Rattle.start_list.proofs.CodeSegments.{shared_executed, executed_low}
use Rattle.sound_images.proofs.ReadInstructions.{entries_built}
use Rattle.site_turns.specs.declared.setting.Setting.{Setting}
use Rattle.site_turns.specs.declared.progress.Progress.{Progress}
use Rattle.site_turns.specs.Modes.{event_size_of}
use Rattle.site_turns.specs.States.{view_at}
use Rattle.site_turns.specs.Folded.{size_from}
use Rattle.site_turns.specs.LockedRuns.{is_in_runs}
use Rattle.site_turns.specs.Turned.{IsSetting, scene_by, HasSameFree, state_of, size_at, AreApartOf, AreRoomy, extent_at, CanApply, HasAdded}
use Rattle.site_turns.proofs.PlanForms.{Ground, ground, entry_here}
use Rattle.site_turns.proofs.PlansWithOneJump.{entry_listed}
use Rattle.site_turns.proofs.LeadingPlans.{writes_on}
use Rattle.site_turns.proofs.WorkLengths.{size_least}

-- the entries of a setting are entries of its image
pub setting_entries : (s : Setting) → IsSetting s → AreEntries (image_of s.elf.now.bytes) s.starts.now
setting_entries s h = entries_built s.elf.now.bytes s.starts.now h.accepted h.own

-- trampolines with their entries, at which they are found
abbrev pub AreFound : List StartEntry → List Trampoline → Type 0
AreFound es us = AllByRecursion (λ (u : Trampoline). entry_at es u.entry.addr ≡ Some u.entry) us

-- a trampoline has one size by the setting and by the view
pub size_same : (s : Setting) (v : TurnView) (u : Trampoline)
    → v.event_size ≡ (view_at (scene_by s []) (record { lock = v.lock; taken = v.taken; rows = [] })).event_size
    → entry_at s.starts.now u.entry.addr ≡ Some u.entry → size_at s (tramp_of u) ≡ size_of v u
size_same s v u e h =
    ap (size_from (event_size_of s.mode) u.event) h
    ∙ ap (λ k. option_map (λ n. cond u.event k 0 + n) (forms.work_length u.entry)) (sym e)

-- trampolines that are apart at a view are apart by the sizes of a setting with as long an event
apart_same : (s : Setting) (v : TurnView) (t : Trampoline) (us : List Trampoline)
    → v.event_size ≡ (view_at (scene_by s []) (record { lock = v.lock; taken = v.taken; rows = [] })).event_size
    → entry_at s.starts.now t.entry.addr ≡ Some t.entry → AreFound s.starts.now us
    → AllByRecursion (AreApart v t) us → AllByRecursion (AreApartOf s (tramp_of t)) (map tramp_of us)
apart_same s v t [] e h f a = tt
apart_same s v t (u ∷ us) e h f a = (
  λ n m p q. a.0 n m (sym (size_same s v t e h) ∙ p) (sym (size_same s v u e f.0) ∙ q),
  apart_same s v t us e h f.1 a.1,
)

-- trampolines that are placed at a view have room by the sizes of a setting with as long an event
roomy_same : (s : Setting) (v : TurnView) (us : List Trampoline)
    → v.event_size ≡ (view_at (scene_by s []) (record { lock = v.lock; taken = v.taken; rows = [] })).event_size
    → AreEntries v.image s.starts.now → AreFound s.starts.now us
    → ArePlaced v us → AreRoomy s v.taken (map tramp_of us)
roomy_same s v [] e A f p = tt
roomy_same s v (u ∷ us) e A f p =
    let some = (A.each u.entry (entry_listed s.starts.now u.entry.addr u.entry f.0)).some in (
      (p.0.0, size_same s v u e f.0 ∙ p.0.1, size_least v u p.0.0 p.0.1 some, p.0.2),
      apart_same s v u us e f.0 f.1 p.1,
      roomy_same s v us e A f.1 p.2,
    )

module _ (s : Setting) (h : IsSetting s) (plan : Plan) (p : Progress) (k : CanApply s plan p) where
  abbrev v : TurnView
  v = view_at (scene_by s []) (state_of p)

  abbrev js : List Jump
  js = jumps_of k.site k.candidate

  abbrev trs : List Trampoline
  trs = trampolines_of k.site k.candidate

  -- the view's entries are entries of its image
  A : AreEntries v.image v.entries
  A = setting_entries s h

  -- the plan's site is found at its address
  here : entry_at v.entries k.site.addr ≡ Some k.site
  here = entry_here v.image v.entries k.site A k.listed

  -- the jumps and trampolines of the plan are those of a form
  basis : Ground v.entries 0 js trs
  basis = ground v k.site 0 A here k.admissible.site_may k.candidate k.admissible.allowed.form

  -- each byte that is written lies below 2^31
  pub writes_low : (a : ℕ) → is_in_runs (map write_run plan.writes) a ≡ true → a < 2 ^ 31
  writes_low a i =
      let q = writes_on trs js a basis.on (sym (k.told.written.told a) ∙ i) in
      let at = all_in (λ (u : Trampoline). entry_at v.entries u.entry.addr ≡ Some u.entry) trs q.tramp basis.entries q.listed in
      let low = (A.each q.tramp.entry (entry_listed v.entries q.tramp.entry.addr q.tramp.entry at)).low in
      let high = q.high in
      omega (arith, low, high)

  -- each byte that is punned lies below 2^31
  pub puns_low : (a : ℕ) → is_in_runs (map pun_run plan.puns) a ≡ true → a < 2 ^ 31
  puns_low a i =
      let share = k.admissible.allowed.punned a (sym (k.told.punned.told a) ∙ i) in
      let low = executed_low s.elf.now.bytes a h.accepted (shared_executed s.elf.now.bytes k.site.addr a share) in
      omega (arith, low)

  -- each of the plan's trampolines is free at its place, and no two meet
  pub tramps_roomy : AreRoomy s p.space.taken plan.tramps
  tramps_roomy =
      subst (λ (ts : List Tramp). AreRoomy s p.space.taken ts) (sym k.told.tramps)
      (roomy_same s v trs refl A basis.entries k.admissible.placed)

-- what was added to one space was added to another that had the same ranges
pub added_same : (s : Setting) (ts us : List Tramp) (old was new : SpaceState) → ts ≡ us → old.taken ≡ was.taken → HasAdded s ts old new
    → HasAdded s us was new
added_same s ts us old was new e f h =
    subst (λ (es : List Extent). HasSameFree (map (extent_at s) us ++ es) new.taken) f
    (subst (λ (xs : List Tramp). HasAdded s xs old new) e h)

-- what is locked decides all locks
pub locks_by : (l k : LocksState) → l.locked ≡ k.locked → lock_at l ≡ lock_at k
locks_by l k e = λ i a. unwrap_or (get (e i) a) Free
