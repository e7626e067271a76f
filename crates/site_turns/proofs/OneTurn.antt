-- What one turn does is what the rules give for its site.
use Rattle.std.proofs.Common.{◌≡◌, inl, inr, ℕ, ◌+◌, Bool, true, Option, List, [], ◌∷◌, ◌++◌, map, Some, refl, sym, ap, ◌∙◌, subst, arith}
use Rattle.std.specs.Prelude.{Contains, unwrap_or}
use Rattle.std.proofs.lemmas.List.{map-append, length-map}
use Rattle.pun_base.specs.declared.scheme.Scheme.{Scheme}
use Rattle.pun_base.specs.declared.outcome.Plan.{Plan}
use Rattle.pun_base.specs.declared.outcome.Outcome.{Outcome}
use Rattle.pun_base.specs.declared.outcome.Outcome.TheVariants.{Patched, NotRelocatable, NoPlan, Shared as SharesBytes}
use Rattle.cpu_state.specs.Bytes.{allows}
use Rattle.elf_read.specs.Entries.{segments}
use Rattle.elf_read.specs.Image.{image_of}
use Rattle.byte_locks.specs.Locking.{lock_at}
use Rattle.address_space.specs.declared.extent.Extent.{Extent}
use Rattle.address_space.specs.Free.{SpaceState}
use Rattle.patch_report.specs.Values.{Reason, Immovable, Unplanned, Shared, left, outcome_value, row_value, write_value}
use Rattle.patch_report.specs.declared.row.ReportRow.{ReportRow}
use Rattle.patch_report.proofs.ListPlaces.{all_in}
use Rattle.start_entries.specs.declared.entry.StartEntry.{StartEntry}
use Rattle.start_entries.specs.Finding.{entry_at}
use Rattle.start_entries.specs.Standing.{AreEntries}
use Rattle.start_list.specs.TurnViews.{TurnView, memory_now}
use Rattle.start_list.specs.PlanJumps.{Jump, is_written}
use Rattle.start_list.specs.Forms.{Candidate, Trampoline, jumps_of, trampolines_of, can_where}
use Rattle.start_list.specs.Plans.{IsPlanOf, tramp_of}
use Rattle.site_turns.specs.declared.mode.Mode.{Mode}
use Rattle.site_turns.specs.declared.mode.Mode.TheVariants.{Events, Threads}
use Rattle.site_turns.specs.declared.setting.Setting.{Setting}
use Rattle.site_turns.specs.declared.progress.Progress.{Progress}
use Rattle.site_turns.specs.States.{view_at, extent_for}
use Rattle.site_turns.specs.Choices.{Apply, Left, FirstOf, IsReason, IsChoice, row_of}
use Rattle.site_turns.specs.Laws.{five}
use Rattle.site_turns.specs.Modes.{event_size_of, can_of, schemes_of}
use Rattle.site_turns.specs.Turned.{IsJudged, IsSetting, scene_by, state_of, HasSameFree, extent_at, HasApplied, CanEnact, HasEnacted, HasTurned}
use Rattle.site_turns.proofs.LockedBytes.{admissible}
use Rattle.site_turns.proofs.PlanForms.{Ground, ground, entry_here}
use Rattle.site_turns.proofs.PlansWithOneJump.{entry_listed}
use Rattle.site_turns.proofs.LeadingPlans.{writes_on, same_perms}
use Rattle.site_turns.proofs.FreeRanges.{same_refl}
use Rattle.site_turns.proofs.AppliedPlans.{setting_entries, size_same, AreFound}
use Rattle.site_turns.proofs.PlanLocks.{locks_after}

-- the plan of the first scheme that has one is told
pub first_told : (v : TurnView) (site : StartEntry) (ss : List Scheme) (c : Candidate) (plan : Plan) → FirstOf v site ss c plan
    → IsPlanOf v site c plan
first_told v site [] c plan f = absurd f
first_told v site (s ∷ ss) c plan (inl f) = f.1
first_told v site (s ∷ ss) c plan (inr f) = first_told v site ss c plan f.1

-- what the rules give for a site can be done
pub can_enact : (s : Setting) (site : StartEntry) (p : Progress) (outcome : Outcome) → Contains s.starts.now site
    → IsJudged (schemes_of s.mode) (view_at (scene_by s []) (state_of p)) site outcome → CanEnact s outcome p
can_enact s site p (Patched plan) l j = record {
  site = site;
  candidate = j.0;
  listed = l;
  admissible = admissible (view_at (scene_by s []) (state_of p)) site (schemes_of s.mode) j.0 plan j.1.1;
  told = first_told (view_at (scene_by s []) (state_of p)) site (schemes_of s.mode) j.0 plan j.1.1;
}
can_enact s site p outcome l j = tt

-- the ranges of a plan's trampolines
extents_same : (s : Setting) (v : TurnView) (us : List Trampoline)
    → v.event_size ≡ (view_at (scene_by s []) (record { lock = v.lock; taken = v.taken; rows = [] })).event_size
    → AreFound s.starts.now us → map (extent_at s) (map tramp_of us) ≡ map (extent_for v) us
extents_same s v [] e f = refl
extents_same s v (u ∷ us) e f = λ i.
    record { lo = u.place; hi = u.place + unwrap_or (size_same s v u e f.0 i) 0 } ∷ extents_same s v us e f.1 i

-- the values of rows with one more appended are the values with that row's appended
rows_more : (old new : List ReportRow) (row : ReportRow) → new ≡ old ++ row ∷ []
    → map row_value new ≡ map row_value old ++ row_value row ∷ []
rows_more old new row e = ap (map row_value) e ∙ map-append row_value old (row ∷ [])

module _ (s : Setting) (h : IsSetting s) (shut : List Extent) (site : StartEntry) (number : ℕ) (listed : Contains s.starts.now site) (p :
    Progress) where
  abbrev v : TurnView
  v = view_at (scene_by s []) (state_of p)

  -- the view's entries are entries of its image
  A : AreEntries v.image v.entries
  A = setting_entries s h

  -- the site is found at its address
  here : entry_at v.entries site.addr ≡ Some site
  here = entry_here v.image v.entries site A listed

  -- a plan is applied
  applied_is : (plan : Plan) (q r : Progress) (c : Candidate) → IsChoice v (schemes_of s.mode) site (Apply c plan)
      → HasApplied s plan p q
      → r.locks ≡ q.locks → r.space ≡ q.space
      → map row_value r.rows.items ≡ map row_value p.rows.items ++ row_of site number (Apply c plan) ∷ []
      → HasTurned (scene_by s shut) (schemes_of s.mode) site number p r
  applied_is plan q r c j k el es er =
      let js : List Jump = jumps_of site c in
      let trs : List Trampoline = trampolines_of site c in
      let a = admissible v site (schemes_of s.mode) c plan j.1 in
      let t = first_told v site (schemes_of s.mode) c plan j.1 in
      let basis : Ground v.entries 0 js trs = ground v site 0 A here a.site_may c a.allowed.form in
      let held : (x : ℕ) → is_written js x ≡ true → allows 1 (memory_now v x) ≡ true = λ x w.
      (let u = writes_on trs js x basis.on w in
      let at = all_in (λ (u : Trampoline). entry_at v.entries u.entry.addr ≡ Some u.entry) trs u.tramp basis.entries u.listed in
      same_perms (v.lock x) (v.image x)
      ∙ ((A.each u.tramp.entry (entry_listed v.entries u.tramp.entry.addr u.tramp.entry at)).executed x u.low u.high).0) in
      let lock = locks_after (memory_now v) js plan.writes plan.puns v.lock t.written t.writes t.punned held in
      let few_writes = k.few_writes in
      let ranges : map (extent_at s) plan.tramps ≡ map (extent_for v) trs =
      ap (map (extent_at s)) t.tramps ∙ extents_same s v trs refl basis.entries in
      record {
        choice = Apply c plan;
        is = j;
        same = record {
          lock = sym lock ∙ sym k.lock ∙ (λ i. lock_at (sym el i));
          free = subst (λ (es : List Extent). HasSameFree (es ++ p.space.taken) r.space.taken) ranges
              (subst (λ (z : SpaceState). HasSameFree (map (extent_at s) plan.tramps ++ p.space.taken) z.taken) (sym es) k.added);
          rows = sym er;
        };
        few = (omega (arith, few_writes, length-map plan.writes write_value), k.few_puns);
      }

  -- where the site is left, the state stays, with one row more
  left_done : (why : Reason) (q r : Progress) (row : ReportRow) (outcome : Outcome) → outcome_value outcome ≡ left why
      → IsReason v (schemes_of s.mode) site why → q ≡ p → r.locks ≡ q.locks → r.space ≡ q.space
      → r.rows.items ≡ q.rows.items ++ row ∷ [] → row ≡ record { site = site.addr; number = number; outcome = outcome }
      → HasTurned (scene_by s shut) (schemes_of s.mode) site number p r
  left_done why q r row outcome o j k el es er e = record {
    choice = Left why;
    is = j;
    same = record {
      lock = λ i. lock_at (sym (el ∙ ap (λ (z : Progress). z.locks) k) i);
      free = subst (λ (z : SpaceState). HasSameFree p.space.taken z.taken) (sym (es ∙ ap (λ (z : Progress). z.space) k))
          (same_refl p.space.taken);
      rows = sym (rows_more q.rows.items r.rows.items row er ∙ (λ i. map row_value (k i).rows.items ++ row_value (e i) ∷ [])
          ∙ (λ i. map row_value p.rows.items ++ record { site = site.addr; number = number; outcome = o i } ∷ []));
    };
    few = tt;
  }

  -- a turn whose outcome is as the rules judge, and that has enacted it, is done
  pub turned : (outcome : Outcome) (q r : Progress) (row : ReportRow) → IsJudged (schemes_of s.mode) v site outcome
      → HasEnacted s outcome p q → r.locks ≡ q.locks → r.space ≡ q.space
      → r.rows.items ≡ q.rows.items ++ row ∷ [] → row ≡ record { site = site.addr; number = number; outcome = outcome }
      → HasTurned (scene_by s shut) (schemes_of s.mode) site number p r
  turned (Patched plan) q r row j k el es er e =
      applied_is plan q r j.0 j.1 k el es
      (rows_more q.rows.items r.rows.items row er ∙ (λ i. map row_value (k.rows i).items ++ row_value (e i) ∷ []))
  turned NotRelocatable q r row j k el es er e = left_done Immovable q r row NotRelocatable refl j k el es er e
  turned NoPlan q r row j k el es er e = left_done Unplanned q r row NoPlan refl j k el es er e
  turned SharesBytes q r row j k el es er e = left_done Shared q r row SharesBytes refl j k el es er e

-- all five schemes are tried in each mode
all_tried : (m : Mode) → five ≡ schemes_of m
all_tried (Events action) = refl
all_tried (Threads b) = refl

-- what is judged by a turn's view is judged at the state that the turns so far have left
pub judged_here : (s : Setting) (site : StartEntry) (p : Progress) (outcome : Outcome) (k : ℕ) (threads : Bool) → k ≡ event_size_of s.mode
    → can_where threads ≡ can_of s.mode
    → IsJudged five (record {
      image = image_of s.elf.now.bytes;
      segments = segments s.elf.now.bytes;
      entries = s.starts.now;
      lock = lock_at p.locks;
      taken = p.space.taken;
      event_size = k;
      can = can_where threads;
    }) site outcome → IsJudged (schemes_of s.mode) (view_at (scene_by s []) (state_of p)) site outcome
judged_here s site p outcome k threads e f h =
    let v : ℕ → (StartEntry → Option ℕ) → TurnView = λ n can. record {
      image = image_of s.elf.now.bytes;
      segments = segments s.elf.now.bytes;
      entries = s.starts.now;
      lock = lock_at p.locks;
      taken = p.space.taken;
      event_size = n;
      can = can;
    } in
    subst (λ (ss : List Scheme). IsJudged ss (v (event_size_of s.mode) (can_of s.mode)) site outcome) (all_tried s.mode)
    (subst (λ (can : StartEntry → Option ℕ). IsJudged five (v (event_size_of s.mode) can) site outcome) f
    (subst (λ (n : ℕ). IsJudged five (v n (can_where threads)) site outcome) e h))
