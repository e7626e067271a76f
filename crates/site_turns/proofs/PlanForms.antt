-- What each form of plan gives: where its jumps stand, and that they write each start.
use Rattle.std.proofs.Common.{◌≡◌, ℕ, zero, suc, ◌+◌, ◌^◌, ◌<◌, ◌≤◌, Bool, true, false, cond, eqb, List, [], ◌∷◌, map, length, Some, refl, ap, ◌∙◌, arith}
use Rattle.std.specs.Prelude.{Contains}
use Rattle.std.specs.Option.{is_some}
use Rattle.std.specs.List.{AllByRecursion, count_by, find}
use Rattle.std.proofs.lemmas.Bool.{eq-eqb, eqb-true, cond-true}
use Rattle.std.proofs.lemmas.List.Sums.{count_by-le-length}
use Rattle.pun_base.specs.Memory.{Bytes}
use Rattle.patch_report.proofs.ListPlaces.{In, finds, contains_at, place_of, some_is}
use Rattle.start_entries.specs.declared.entry.StartEntry.{StartEntry}
use Rattle.start_entries.specs.Finding.{entry_at}
use Rattle.start_entries.specs.Standing.{AreEntries}
use Rattle.start_list.specs.TurnViews.{TurnView}
use Rattle.start_list.specs.PlanJumps.{Jump, padded_jump, short_jump, is_written}
use Rattle.start_list.specs.Forms.{Candidate, B1, B2, T1, T2, T3, Trampoline, for_site, for_victim, jumps_of, trampolines_of, MayBeSite, HasForm}
use Rattle.start_list.specs.Plans.{tramp_of}
use Rattle.start_list.proofs.UntouchedEntries.{one_entry, untouched_may}
use Rattle.scheme_search.proofs.OneJumpBytes.{jump_length}
use Rattle.site_turns.specs.Folded.{starts_at}
use Rattle.site_turns.proofs.JoinedLists.{one_of_both}
use Rattle.site_turns.proofs.PlanRuns.{any_one}
use Rattle.site_turns.proofs.LeadingPlans.{StandsOn, begins}
use Rattle.site_turns.proofs.PlansWithOneJump.{entry_listed}
use Rattle.site_turns.proofs.CodeSizes.{something}

-- a search finds something where one passes
find_some : {X : Type 0} (p : X → Bool) (xs : List X) (x : X) → In xs x → p x ≡ true → is_some (find p xs) ≡ true
find_some p [] x c h = let e = c.1 in absurd cc
find_some p (y ∷ ys) x (zero, e) h = ap is_some (cond-true (p y) (Some y) (find p ys) (ap p (some_is y x e) ∙ h))
find_some p (y ∷ ys) x (suc i, e) h = by_test (p y) (find_some p ys x (i, e) h)
  where
    by_test : (b : Bool) → is_some (find p ys) ≡ true → is_some (cond b (Some y) (find p ys)) ≡ true
    by_test true k = refl
    by_test false k = k

-- a listed entry is the one at its address
pub entry_here : (m : Bytes) (es : List StartEntry) (e : StartEntry) → AreEntries m es → Contains es e → entry_at es e.addr ≡ Some e
entry_here m es e A c =
    let s = something (entry_at es e.addr) (find_some (λ (i : StartEntry). eqb i.addr e.addr) es e (place_of es e c) (eq-eqb e.addr e.addr refl)) in
    let q = finds (λ (i : StartEntry). eqb i.addr e.addr) es s.0 s.1 in
    let k = contains_at es q.place s.0 q.at in
    s.1 ∙ ap Some (one_entry m es A s.0 e k c (eqb-true s.0.addr e.addr q.passes))

-- the facts of a plan on which its fit stands
pub record Ground (es : List StartEntry) (n : ℕ) (js : List Jump) (trs : List Trampoline) : Type 0 where
  pub entries : AllByRecursion (λ (u : Trampoline). entry_at es u.entry.addr ≡ Some u.entry) trs
  pub low : AllByRecursion (λ (j : Jump). j.at + length j.bytes < 2 ^ 64) js
  pub on : AllByRecursion (StandsOn trs) js
  pub begun : AllByRecursion (λ (u : Trampoline). is_written js u.entry.addr ≡ true) trs
  pub may : AllByRecursion (λ (u : Trampoline). MayBeSite u.entry) trs
  pub once : (x : ℕ) → count_by (starts_at x) (map (λ (u : Trampoline). record { number = n; tramp = tramp_of u }) trs) ≤ 1

module _ (v : TurnView) (site : StartEntry) (n : ℕ) (A : AreEntries v.image v.entries) (E : entry_at v.entries site.addr ≡ Some site)
    (may : MayBeSite site) where
  -- the site ends below 0x7FFF0000
  low : site.addr + site.len ≤ 0x7FFF0000
  low = (A.each site (entry_listed v.entries site.addr site E)).low

  -- the site has a byte
  some : 1 ≤ site.len
  some = (A.each site (entry_listed v.entries site.addr site E)).some

  -- one jump on the site
  one : (p t : ℕ) → p ≤ 3 → Ground v.entries n (padded_jump site.addr site.len p 0x40 t ∷ []) (for_site site t ∷ [])
  one p t few =
      let long = jump_length p 0x40 (site.addr + p + 5) t in
      record {
        entries = (E, tt);
        low = (omega (arith, long, low, few), tt);
        on = (record { tramp = for_site site t; listed = (0, refl); low = omega arith; high = omega arith }, tt);
        begun = (begins (padded_jump site.addr site.len p 0x40 t ∷ []) (padded_jump site.addr site.len p 0x40 t) (0, refl) some (omega (arith, long)), tt);
        may = (may, tt);
        once = λ x. count_by-le-length (starts_at x) (record { number = n; tramp = tramp_of (for_site site t) } ∷ []);
      }

  -- two starts that differ
  once_two : (e : StartEntry) (t u x : ℕ) → site.addr < e.addr
      → count_by (starts_at x) (record { number = n; tramp = tramp_of (for_site site t) } ∷ record { number = n; tramp = tramp_of (for_victim e u) } ∷ []) ≤ 1
  once_two e t u x l = one_of_both (starts_at x) (record { number = n; tramp = tramp_of (for_site site t) } ∷ [])
      (record { number = n; tramp = tramp_of (for_victim e u) } ∷ [])
      (count_by-le-length (starts_at x) (record { number = n; tramp = tramp_of (for_site site t) } ∷ []))
      (count_by-le-length (starts_at x) (record { number = n; tramp = tramp_of (for_victim e u) } ∷ [])) (λ a b.
      let i = eqb-true site.addr x (any_one (eqb site.addr x) a) in
      let k = eqb-true e.addr x (any_one (eqb e.addr x) b) in
      omega (arith, l, i, k))

  -- a candidate of any form has the facts on which its fit stands
  pub ground : (c : Candidate) → HasForm v site c → Ground v.entries n (jumps_of site c) (trampolines_of site c)
  ground (B1 t) f = one 0 t (omega arith)
  ground (B2 t) f = one 0 t (omega arith)
  ground (T1 p t) f = one p t (omega (arith, f.0, f.2))
  ground (T2 e p q pad x t u) f =
      let c = f.victim.listed in
      let elow = (A.each e c).low in
      let esome = (A.each e c).some in
      let short = f.short in
      let pads = f.pads in
      let qs = f.victim_pads in
      let behind = f.behind in
      let l1 = jump_length p 0x40 (site.addr + p + 5) t in
      let l2 = jump_length q pad (e.addr + q + 5) u in
      let js = jumps_of site (T2 e p q pad x t u) in
      record {
        entries = (E, (entry_here v.image v.entries e A c, tt));
        low = (omega (arith, l1, low, short, pads), (omega (arith, l2, elow, qs.0), tt));
        on = (
          record { tramp = for_site site t; listed = (0, refl); low = omega arith; high = omega arith },
          (record { tramp = for_victim e u; listed = (1, refl); low = omega arith; high = omega arith }, tt),
        );
        begun = (
          begins js (padded_jump site.addr site.len p 0x40 t) (0, refl) some (omega (arith, l1)),
          (begins js (padded_jump e.addr e.len q pad u) (1, refl) esome (omega (arith, l2)), tt),
        );
        may = (may, (untouched_may v e f.victim.untouched, tt));
        once = λ z. once_two e t u z (omega (arith, behind, some));
      }
  ground (T3 e i x t u) f =
      let c = f.victim.listed in
      let elow = (A.each e c).low in
      let esome = (A.each e c).some in
      let above = f.above in
      let inside = f.inside in
      let l2 = jump_length 0 0x40 (e.addr + i + 5) t in
      let l3 = jump_length 0 0x40 (e.addr + 5) u in
      let js = jumps_of site (T3 e i x t u) in
      record {
        entries = (E, (entry_here v.image v.entries e A c, tt));
        low = (omega (arith, low), (omega (arith, elow, inside.1), (omega (arith, elow), tt)));
        on = (
          record { tramp = for_site site t; listed = (0, refl); low = omega arith; high = omega arith },
          (
            record { tramp = for_victim e u; listed = (1, refl); low = omega arith; high = omega (arith, inside.1) },
            (record { tramp = for_victim e u; listed = (1, refl); low = omega arith; high = omega arith }, tt),
          ),
        );
        begun = (
          begins js (short_jump site.addr site.len (e.addr + i)) (0, refl) some (omega arith),
          (begins js (padded_jump e.addr e.len 0 0x40 u) (2, refl) esome (omega arith), tt),
        );
        may = (may, (untouched_may v e f.victim.untouched, tt));
        once = λ z. once_two e t u z (omega (arith, above, some));
      }
