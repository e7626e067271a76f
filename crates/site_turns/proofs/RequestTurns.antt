-- What the turns do is what the rules give for a request.
use Rattle.std.proofs.Common.{◌≡◌, ℕ, ◌+◌, ◌*◌, ◌≤◌, List, [], ◌∷◌, length, Option, Some, refl, sym, ap, ◌∙◌, subst, arith}
use Rattle.pun_base.specs.declared.scheme.Scheme.{Scheme}
use Rattle.std.specs.List.{AllByRecursion}
use Rattle.pun_base.specs.declared.range.Range.{Range}
use Rattle.address_space.specs.declared.extent.Extent.{Extent}
use Rattle.address_space.specs.Free.{extent_of}
use Rattle.pun_base.specs.Least.{Least}
use Rattle.address_space.specs.Fit.{FitsPages}
use Rattle.patch_report.specs.Values.{RowValue}
use Rattle.start_entries.specs.declared.entry.StartEntry.{StartEntry}
use Rattle.start_entries.specs.Standing.{AreEntries}
use Rattle.scheme_search.proofs.LeastNumbers.{least_same}
use Rattle.site_turns.specs.declared.setting.Setting.{Setting}
use Rattle.site_turns.specs.declared.progress.Progress.{Progress}
use Rattle.site_turns.specs.PrivateRange.{pages_for}
use Rattle.site_turns.specs.States.{Scene, State, first_state}
use Rattle.site_turns.specs.Choices.{Choice, Apply, Left, after, IsTurns, state_after}
use Rattle.site_turns.specs.Laws.{AreSites}
use Rattle.site_turns.specs.Modes.{rules_of, action_of, schemes_of}
use Rattle.site_turns.specs.Planning.{Request, Turns, taken_at_first, private_pages, end_under, HasFewRuns, IsTurned}
use Rattle.site_turns.specs.Turned.{IsSetting, scene_by, state_of, HasSameFree, SameState, HasAllTurned}
use Rattle.site_turns.proofs.AppliedPlans.{setting_entries}
use Rattle.site_turns.proofs.PlansWithOneJump.{entry_listed}
use Rattle.site_turns.proofs.FreeRanges.{same_behind}
use Rattle.site_turns.proofs.RequestScene.{sites_long}
use Rattle.site_turns.proofs.AlikeStates.{choice_same, after_same, state_trans, state_sym}

-- pages fit at the same places where the same addresses are free
pub fits_same : (ts us : List Extent) (pages : ℕ) (o : Option ℕ) → 1 ≤ pages → HasSameFree ts us → Least (FitsPages ts pages) o
    → Least (FitsPages us pages) o
fits_same ts us pages o some h =
    least_same (FitsPages ts pages) (FitsPages us pages) o
    (λ t f. record { page = f.page; free = (h t (pages * 4096) (omega (arith, some))).0 f.free })
    (λ t f. record { page = f.page; free = (h t (pages * 4096) (omega (arith, some))).1 f.free })

-- the scene where other ranges are taken before the first turn
abbrev with_shut : Scene → List Extent → Scene
with_shut g us = record g { shut = us }

-- sites of a scene are sites whatever was taken before the first turn
sites_shut : (g : Scene) (us : List Extent) (es : List StartEntry) → AreSites g es → AreSites (with_shut g us) es
sites_shut g us [] h = h
sites_shut g us (e ∷ es) h = (h.0, h.1, sites_shut g us es h.2)

-- the state after a choice doesn't depend on what was taken before the first turn
after_shut : (g : Scene) (us : List Extent) (t : State) (e : StartEntry) (n : ℕ) (x : Choice)
    → after g t e n x ≡ after (with_shut g us) t e n x
after_shut g us t e n (Apply c plan) = refl
after_shut g us t e n (Left why) = refl

-- one choice leads from two states that no turn tells apart to two such states
next_same : (g : Scene) (us : List Extent) (t u : State) (e : StartEntry) (n : ℕ) (x : Choice) → SameState t u
    → SameState (after g t e n x) (after (with_shut g us) u e n x)
next_same g us t u e n x k =
    subst (λ (s : State). SameState (after g t e n x) s) (after_shut g us u e n x) (after_same g t u e n x k)

-- turns from states that no turn tells apart
turns_same : (g : Scene) (us : List Extent) (ss : List Scheme) (t u : State) (es : List StartEntry) (xs : List Choice)
    → AreEntries g.image g.entries
    → AreSites g es → SameState t u → IsTurns g ss t es xs → IsTurns (with_shut g us) ss u es xs
turns_same g us ss t u [] [] A s k h = h
turns_same g us ss t u [] (x ∷ xs) A s k h = h
turns_same g us ss t u (e ∷ es) [] A s k h = h
turns_same g us ss t u (e ∷ es) (x ∷ xs) A s k h = (
  choice_same g ss t u e x A (A.each e (entry_listed g.entries e.addr e s.0)).some k h.0,
  turns_same g us ss (after g t e (length es) x) (after (with_shut g us) u e (length es) x) es xs A s.2 (next_same g us t u e (length es) x
      k) h.1,
)

-- the same choices lead from two states that no turn tells apart to two such states
ends_same : (g : Scene) (us : List Extent) (t u : State) (es : List StartEntry) (xs : List Choice) → SameState t u
    → SameState (state_after g t es xs) (state_after (with_shut g us) u es xs)
ends_same g us t u [] xs k = k
ends_same g us t u (e ∷ es) [] k = k
ends_same g us t u (e ∷ es) (x ∷ xs) k =
    ends_same g us (after g t e (length es) x) (after (with_shut g us) u e (length es) x) es xs (next_same g us t u e (length es) x k)

-- the request of a setting
abbrev pub request_of : Setting → List ℕ → List Range → Request
request_of s sites reserves = record {
  file = s.elf.now.bytes;
  listed = s.starts.now;
  sites = sites;
  action = action_of s.mode;
  reserves = reserves;
}

-- the turns of a setting are those of its request
pub turns_done : (s : Setting) (sites : List ℕ) (reserves : List Range) (taken : List Extent) (p : Progress) (pages : ℕ) → IsSetting s
    → HasSameFree taken (taken_at_first (request_of s sites reserves))
    → pages ≡ private_pages (request_of s sites reserves) → 1 ≤ pages
    → Least (FitsPages taken pages) (Some s.private.lo) → s.private.hi ≡ s.private.lo + pages * 4096
    → HasAllTurned s sites taken p
    → (t : Turns) × IsTurned (rules_of s.mode) (request_of s sites reserves) t s.private p.rows.items
turns_done s sites reserves taken p pages set free size some least ends h =
    let q : Request = request_of s sites reserves in
    let private : Extent = extent_of s.private in
    let g : Scene = scene_by s (private ∷ taken) in
    let us : List Extent = private ∷ taken_at_first q in
    let A : AreEntries g.image g.entries = setting_entries s set in
    let first : SameState (first_state g) (first_state (with_shut g us)) =
    record { lock = refl; free = same_behind (private ∷ []) taken (taken_at_first q) free; rows = refl } in
    let t : Turns = record { entries = h.entries; private = private; choices = h.choices } in
    let end : SameState (end_under (rules_of s.mode) q t) (state_of p) =
    state_trans _ _ (state_of p) (state_sym _ _ (ends_same g us (first_state g) (first_state (with_shut g us)) h.entries h.choices first))
    h.state in
    let long : length h.entries ≡ length sites = sites_long h.entries sites h.addressed in
    let many : pages ≡ pages_for (action_of s.mode) (length h.entries) = size ∙ ap (pages_for (action_of s.mode)) (sym long) in (
      t,
      record {
        turns = record {
          sites = h.addressed;
          turns = record {
            private = record {
              least = subst (λ (n : ℕ). Least (FitsPages (taken_at_first q) n) (Some private.lo)) many
                  (fits_same taken (taken_at_first q) pages (Some private.lo) some free least);
              size = ends ∙ ap (λ n. private.lo + n * 4096) many;
            };
            sites = sites_shut g us h.entries h.listed;
            turns = turns_same g us (schemes_of s.mode) (first_state g) (first_state (with_shut g us)) h.entries h.choices A h.listed first h.turns;
          };
        };
        private = refl;
        rows = sym end.rows;
        few = subst (λ (rs : List RowValue). AllByRecursion (λ r. HasFewRuns r.outcome) rs) (sym end.rows) h.few;
      },
    )
