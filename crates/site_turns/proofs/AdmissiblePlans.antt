-- An admissible plan of a scheme whose plans lead keeps what each turn keeps.
use Rattle.std.proofs.Common.{◌≡◌, ℕ, Bool, true, false, not, ◌&&◌, eqb, List, [], ◌∷◌, ◌++◌, map, refl, sym, ap, ◌∙◌, subst₂}
use Rattle.std.specs.Option.{is_some}
use Rattle.std.specs.List.{flat_map}
use Rattle.std.proofs.lemmas.Bool.{eq-eqb}
use Rattle.pun_base.specs.declared.outcome.Plan.{Plan}
use Rattle.pun_base.specs.declared.tramp.Tramp.{Tramp}
use Rattle.elf_emit.proofs.WrittenTable.{all_append}
use Rattle.patch_report.specs.Values.{RowValue, WriteValue, write_value}
use Rattle.start_entries.specs.declared.entry.StartEntry.{StartEntry}
use Rattle.start_list.specs.Forms.{Candidate, B1, B2, T1, T2, T3, Trampoline, jumps_of, trampolines_of}
use Rattle.start_list.specs.Plans.{tramp_of}
use Rattle.sound_images.specs.Reports.{Line, row_lines, runs_of}
use Rattle.sound_images.specs.Rules.{is_own}
use Rattle.site_turns.specs.States.{Scene, State, view_at, lock_after, extent_for, applied}
use Rattle.site_turns.specs.Choices.{Apply, row_of}
use Rattle.site_turns.specs.Folded.{done_by, IsKept, IsRowOf, IsFolded}
use Rattle.site_turns.specs.Adding.{Addition, done_after}
use Rattle.site_turns.specs.Laws.{IsNext, PlanKeeps}
use Rattle.site_turns.proofs.JoinedLists.{gathered, descended}
use Rattle.site_turns.proofs.FittingAdditions.{fitting_keeps}
use Rattle.site_turns.proofs.LeadingPlans.{add, plan_fits}
use Rattle.site_turns.proofs.PlanForms.{ground}

-- the first trampoline with an event is the row's
own_first : (b : Bool) → b ≡ true → ((b && true) && not false) ≡ true
own_first true e = refl
own_first false e = e

-- a plan's first trampoline is the site's own, alone with an event
own_of : (site : StartEntry) (c : Candidate) → is_own site.addr (map tramp_of (trampolines_of site c)) ≡ true
own_of site (B1 t) = own_first (eqb site.addr site.addr) (eq-eqb site.addr site.addr refl)
own_of site (B2 t) = own_first (eqb site.addr site.addr) (eq-eqb site.addr site.addr refl)
own_of site (T1 p t) = own_first (eqb site.addr site.addr) (eq-eqb site.addr site.addr refl)
own_of site (T2 e p q pad x t u) = own_first (eqb site.addr site.addr) (eq-eqb site.addr site.addr refl)
own_of site (T3 e i x t u) = own_first (eqb site.addr site.addr) (eq-eqb site.addr site.addr refl)

-- a trampoline's line
abbrev line_in : ℕ → Tramp → Line
line_in n u = record { number = n; tramp = u }

-- making lines of trampolines in two passes or in one gives the same lines
line_by : (n : ℕ) (trs : List Trampoline)
    → map (line_in n) (map tramp_of trs) ≡ map (λ (u : Trampoline). line_in n (tramp_of u)) trs
line_by n [] = refl
line_by n (u ∷ trs) = ap (λ (ls : List Line). line_in n (tramp_of u) ∷ ls) (line_by n trs)

module _ (g : Scene) (t : State) (site : StartEntry) (n : ℕ) (c : Candidate) (plan : Plan) where
  abbrev r : RowValue
  r = row_of site n (Apply c plan)

  abbrev p : Addition
  p = add g t n (jumps_of site c) (trampolines_of site c) plan.writes

  -- the lines of the rows so far and of the plan are the lines of the rows with the new one
  lines_are : plan.tramps ≡ map tramp_of (trampolines_of site c)
      → flat_map row_lines t.rows ++ p.lines ≡ flat_map row_lines (t.rows ++ r ∷ [])
  lines_are e =
      ap (λ (ls : List Line). flat_map row_lines t.rows ++ ls)
      (sym (ap (map (line_in n)) e ∙ line_by n (trampolines_of site c)))
      ∙ sym (gathered row_lines t.rows r)

  -- the runs of the rows so far and of the plan are the runs of the rows with the new one
  runs_are : flat_map (λ (q : RowValue). runs_of q.outcome) t.rows ++ map write_value plan.writes
      ≡ flat_map (λ (q : RowValue). runs_of q.outcome) (t.rows ++ r ∷ [])
  runs_are = sym (gathered (λ (q : RowValue). runs_of q.outcome) t.rows r)

  -- the new row is one of a listed site, with the site's own trampoline first
  row_is : IsNext g t site → plan.tramps ≡ map tramp_of (trampolines_of site c) → IsRowOf g.entries r
  row_is h e = record { listed = ap is_some h.entry; own = ap (is_own site.addr) e ∙ own_of site c }

  -- where an addition keeps what was done, the state after the plan keeps the invariant
  keeps : IsFolded g t → IsNext g t site → plan.tramps ≡ map tramp_of (trampolines_of site c) → IsKept g (done_after (done_by t) p)
      → IsFolded g (applied g t site c r)
  keeps f h e k = record {
    kept = subst₂ (λ (ls : List Line) (ws : List WriteValue). IsKept g (record {
      lock = lock_after t.lock (jumps_of site c);
      taken = map (extent_for (view_at g t)) (trampolines_of site c) ++ t.taken;
      lines = ls;
      runs = ws;
    })) (lines_are e) runs_are k;
    rows = all_append (IsRowOf g.entries) t.rows (r ∷ []) f.rows (row_is h e, tt);
    descend = descended t.rows r f.descend h.below;
  }

-- an admissible plan of a scheme whose plans lead keeps what each turn keeps
pub plan_keeps : PlanKeeps
plan_keeps g t site n c plan A f h s a o =
    let js = jumps_of site c in
    let trs = trampolines_of site c in
    let q = ground (view_at g t) site n A h.entry a.site_may c a.allowed.form in
    let fits = plan_fits g t n js trs plan.writes A q.entries (λ x w. a.allowed.free x w) a.allowed.stands q.low a.placed o.written o.writes
    q.on q.begun (s (view_at g t) site c A h.entry refl a) q.once q.may in
    keeps g t site n c plan f h o.tramps (fitting_keeps g (done_by t) (add g t n js trs plan.writes) f.kept fits)
