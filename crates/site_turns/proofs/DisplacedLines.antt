-- After the turns of all sites each trampoline does the work of an instruction that may be displaced.
use Rattle.std.proofs.Common.{◌≡◌, ℕ, true, List, [], ◌∷◌, map, length, Some, is_some, sym, ap, subst}
use Rattle.std.specs.List.{flat_map, AllByRecursion}
use Rattle.pun_base.specs.declared.scheme.Scheme.{Scheme}
use Rattle.pun_base.specs.declared.outcome.Plan.{Plan}
use Rattle.pun_base.specs.declared.tramp.Tramp.{Tramp}
use Rattle.elf_emit.proofs.WrittenTable.{all_append}
use Rattle.start_entries.specs.declared.entry.StartEntry.{StartEntry}
use Rattle.start_entries.specs.Finding.{entry_at}
use Rattle.start_entries.specs.Standing.{AreEntries}
use Rattle.start_list.specs.TurnViews.{TurnView}
use Rattle.start_list.specs.Forms.{Candidate, B1, B2, T1, T2, T3, Trampoline, MayBeSite, HasForm, jumps_of, trampolines_of}
use Rattle.start_list.specs.Plans.{tramp_of}
use Rattle.sound_images.specs.Reports.{row_lines}
use Rattle.site_turns.specs.States.{Scene, State, first_state, view_at}
use Rattle.site_turns.specs.Choices.{Choice, Apply, Left, FirstOf, row_of, after, IsTurns}
use Rattle.site_turns.specs.Laws.{AreSites, rows_of, Displaces, TurnsDisplace}
use Rattle.site_turns.proofs.LockedBytes.{admissible}
use Rattle.site_turns.proofs.OneTurn.{first_told}
use Rattle.site_turns.proofs.PlanForms.{Ground, ground}
use Rattle.site_turns.proofs.TurnFold.{turns_tell}

-- instructions that may be displaced
abbrev AreMovable : TurnView → List Trampoline → Type 0
AreMovable v us = AllByRecursion (λ (u : Trampoline). is_some (v.can u.entry) ≡ true) us

-- a plan displaces its site and its victim, if it has one
are_movable : (v : TurnView) (site : StartEntry) (c : Candidate) → is_some (v.can site) ≡ true → HasForm v site c → AreMovable v (trampolines_of site c)
are_movable v site (B1 t) s h = (s, tt)
are_movable v site (B2 t) s h = (s, tt)
are_movable v site (T1 p t) s h = (s, tt)
are_movable v site (T2 e p q pad x t u) s h = (s, (h.victim.movable, tt))
are_movable v site (T3 e i x t u) s h = (s, (h.victim.movable, tt))

module _ (g : Scene) (A : AreEntries g.image g.entries) where
  -- trampolines of listed instructions that share no byte and may be displaced, as a row tells them
  all_displace : (n : ℕ) (us : List Trampoline) → AllByRecursion (λ (u : Trampoline). entry_at g.entries u.entry.addr ≡ Some u.entry) us
      → AllByRecursion (λ (u : Trampoline). MayBeSite u.entry) us → AllByRecursion (λ (u : Trampoline). is_some (g.can u.entry) ≡ true) us
      → AllByRecursion (Displaces g) (map (λ (t : Tramp). record { number = n; tramp = t }) (map tramp_of us))
  all_displace n [] e m c = tt
  all_displace n (u ∷ us) e m c = (
    record { entry = u.entry; listed = e.0; may = m.0; movable = c.0 },
    all_displace n us e.1 m.1 c.1,
  )

  -- the lines of the row of a site whose plan is applied
  own_lines : (ss : List Scheme) (t : State) (site : StartEntry) (n : ℕ) (c : Candidate) (plan : Plan) → entry_at g.entries site.addr ≡ Some site
      → is_some (g.can site) ≡ true → FirstOf (view_at g t) site ss c plan
      → AllByRecursion (Displaces g) (row_lines (row_of site n (Apply c plan)))
  own_lines ss t site n c plan E s f =
      let v : TurnView = view_at g t in
      let a = admissible v site ss c plan f in
      let basis : Ground g.entries n (jumps_of site c) (trampolines_of site c) = ground v site n A E a.site_may c a.allowed.form in
      subst (λ (ts : List Tramp). AllByRecursion (Displaces g) (map (λ (u : Tramp). record { number = n; tramp = u }) ts))
      (sym (first_told v site ss c plan f).tramps)
      (all_displace n (trampolines_of site c) basis.entries basis.may (are_movable v site c s a.allowed.form))

  -- the lines of the rows to come
  lines_from : (ss : List Scheme) (t : State) (es : List StartEntry) (xs : List Choice) → AreSites g es → IsTurns g ss t es xs
      → AllByRecursion (Displaces g) (flat_map row_lines (rows_of es xs))
  lines_from ss t [] xs s h = tt
  lines_from ss t (e ∷ es) [] s h = tt
  lines_from ss t (e ∷ es) (Apply c plan ∷ xs) s h =
      all_append (Displaces g) (row_lines (row_of e (length es) (Apply c plan))) (flat_map row_lines (rows_of es xs))
      (own_lines ss t e (length es) c plan s.0 h.0.0 h.0.1) (lines_from ss (after g t e (length es) (Apply c plan)) es xs s.2 h.1)
  lines_from ss t (e ∷ es) (Left why ∷ xs) s h = lines_from ss (after g t e (length es) (Left why)) es xs s.2 h.1

-- after the turns of all sites each trampoline does the work of an instruction that may be displaced
pub turns_displace : TurnsDisplace
turns_displace g ss sites choices A s h =
    subst (AllByRecursion (Displaces g)) (sym (ap (flat_map row_lines) (turns_tell g ss sites choices h).0))
    (lines_from g A ss (first_state g) sites choices s h)
