-- What each turn keeps holds after the turns of all sites, and the rows tell the choices.
use Rattle.std.proofs.Common.{◌≡◌, inl, inr, ℕ, suc, ◌<◌, List, [], ◌∷◌, ◌++◌, length, refl, sym, ap, ◌∙◌, subst, append_assoc, append-nil}
use Rattle.std.specs.List.{AllByRecursion}
use Rattle.pun_base.specs.declared.scheme.Scheme.{Scheme}
use Rattle.pun_base.specs.declared.outcome.Plan.{Plan}
use Rattle.elf_emit.proofs.WrittenTable.{all_append}
use Rattle.patch_report.specs.Values.{RowValue}
use Rattle.patch_report.specs.Grammar.{CountsDown}
use Rattle.start_entries.specs.declared.entry.StartEntry.{StartEntry}
use Rattle.start_entries.specs.Standing.{AreEntries}
use Rattle.start_list.specs.TurnViews.{TurnView}
use Rattle.start_list.specs.Forms.{Candidate, scheme_of}
use Rattle.start_list.specs.Admissible.{IsAdmissible}
use Rattle.start_list.specs.Plans.{IsPlanOf}
use Rattle.site_turns.specs.States.{Scene, State, first_state, view_at}
use Rattle.site_turns.specs.Choices.{Choice, Apply, Left, FirstOf, row_of, after, IsTurns, state_after}
use Rattle.site_turns.specs.Folded.{IsFolded}
use Rattle.site_turns.specs.Laws.{IsNext, SchemeLeads, AreSites, rows_of, TurnsKeep, TurnsTell}
use Rattle.site_turns.proofs.LeftSites.{holds_first, left_keeps}
use Rattle.site_turns.proofs.AdmissiblePlans.{plan_keeps}

-- the plan of the first scheme that has one is admissible, and leads
pub first_of : (v : TurnView) (site : StartEntry) (ss : List Scheme) (c : Candidate) (plan : Plan) → AllByRecursion SchemeLeads ss
    → FirstOf v site ss c plan → SchemeLeads (scheme_of c) × IsAdmissible v site c × IsPlanOf v site c plan
first_of v site [] c plan h f = absurd f
first_of v site (s ∷ ss) c plan h (inl f) = (subst SchemeLeads (sym f.0.scheme) h.0, f.0.admissible, f.1)
first_of v site (s ∷ ss) c plan h (inr f) = first_of v site ss c plan h.1 f.1

-- the sites to come are below those of all rows
abbrev pub AreBelow : State → List StartEntry → Type 0
AreBelow t es = AllByRecursion (λ (e : StartEntry). AllByRecursion (λ (r : RowValue). e.addr < r.site) t.rows) es

-- a turn puts one row after the others
pub after_rows : (g : Scene) (t : State) (e : StartEntry) (n : ℕ) (x : Choice) → (after g t e n x).rows ≡ t.rows ++ row_of e n x ∷ []
after_rows g t e n (Apply c plan) = refl
after_rows g t e n (Left why) = refl

-- after a turn the sites to come are still below those of all rows, where they are below the turn's own
pub still_below : (g : Scene) (t : State) (e : StartEntry) (n : ℕ) (x : Choice) (es : List StartEntry) → AreBelow t es
    → AllByRecursion (λ (f : StartEntry). f.addr < e.addr) es → AreBelow (after g t e n x) es
still_below g t e n x [] b h = tt
still_below g t e n x (f ∷ es) b h = (
  subst (AllByRecursion (λ (r : RowValue). f.addr < r.site)) (sym (after_rows g t e n x))
      (all_append (λ (r : RowValue). f.addr < r.site) t.rows (row_of e n x ∷ []) b.0 (h.0, tt)),
  still_below g t e n x es b.1 h.1,
)

-- from a state at which the invariant of the turns holds, further turns lead to one at which it holds
turns_from : (g : Scene) (ss : List Scheme) (S : AllByRecursion SchemeLeads ss) (t : State) (es : List StartEntry) (xs : List Choice) → AreEntries g.image g.entries → AreSites g es
    → AreBelow t es → IsTurns g ss t es xs → IsFolded g t → IsFolded g (state_after g t es xs)
turns_from g ss S t [] xs A s b h f = f
turns_from g ss S t (e ∷ es) [] A s b h f = absurd h
turns_from g ss S t (e ∷ es) (Apply c plan ∷ xs) A s b h f =
    let q = first_of (view_at g t) e ss c plan S h.0.1 in
    let n : IsNext g t e = record { entry = s.0; below = b.0 } in
    turns_from g ss S (after g t e (length es) (Apply c plan)) es xs A s.2 (still_below g t e (length es) (Apply c plan) es b.1 s.1) h.1
    (plan_keeps g t e (length es) c plan A f n q.0 q.1 q.2)
turns_from g ss S t (e ∷ es) (Left why ∷ xs) A s b h f =
    let n : IsNext g t e = record { entry = s.0; below = b.0 } in
    turns_from g ss S (after g t e (length es) (Left why)) es xs A s.2 (still_below g t e (length es) (Left why) es b.1 s.1) h.1
    (left_keeps g t e (length es) why f n)

-- before the first turn there is no row
pub none_yet : (g : Scene) (es : List StartEntry) → AreBelow (first_state g) es
none_yet g [] = tt
none_yet g (e ∷ es) = (tt, none_yet g es)

-- after the turns of all sites what each turn keeps holds
pub turns_keep : TurnsKeep
turns_keep g ss es xs S A s h = turns_from g ss S (first_state g) es xs A s (none_yet g es) h (holds_first g)

-- rows in turn order
rows_from : (g : Scene) (ss : List Scheme) (t : State) (es : List StartEntry) (xs : List Choice) → IsTurns g ss t es xs
    → (state_after g t es xs).rows ≡ t.rows ++ rows_of es xs
rows_from g ss t [] xs h = sym (append-nil t.rows)
rows_from g ss t (e ∷ es) [] h = absurd h
rows_from g ss t (e ∷ es) (x ∷ xs) h =
    rows_from g ss (after g t e (length es) x) es xs h.1
    ∙ ap (λ (rs : List RowValue). rs ++ rows_of es xs) (after_rows g t e (length es) x)
    ∙ append_assoc t.rows (row_of e (length es) x ∷ []) (rows_of es xs)

-- choices give a row for each site, and the rows' numbers count down
rows_long : (g : Scene) (ss : List Scheme) (t : State) (es : List StartEntry) (xs : List Choice) → IsTurns g ss t es xs
    → (length (rows_of es xs) ≡ length es) × CountsDown (rows_of es xs)
rows_long g ss t [] xs h = (refl, tt)
rows_long g ss t (e ∷ es) [] h = absurd h
rows_long g ss t (e ∷ es) (x ∷ xs) h =
    let q = rows_long g ss (after g t e (length es) x) es xs h.1 in (ap suc q.0, (sym q.0, q.1))

-- the rows are those of the choices in turn order, and their numbers run down to 0
pub turns_tell : TurnsTell
turns_tell g ss es xs h = (rows_from g ss (first_state g) es xs h, (rows_long g ss (first_state g) es xs h).1)

-- after all turns there are as many rows as sites
pub rows_long_after : (g : Scene) (ss : List Scheme) (es : List StartEntry) (xs : List Choice) → IsTurns g ss (first_state g) es xs
    → length (state_after g (first_state g) es xs).rows ≡ length es
rows_long_after g ss es xs h = ap length (rows_from g ss (first_state g) es xs h) ∙ (rows_long g ss (first_state g) es xs h).0
