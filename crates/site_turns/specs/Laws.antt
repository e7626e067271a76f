-- What the turns keep, and what follows for the written file. Theorems cite it.
use Rattle.std.specs.Prelude.{◌≡◌, ◌≢◌, ℕ, ◌+◌, ◌<◌, ◌≤◌, true, List, [], ◌∷◌, length, slice_get, Some, is_some, Contains}
use Rattle.std.specs.List.{AllByRecursion}
use Rattle.pun_base.specs.Memory.{Bytes}
use Rattle.pun_base.specs.declared.scheme.Scheme.{Scheme}
use Rattle.pun_base.specs.declared.scheme.Scheme.TheVariants as scheme
use Rattle.pun_base.specs.declared.outcome.Plan.{Plan}
use Rattle.trampoline.specs.Events.{event_length}
use Rattle.insn_form.specs.Step.{Step}
use Rattle.patch_report.specs.Values.{RowValue, Reason}
use Rattle.patch_report.specs.Grammar.{IsTold, CountsDown}
use Rattle.byte_locks.specs.declared.lock.Lock.TheVariants.{Free}
use Rattle.start_entries.specs.declared.entry.StartEntry.{StartEntry}
use Rattle.start_entries.specs.Finding.{entry_at}
use Rattle.start_entries.specs.Leading.{Leads}
use Rattle.start_entries.specs.Standing.{AreEntries}
use Rattle.start_list.specs.TurnViews.{TurnView}
use Rattle.start_list.specs.Forms.{Candidate, MayBeSite, scheme_of, jumps_of, trampolines_of}
use Rattle.start_list.specs.Admissible.{IsAdmissible}
use Rattle.start_list.specs.Plans.{IsPlanOf}
use Rattle.sound_images.specs.Reports.{Line}
use Rattle.sound_images.specs.Rules.{Case, HasCode, IsSound}
use Rattle.sound_images.specs.Soundness.{rewriting_of}
use Rattle.sound_images.specs.Headline.{Headline}
use Rattle.site_turns.specs.States.{Scene, HasEvents, State, view_at, memory_at, first_state, applied, passed_over, report_of}
use Rattle.site_turns.specs.Choices.{Choice, Apply, Left, row_of, IsTurns, state_after}
use Rattle.site_turns.specs.Folded.{IsFolded, LeadBy, done_by, is_locked, code_size}
use Rattle.site_turns.specs.Loaded.{IsLoaded, case_of}

-- The schemes with one trampoline.
abbrev pub single : List Scheme
single = scheme.B1 ∷ scheme.B2 ∷ scheme.T1 ∷ []

-- All schemes, in the order in which they are tried.
abbrev pub five : List Scheme
five = scheme.B1 ∷ scheme.B2 ∷ scheme.T1 ∷ scheme.T2 ∷ scheme.T3 ∷ []

-- A site is an entry, below the sites of all rows.
pub record IsNext (g : Scene) (t : State) (site : StartEntry) : Type 0 where
  pub entry : entry_at g.entries site.addr ≡ Some site
  pub below : AllByRecursion (λ r. site.addr < r.site) t.rows

-- Before the first turn the invariant of the turns holds.
abbrev pub HoldsFirst : Type 0
HoldsFirst = (g : Scene) → IsFolded g (first_state g)

-- A site that is left, for whatever reason, keeps the invariant of the turns.
abbrev pub LeftKeeps : Type 0
LeftKeeps =
    (g : Scene) (t : State) (site : StartEntry) (n : ℕ) (why : Reason) → IsFolded g t
    → IsNext g t site → IsFolded g (passed_over t (row_of site n (Left why)))

-- In each memory in which the jumps of an admissible plan of a scheme stand, its starts lead to its
-- trampolines.
abbrev pub SchemeLeads : Scheme → Type 0
SchemeLeads s =
    (v : TurnView) (site : StartEntry) (c : Candidate) → AreEntries v.image v.entries
    → entry_at v.entries site.addr ≡ Some site → scheme_of c ≡ s → IsAdmissible v site c
    → AllByRecursion (λ u. LeadBy v.entries (jumps_of site c) u.entry.addr u.place)
    (trampolines_of site c)

-- The plans of B1, B2 and T1 lead.
abbrev pub SinglesLead : Type 0
SinglesLead = AllByRecursion SchemeLeads single

-- The plans of T2 lead.
abbrev pub BehindLeads : Type 0
BehindLeads = SchemeLeads scheme.T2

-- The plans of T3 lead.
abbrev pub NearLeads : Type 0
NearLeads = SchemeLeads scheme.T3

-- An admissible plan of any scheme whose plans lead keeps the invariant of the turns.
abbrev pub PlanKeeps : Type 0
PlanKeeps =
    (g : Scene) (t : State) (site : StartEntry) (n : ℕ) (c : Candidate) (plan : Plan)
    → AreEntries g.image g.entries
    → IsFolded g t → IsNext g t site → SchemeLeads (scheme_of c) → IsAdmissible (view_at g t) site c
    → IsPlanOf (view_at g t) site c plan
    → IsFolded g (applied g t site c (row_of site n (Apply c plan)))

-- Sites are entries, and descend.
abbrev pub AreSites : Scene → List StartEntry → Type 0
AreSites g [] = Unit {0}
AreSites g (e ∷ es) =
    (entry_at g.entries e.addr ≡ Some e) × AllByRecursion (λ f. f.addr < e.addr) es × AreSites g es

-- The rows of choices: each site's number is how many are below it.
abbrev pub rows_of : List StartEntry → List Choice → List RowValue
rows_of [] xs = []
rows_of (e ∷ es) [] = []
rows_of (e ∷ es) (x ∷ xs) = row_of e (length es) x ∷ rows_of es xs

-- After the turns of all sites the invariant of the turns holds, whatever choices the rules give.
abbrev pub TurnsKeep : Type 0
TurnsKeep =
    (g : Scene) (ss : List Scheme) (sites : List StartEntry) (choices : List Choice)
    → AllByRecursion SchemeLeads ss
    → AreEntries g.image g.entries → AreSites g sites → IsTurns g ss (first_state g) sites choices
    → IsFolded g (state_after g (first_state g) sites choices)

-- The rows after all turns are those of the choices, in turn order, and their numbers run down to
-- 0.
abbrev pub TurnsTell : Type 0
TurnsTell =
    (g : Scene) (ss : List Scheme) (sites : List StartEntry) (choices : List Choice)
    → IsTurns g ss (first_state g) sites choices
    → ((state_after g (first_state g) sites choices).rows ≡ rows_of sites choices)
    × CountsDown (rows_of sites choices)

-- A trampoline does the work of a listed instruction that shares no byte and may be displaced.
pub record Displaces (g : Scene) (l : Line) : Type 0 where
  pub entry : StartEntry
  pub listed : entry_at g.entries l.tramp.start ≡ Some entry
  pub may : MayBeSite entry
  pub movable : is_some (g.can entry) ≡ true

-- After the turns of all sites each trampoline, of a site or of a victim, does the work of an
-- instruction that may be displaced, whatever choices the rules give, by any schemes.
abbrev pub TurnsDisplace : Type 0
TurnsDisplace =
    (g : Scene) (ss : List Scheme) (sites : List StartEntry) (choices : List Choice)
    → AreEntries g.image g.entries → AreSites g sites → IsTurns g ss (first_state g) sites choices
    → AllByRecursion (Displaces g) (done_by (state_after g (first_state g) sites choices)).lines

-- No two trampolines with an event have one number.
abbrev pub EventsAreNumbered : List Line → Type 0
EventsAreNumbered ls =
    (i j : ℕ) (l m : Line) → i ≢ j → slice_get ls i ≡ Some l → slice_get ls j ≡ Some m
    → l.tramp.event ≡ true → m.tramp.event ≡ true → l.number ≢ m.number

-- After the turns of all sites no two trampolines with an event have one number, whatever choices
-- the rules give, by any schemes.
abbrev pub TurnsNumber : Type 0
TurnsNumber =
    (g : Scene) (ss : List Scheme) (sites : List StartEntry) (choices : List Choice)
    → IsTurns g ss (first_state g) sites choices
    → EventsAreNumbered (done_by (state_after g (first_state g) sites choices)).lines

-- In memory as it stands each trampoline's start leads to it, where the invariant of the turns
-- holds.
abbrev pub FoldedLeads : Type 0
FoldedLeads =
    (g : Scene) (t : State) → IsFolded g t
    → AllByRecursion (λ l. Leads (memory_at g t) g.entries l.tramp.start l.tramp.place)
    (done_by t).lines

-- A trampoline's code has as many bytes as its range.
abbrev pub CodeFills : Type 0
CodeFills =
    (c : Case) (g : Scene) (l : Line) (code : List ℕ) → AreEntries g.image g.entries
    → c.original ≡ g.image
    → c.listed ≡ g.entries → g.event_size ≡ event_length c.report.action → HasCode c l code
    → code_size g l ≡ Some (length code)

-- An image that loads what the turns have done is sound, where the invariant of the turns holds.
abbrev pub FoldedIsSound : Type 0
FoldedIsSound =
    (g : Scene) (t : State) (pages : List (ℕ × ℕ)) (patched : Bytes) (entry : ℕ)
    → AreEntries g.image g.entries
    → IsFolded g t → HasEvents g → IsLoaded g t pages patched
    → IsSound (case_of g t pages patched entry)

-- A program whose image loads what the turns of descending sites have done runs as the original
-- does: the headline, from the turns.
abbrev pub TurnsAreFollowed : Type 0
TurnsAreFollowed =
    (g : Scene) (ss : List Scheme) (sites : List StartEntry) (choices : List Choice)
    (pages : List (ℕ × ℕ)) (patched : Bytes)
    (entry : ℕ) → AllByRecursion SchemeLeads ss → AreEntries g.image g.entries → HasEvents g
    → AreSites g sites
    → IsTurns g ss (first_state g) sites choices
    → IsLoaded g (state_after g (first_state g) sites choices) pages patched
    → IsTold (report_of g (state_after g (first_state g) sites choices) pages)
    → Headline Step (rewriting_of (case_of g (state_after g (first_state g) sites choices) pages patched entry))

-- A locked byte keeps its lock and its value at all later turns, by any schemes: what is punned
-- stays as it was punned.
abbrev pub LocksStay : Type 0
LocksStay =
    (g : Scene) (ss : List Scheme) (t : State) (sites : List StartEntry) (choices : List Choice)
    → IsTurns g ss t sites choices → (x : ℕ) → is_locked (t.lock x) ≡ true
    → ((state_after g t sites choices).lock x ≡ t.lock x)
    × (memory_at g (state_after g t sites choices) x ≡ memory_at g t x)

-- After the turns of sites from an address on, by any schemes, each locked byte lies at that
-- address or above.
abbrev pub LocksAreAbove : Type 0
LocksAreAbove =
    (g : Scene) (ss : List Scheme) (sites : List StartEntry) (choices : List Choice) (lo : ℕ)
    → IsTurns g ss (first_state g) sites choices → AllByRecursion (λ e. lo ≤ e.addr) sites → (x : ℕ)
    → is_locked ((state_after g (first_state g) sites choices).lock x) ≡ true → lo ≤ x

-- The bytes of the next site, which lies below the sites of all turns so far, are free.
abbrev pub NextIsFree : Type 0
NextIsFree =
    (g : Scene) (ss : List Scheme) (sites : List StartEntry) (choices : List Choice)
    (site : StartEntry)
    → AreEntries g.image g.entries → AreSites g sites → Contains g.entries site
    → AllByRecursion (λ e. site.addr < e.addr) sites → IsTurns g ss (first_state g) sites choices
    → (x : ℕ)
    → site.addr ≤ x → x < site.addr + site.len
    → (state_after g (first_state g) sites choices).lock x ≡ Free
