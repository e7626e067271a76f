-- What turns have done is what a report tells, with any pages that ascend.
use Rattle.std.proofs.Common.{◌≡◌, ℕ, ◌%◌, ◌^◌, ◌<◌, ◌≤◌, true, not, ◌&&◌, eqb, leb, ltb, List, [], ◌∷◌, ◌++◌, length, drop, refl, sym, ap, subst, append_assoc, ne_eqb, arith}
use Rattle.std.specs.List.{AllByRecursion, flat_map}
use Rattle.std.proofs.lemmas.Bool.{and_from, eq-eqb, le-leb, lt-ltb}
use Rattle.pun_base.proofs.PrivateLengths.{has_front}
use Rattle.pun_base.specs.declared.action.Action.{Action}
use Rattle.pun_base.specs.Actions.{IsAction}
use Rattle.pun_base.specs.declared.scheme.Scheme.{Scheme}
use Rattle.pun_base.specs.Limits.{most_sites}
use Rattle.cpu_state.specs.Bytes.{byte_of}
use Rattle.elf_emit.proofs.WrittenTable.{all_append}
use Rattle.patch_report.specs.Values.{BodyValue, RowValue, OutcomeValue, patched, left, Immovable, Unplanned, Shared}
use Rattle.patch_report.specs.declared.origin.Version.TheVariants.{Two}
use Rattle.patch_report.specs.Grammar.{IsBody, IsLine, OutcomeCounts, RowCounts, CountsDown, is_new, SitesApart, AscendFrom, high_end, tramp_count}
use Rattle.patch_report.specs.Spelling.{outcome_lines, row_lines, body_lines}
use Rattle.start_entries.specs.declared.entry.StartEntry.{StartEntry}
use Rattle.start_entries.specs.Standing.{AreEntries}
use Rattle.site_turns.specs.States.{Scene, State, view_at, report_of}
use Rattle.site_turns.specs.Choices.{Choice, Apply, Left, IsTurns, after}
use Rattle.site_turns.specs.Folded.{Descend}
use Rattle.site_turns.specs.Modes.{TurnRules, event_rules}
use Rattle.site_turns.specs.Laws.{SchemeLeads, AreSites, rows_of}
use Rattle.site_turns.specs.PrivateRange.{HasRoom}
use Rattle.site_turns.specs.Planning.{Request, Turns, HasFewRuns, AreTurnsUnder, scene_under, end_under, taken_at_first}
use Rattle.site_turns.specs.PlanLaws.{IsAsked, IsReportPage, PlannedIsReport}
use Rattle.site_turns.proofs.PrivateRoom.{private_has_room}
use Rattle.site_turns.proofs.PlansWithOneJump.{entry_listed}
use Rattle.site_turns.proofs.TurnFold.{first_of, turns_tell}
use Rattle.site_turns.proofs.PlanLines.{lines_good, tramps_counted, writes_some}
use Rattle.site_turns.proofs.LoadedJobs.{five_lead}
use Rattle.site_turns.proofs.RequestScene.{entries_are, image_small, rows_long, folded}

-- a plan has the trampolines of its scheme, and a run of written bytes
abbrev IsCounted : OutcomeValue → Type 0
IsCounted (patched p) = (length p.tramps ≡ tramp_count p.scheme) × (1 ≤ length p.writes)
IsCounted (left why) = Unit {0}

-- what holds of a row by itself
record IsRowGood (r : RowValue) : Type 0 where
  site : r.site < 2 ^ 32
  lines : AllByRecursion IsLine (outcome_lines r.outcome)
  plan : IsCounted r.outcome

module _ (g : Scene) (A : AreEntries g.image g.entries) (B : (x : ℕ) → byte_of (g.image x) < 256) (ss : List Scheme)
    (S : AllByRecursion SchemeLeads ss) where
  -- a site is a number of 32 bits
  low : (es : List StartEntry) (e : StartEntry) → AreSites g (e ∷ es) → e.addr < 2 ^ 32
  low es e s = let l = (A.each e (entry_listed g.entries e.addr e s.0)).low in omega (arith, l)

  -- each row's part, in turn order
  rows_good : (t : State) (es : List StartEntry) (xs : List Choice) → AreSites g es → IsTurns g ss t es xs
      → AllByRecursion IsRowGood (rows_of es xs)
  rows_good t [] xs s h = tt
  rows_good t (e ∷ es) [] s h = absurd h
  rows_good t (e ∷ es) (Apply c plan ∷ xs) s h =
      let v = view_at g t in
      let f = first_of v e ss c plan S h.0.1 in (
        record {
          site = low es e s;
          lines = lines_good v e c plan A s.0 B f.1 f.2;
          plan = (tramps_counted v e c plan A s.0 B f.1 f.2, writes_some v e c plan A s.0 B f.1 f.2);
        },
        rows_good (after g t e (length es) (Apply c plan)) es xs s.2 h.1,
      )
  rows_good t (e ∷ es) (Left why ∷ xs) s h =
      (record { site = low es e s; lines = tt; plan = tt }, rows_good (after g t e (length es) (Left why)) es xs s.2 h.1)

-- numbers that run down are below the count of rows
numbers_small : (rows : List RowValue) (n : ℕ) → CountsDown rows → length rows ≤ n → AllByRecursion (λ (r : RowValue). r.number < n) rows
numbers_small [] n h l = tt
numbers_small (r ∷ rs) n h l = let e = h.0 in (omega (arith, e, l), numbers_small rs n h.1 (omega (arith, l)))

-- the report of rows and pages
abbrev value : Action → ℕ × ℕ → List RowValue → List (ℕ × ℕ) → BodyValue
value action private rows pages = record { action = action; private = private; rows = rows; pages = pages }

-- the lines of a report from the first row on are lines
module _ (action : Action) (private : ℕ × ℕ) where
  abbrev AreRest : List RowValue → List (ℕ × ℕ) → Type 0
  AreRest rows pages = AllByRecursion IsLine (drop 3 (body_lines (value action private rows pages)))

  -- are good where the rows and the pages are
  rest_good : (rows : List RowValue) (pages : List (ℕ × ℕ)) → AllByRecursion IsRowGood rows
      → AllByRecursion (λ (r : RowValue). r.number < most_sites) rows
      → AllByRecursion IsReportPage pages → AreRest rows pages
  rest_good [] [] h n p = (record { holds = refl; fits = tt }, tt)
  rest_good [] (x ∷ ps) h n p =
      let whole = p.0.whole in
      let low = p.0.low in (
        record {
          holds = and_from (eqb (x.0 % 4096) 0) (ltb x.0 high_end) (eq-eqb (x.0 % 4096) 0 whole) (lt-ltb x.0 high_end low);
          fits = (omega (arith, low), p.0.group);
        },
        rest_good [] ps h n p.1,
      )
  rest_good (r ∷ rs) ps h n p =
      let number = n.0 in
      subst (AllByRecursion IsLine)
      (sym (append_assoc (row_lines r) (flat_map row_lines rs) (drop 3 (body_lines (value action private [] ps)))))
      (all_append IsLine (row_lines r) (drop 3 (body_lines (value action private rs ps)))
      (record { holds = refl; fits = (h.0.site, omega (arith, number)) }, h.0.lines) (rest_good rs ps h.1 n.1 p))

-- a site below all of some rows is new
new_site : (site : ℕ) (rows : List RowValue) → AllByRecursion (λ (r : RowValue). site < r.site) rows → is_new site rows ≡ true
new_site site [] h = refl
new_site site (r ∷ rs) h =
    let l = h.0 in
    and_from (not (eqb site r.site)) (is_new site rs) (ap not (ne_eqb site r.site (λ e. omega (arith, e, l)))) (new_site site rs h.1)

-- rows that descend have sites apart
still_above : (before : List RowValue) (r : RowValue) (rs : List RowValue)
    → AllByRecursion (λ (s : RowValue). AllByRecursion (λ (b : RowValue). s.site < b.site) before) rs
    → AllByRecursion (λ (s : RowValue). s.site < r.site) rs
    → AllByRecursion (λ (s : RowValue). AllByRecursion (λ (b : RowValue). s.site < b.site) (before ++ r ∷ [])) rs
still_above before r [] h d = tt
still_above before r (s ∷ rs) h d =
    (all_append (λ (b : RowValue). s.site < b.site) before (r ∷ []) h.0 (d.0, tt), still_above before r rs h.1 d.1)

-- the sites of rows that descend are all different
apart_from : (before rows : List RowValue) → Descend rows
    → AllByRecursion (λ (s : RowValue). AllByRecursion (λ (b : RowValue). s.site < b.site) before) rows → SitesApart before rows
apart_from before [] d h = tt
apart_from before (r ∷ rs) d h = (new_site r.site before h.0, apart_from (before ++ r ∷ []) rs d.1 (still_above before r rs h.1 d.0))

-- before the first row there is none
above_none : (rows : List RowValue) → AllByRecursion (λ (s : RowValue). AllByRecursion (λ (b : RowValue). s.site < b.site) []) rows
above_none [] = tt
above_none (r ∷ rs) = (tt, above_none rs)

-- the counts of each row
counted : (o : OutcomeValue) → IsCounted o → HasFewRuns o → OutcomeCounts Two o
counted (patched p) k f = record { tramps = k.0; least = k.1; writes = f.0; puns = f.1 }
counted (left Immovable) k f = refl
counted (left Unplanned) k f = refl
counted (left Shared) k f = refl

-- the trampolines and runs of all rows are as many as a report allows
all_counted : (rows : List RowValue) → AllByRecursion IsRowGood rows → AllByRecursion (λ (r : RowValue). HasFewRuns r.outcome) rows
    → AllByRecursion (RowCounts Two) rows
all_counted [] h f = tt
all_counted (r ∷ rs) h f = (counted r.outcome h.0.plan f.0, all_counted rs h.1 f.1)

-- what turns by rules whose schemes lead have done is what a report tells, where each row has few runs
pub turned_is_report : (r : TurnRules) → AllByRecursion SchemeLeads r.schemes → (q : Request) (t : Turns) (pages : List (ℕ × ℕ)) → IsAsked q
    → IsAction q.action → AreTurnsUnder r q t → AllByRecursion (λ (x : RowValue). HasFewRuns x.outcome) (end_under r q t).rows
    → AllByRecursion IsReportPage pages → AscendFrom 0 pages → IsBody Two (report_of (scene_under r q t) (end_under r q t) pages)
turned_is_report r lead q t pages a b h runs P asc =
    let g = scene_under r q t in
    let rows = (end_under r q t).rows in
    let turns = h.turns in
    let tell = turns_tell g r.schemes t.entries t.choices turns.turns in
    let good : AllByRecursion IsRowGood rows = subst (AllByRecursion IsRowGood) (sym tell.0)
    (rows_good g (entries_are q a) (image_small q a) r.schemes lead _ t.entries t.choices turns.sites turns.turns) in
    let numbers : CountsDown rows = subst CountsDown (sym tell.0) tell.1 in
    let few : length rows ≤ most_sites = (let e = rows_long r q t h in let f = a.few in omega (arith, e, f)) in
    let room : HasRoom (taken_at_first q) q.action (length t.entries) t.private =
    private_has_room (taken_at_first q) q.action (length t.entries) t.private turns.private in
    let lo = t.private.lo in
    let hi = t.private.hi in
    let whole = room.whole.1 in
    let ends = room.pages.1 in
    let fits = room.room in
    let some = has_front q.action (length t.entries) in
    let below = room.free.below in
    record {
      lines = (
        record { holds = refl; fits = b },
        (
          record {
            holds = and_from (eqb (lo % 4096) 0) (eqb (hi % 4096) 0 && (ltb lo hi && leb hi high_end))
                (eq-eqb (lo % 4096) 0 (omega (arith, whole)))
                (and_from (eqb (hi % 4096) 0) (ltb lo hi && leb hi high_end) (eq-eqb (hi % 4096) 0 (omega (arith, ends)))
                (and_from (ltb lo hi) (leb hi high_end) (lt-ltb lo hi (omega (arith, fits, some)))
                (le-leb hi high_end (omega (arith, below)))));
            fits = omega (arith, fits, below);
          },
          (
            record { holds = le-leb (length rows) most_sites few; fits = tt },
            rest_good q.action (lo, hi) rows pages good (numbers_small rows most_sites numbers few) P,
          ),
        ),
      );
      plans = all_counted rows good runs;
      numbers = numbers;
      sites = apart_from [] rows (folded r q t h lead (entries_are q a)).descend (above_none rows);
      pages = asc;
    }

-- what was planned is what a report tells, with any pages that ascend
pub planned_is_report : PlannedIsReport
planned_is_report q t p pages a b h P asc = turned_is_report (event_rules q.action) five_lead q t pages a b h.turns h.few P asc
