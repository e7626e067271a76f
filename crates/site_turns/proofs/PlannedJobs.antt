-- What was planned meets what writing asks, and is a job of writing.
use Rattle.std.proofs.Common.{◌≡◌, inl, inr, ℕ, ◌+◌, ◌-◌, ◌*◌, ◌/◌, ◌^◌, ◌<◌, ◌≤◌, Bool, true, false, cond, ◌&&◌, leb, ltb, List, [], ◌∷◌, ◌++◌, map, length, filter, None, refl, sym, ap, ◌∙◌, subst, arith}
use Rattle.std.specs.Prelude.{Contains}
use Rattle.std.specs.Option.{is_some}
use Rattle.std.specs.List.{AllByRecursion, list_any, flat_map}
use Rattle.std.proofs.lemmas.Bool.{and_parts, and_from, or_cases, or_left, or_right, cases_lt, leb-true, ltb-true, le-leb, lt-ltb, false_from_ne_true, true≢false, false≢true}
use Rattle.std.proofs.lemmas.List.{map-append}
use Rattle.pun_base.specs.declared.plan.Write.{Write}
use Rattle.pun_base.specs.Outcomes.{outcome_writes}
use Rattle.elf_read.specs.declared.segment.Segment.{Segment}
use Rattle.elf_read.specs.Entries.{segments, loads, is_load}
use Rattle.elf_read.specs.Code.{is_code, is_backed, is_exec_in, is_exec}
use Rattle.elf_read.specs.Image.{image_of}
use Rattle.address_space.specs.declared.extent.Extent.{Extent}
use Rattle.address_space.specs.Free.{whole_pages}
use Rattle.page_group.specs.Pages.{is_covered, AreDisjoint}
use Rattle.page_group.specs.Grouping.{GroupsState, pages}
use Rattle.elf_emit.specs.declared.runs.Page.{Page}
use Rattle.elf_emit.specs.Emits as emit
use Rattle.elf_emit.specs.Emits.{range_of, page_of_home, pages_of, HoldNothing}
use Rattle.elf_emit.specs.Views.{patch_of}
use Rattle.elf_emit.proofs.JobConditions.{job_is}
use Rattle.elf_emit.specs.Laws.{IsBacked, is_on, IsJob}
use Rattle.elf_emit.proofs.WrittenTable.{all_mapped}
use Rattle.patch_report.specs.declared.row.ReportRow.{ReportRow}
use Rattle.patch_report.specs.Values.{RowValue, write_value, row_value}
use Rattle.patch_report.proofs.OutcomeRuns.{runs_written}
use Rattle.patch_report.proofs.ListPlaces.{In, found, all_in, all_from, in_map, from_map, any_at, contains_at, place_of}
use Rattle.start_entries.specs.declared.entry.StartEntry.{StartEntry}
use Rattle.start_entries.specs.Finding.{addresses}
use Rattle.start_entries.specs.Laws.{IsExecuted}
use Rattle.start_entries.proofs.ExecutedEntries.{all_executed}
use Rattle.sound_images.specs.Reports.{Line, runs_of, in_run}
use Rattle.scheme_search.proofs.OneJumpBytes.{within_parts}
use Rattle.site_turns.specs.States.{is_in}
use Rattle.site_turns.specs.Folded.{done_by, in_code, IsNewlyTaken}
use Rattle.site_turns.specs.Loaded.{case_of}
use Rattle.site_turns.specs.PlannedState.{PlannedState}
use Rattle.site_turns.specs.PrivateRange.{HasRoom}
use Rattle.site_turns.specs.PrivateRange as private
use Rattle.site_turns.specs.Modes.{TurnRules, event_rules}
use Rattle.site_turns.specs.Laws.{SchemeLeads}
use Rattle.site_turns.specs.Planning.{Request, Turns, IsTurned, IsPlanned, scene_in, end_of, scene_under, end_under, taken_at_first}
use Rattle.site_turns.specs.PlanLaws.{IsAsked, writes_of, job_for, AreGroups, CanBeWritten, PlannedCanBeWritten, PlannedIsJob}
use Rattle.site_turns.proofs.CodePages.{whole_shut, new_page, loaded_taken, taken_left, nothing}
use Rattle.site_turns.proofs.PrivateRoom.{private_has_room}
use Rattle.pun_base.proofs.PrivateLengths.{has_front}
use Rattle.site_turns.proofs.LeadingPlans.{free_untaken}
use Rattle.site_turns.proofs.LoadedJobs.{five_lead}
use Rattle.site_turns.proofs.RequestScene.{starts_are, entries_are, folded}
use Rattle.site_turns.proofs.CodeAddresses.{AreSized, sized, covered_in, pieces_apart}

-- the runs of rows, as a report has them, are their writes
pub runs_are : (rows : List ReportRow)
    → flat_map (λ (r : RowValue). runs_of r.outcome) (map row_value rows) ≡ map write_value (writes_of rows)
runs_are [] = refl
runs_are (r ∷ rows) =
    (let told = sym (runs_written r.outcome) in λ i. told i ++ runs_are rows i)
    ∙ sym (map-append write_value (outcome_writes r.outcome) (writes_of rows))

-- bytes that can be executed are backed by a segment that is loaded
three : (a b c : Bool) → (a && b && c) ≡ true → (a ≡ true) × (c ≡ true)
three true true true h = (refl, refl)
three true true false h = absurd (false≢true h)
three true false c h = absurd (false≢true h)
three false b c h = absurd (false≢true h)

-- of a list of segments
backed_by : (ss : List Segment) (x : ℕ) → list_any (is_exec_in x) ss ≡ true → list_any (λ (s : Segment). is_backed s x) (loads ss) ≡ true
backed_by [] x h = absurd (false≢true h)
backed_by (s ∷ ss) x h = elim (or_cases (is_exec_in x s) (list_any (is_exec_in x) ss) h) [
  | inl i ↦ (let k = three (is_load s) (is_code s) (is_backed s x) i in first (is_load s) k.0 k.1)
  | inr i ↦ later (is_load s) (backed_by ss x i)
]
  where
    first : (b : Bool) → b ≡ true → is_backed s x ≡ true
        → list_any (λ (s : Segment). is_backed s x) (cond b (s ∷ filter is_load ss) (filter is_load ss)) ≡ true
    first true e k = or_left (is_backed s x) _ k
    first false e k = absurd (false≢true e)

    later : (b : Bool) → list_any (λ (s : Segment). is_backed s x) (filter is_load ss) ≡ true
        → list_any (λ (s : Segment). is_backed s x) (cond b (s ∷ filter is_load ss) (filter is_load ss)) ≡ true
    later true k = or_right (is_backed s x) _ k
    later false k = k

module _ (r : TurnRules) (lead : AllByRecursion SchemeLeads r.schemes) (q : Request) (t : Turns) (p : PlannedState) (a : IsAsked q)
    (h : IsTurned r q t p.private p.rows) (sizes : AreSized (scene_under r q t) (done_by (end_under r q t)).lines p.built) where
  -- the private range has room
  room : HasRoom (taken_at_first q) q.action (length t.entries) t.private
  room = private_has_room (taken_at_first q) q.action (length t.entries) t.private h.turns.turns.private

  -- the private range of the plan begins where that of the turns does
  lo_is : p.private.lo ≡ t.private.lo
  lo_is = ap (λ (e : Extent). e.lo) h.private

  -- the private range of the plan ends where that of the turns does
  hi_is : p.private.hi ≡ t.private.hi
  hi_is = ap (λ (e : Extent). e.hi) h.private

  -- a listed entry's bytes are backed
  executed : (e : StartEntry) → In q.listed e → (x : ℕ) → e.addr ≤ x → x < e.addr + e.len → is_exec q.file x ≡ true
  executed e i x l u =
      let s = subst (λ es. AllByRecursion (IsExecuted q.file) es) (sym a.built.entries)
      (all_executed 0x20000 q.file (addresses q.listed) (starts_are q a)) in
      let b = all_in (IsExecuted q.file) q.listed e s i in
      let k : e.addr + (x - e.addr) ≡ x = omega arith in
      subst (λ (z : ℕ). is_exec q.file z ≡ true) k (b.executed (x - e.addr) (omega arith))

  -- the bytes of a write are backed
  backed_at : (w : Write) → In (writes_of p.rows) w → IsBacked (loads (segments q.file)) (patch_of w)
  backed_at w i k l =
      let x = w.addr + k in
      let m = in_map write_value (writes_of p.rows) w i in
      let equal = w.equal in
      let runs = ap (flat_map (λ (w : RowValue). runs_of w.outcome)) (sym h.rows) ∙ runs_are p.rows in
      let own = (folded r q t h.turns lead (entries_are q a)).kept.owned x (ap (list_any (in_run x)) runs
      ∙ any_at (in_run x) (map write_value (writes_of p.rows)) m.0 (write_value w) m.1
      (and_from (leb w.addr x) (ltb x (w.addr + length w.was)) (le-leb w.addr x (omega arith))
      (lt-ltb x (w.addr + length w.was) (omega (arith, l, equal))))) in
      backed_by (segments q.file) x (executed own.entry (place_of q.listed own.entry own.listed) x own.low own.high)

  -- an address of a piece, and what its page has
  record IsNewPage (page : ℕ) : Type 0 where
    at : ℕ
    is : at / 4096 * 4096 ≡ page
    low : 0x20000 ≤ at
    high : at < 0x7FFF0000
    new : (y : ℕ) → y / 4096 ≡ at / 4096 → (image_of q.file y ≡ None) × (is_in t.private y ≡ false)

  module _ (groups : GroupsState) (G : AreGroups p groups) where
    -- each page for code has one
    new_at : (page : ℕ) → Contains (pages groups.homes) page → IsNewPage page
    new_at page k =
        let g = scene_under r q t in
        let m = (G.1.listed.exact page).0 k in
        let x = m.0 in
        let covered : is_covered (map range_of p.built) x ≡ true = ap (λ ps. is_covered ps x) (sym G.0) ∙ m.1 in
        let ls = (done_by (end_under r q t)).lines in
        let f = found (in_code g x) ls (covered_in g (entries_are q a) ls p.built x sizes covered) in
        let n = all_in (λ (l : Line). (x : ℕ) → in_code g x l ≡ true → IsNewlyTaken g (done_by (end_under r q t)) x) ls f.is
        (folded r q t h.turns lead (entries_are q a)).kept.taken (f.place, f.at) x f.passes in
        record {
          at = x;
          is = m.2;
          low = n.low;
          high = n.high;
          new = λ y e. new_page (taken_at_first q) t.private q.file q.reserves x y
              (whole_shut q.file q.reserves q.action (length t.entries) t.private room) e n.new refl;
        }

    -- each page for code is free beside the private range
    free_at : (page : ℕ) → Contains (pages groups.homes) page → emit.IsFree p.private.lo p.private.hi page
    free_at page k =
        let n = new_at page k in
        let is = n.is in
        let low = n.low in
        let high = n.high in
        let whole = room.whole.1 in
        let ends = room.pages.1 in
        record {
          low = omega (arith, is, low);
          high = omega (arith, is, high);
          apart = elim (cases_lt page t.private.lo) [
            | inl l ↦ inl (omega (arith, l, whole, is, lo_is))
            | inr l ↦ elim (cases_lt page t.private.hi) [
              | inr u ↦ inr (omega (arith, u, hi_is))
              | inl u ↦ absurd (true≢false (sym (and_from (leb t.private.lo page) (ltb page t.private.hi) (le-leb t.private.lo page l)
                  (lt-ltb page t.private.hi u)) ∙ (n.new page (omega (arith, is))).1))
            ]
          ];
        }

    -- nothing of the original is where the private range is
    none_private : (x : ℕ) → is_in t.private x ≡ true → image_of q.file x ≡ None
    none_private x i =
        let k = and_parts (leb t.private.lo x) (ltb x t.private.hi) i in
        let lo = leb-true t.private.lo x k.0 in
        let hi = ltb-true x t.private.hi k.1 in
        nothing (image_of q.file x) (false_from_ne_true (is_some (image_of q.file x)) (λ e.
        free_untaken (taken_at_first q) t.private.lo (t.private.hi - t.private.lo) x room.free.misses lo (omega (arith, lo, hi))
        (taken_left (map (λ (s : Segment). private.pages_of s.vaddr s.memsz) (loads (segments q.file))) (map whole_pages q.reserves) x
        (loaded_taken q.file (loads (segments q.file)) x e))))

    -- nothing of the original is where a page for code is
    none_on : (x : ℕ) → list_any (λ (o : Page). is_on o x) (pages_of groups.homes) ≡ true → image_of q.file x ≡ None
    none_on x i =
        let f = found (λ (o : Page). is_on o x) (pages_of groups.homes) i in
        let m = from_map page_of_home groups.homes f.is (f.place, f.at) in
        let home = m.0 in
        let k = in_map (λ (o : ℕ × ℕ). o.0) groups.homes home m.1 in
        let n = new_at home.0 (contains_at (pages groups.homes) k.0 home.0 k.1) in
        let w = within_parts home.0 4096 x (ap (λ (o : Page). is_on o x) m.2 ∙ f.passes) in
        let is = n.is in
        (n.new x (omega (arith, is, w.0, w.1))).0

    -- nothing of the original is where the private range or a page for code is
    none_claimed : HoldNothing (job_for q p groups)
    none_claimed x i = elim (or_cases (leb p.private.lo x && ltb x p.private.hi)
        (list_any (λ (o : Page). is_on o x) (pages_of groups.homes)) i) [
          | inl k ↦ none_private x (sym (λ j. leb (lo_is j) x && ltb x (hi_is j)) ∙ k)
          | inr k ↦ none_on x k
        ]

  -- what was planned meets what writing asks
  pub can_be_written : CanBeWritten q p
  can_be_written =
      let g = scene_under r q t in
      let whole = room.whole.1 in
      let ends = room.pages.1 in
      let fits = room.room in
      let some = has_front q.action (length t.entries) in
      let above = room.free.above in
      let below = room.free.below in
      record {
        backed = all_mapped (IsBacked (loads (segments q.file))) patch_of (writes_of p.rows)
            (all_from (λ (w : Write). IsBacked (loads (segments q.file)) (patch_of w)) (writes_of p.rows) backed_at);
        disjoint = pieces_apart g (entries_are q a)
            (done_by (end_under r q t)).lines p.built sizes (folded r q t h.turns lead (entries_are q a)).kept.alone;
        private = record {
          whole = (omega (arith, whole, lo_is), omega (arith, ends, hi_is));
          some = omega (arith, fits, some, lo_is, hi_is);
          low = omega (arith, above, lo_is);
          high = omega (arith, below, fits, hi_is);
        };
        free = λ groups G. all_from (emit.IsFree p.private.lo p.private.hi) (pages groups.homes)
            (λ page i. free_at groups G page (contains_at (pages groups.homes) i.0 page i.1));
        nothing = none_claimed;
      }

-- the turns of what is planned with events go by the rules of events
pub turned_so : (q : Request) (t : Turns) (p : PlannedState) → IsPlanned q t p → IsTurned (event_rules q.action) q t p.private p.rows
turned_so q t p h = record { turns = h.turns; private = h.private; rows = h.rows; few = h.few }

-- each code that was planned has as many bytes as its turn took for it
pub sizes_so : (q : Request) (t : Turns) (p : PlannedState) → IsAsked q → IsPlanned q t p
    → AreSized (scene_in q t) (done_by (end_of q t)).lines p.built
sizes_so q t p a h =
    sized (scene_in q t) (entries_are q a) (case_of (scene_in q t) (end_of q t) [] (image_of q.file) 0) refl refl refl
    (done_by (end_of q t)).lines p.built h.built

-- what can be written is a job of writing
pub writing_is_job : (q : Request) (p : PlannedState) (groups : GroupsState) → IsAsked q → CanBeWritten q p → AreGroups p groups
    → length q.file < 2 ^ 63 → IsJob (job_for q p groups)
writing_is_job q p groups a k G size =
    job_is q.file (writes_of p.rows) p.built groups p.private.lo p.private.hi (record {
      bytes = a.bytes;
      size = size;
      original = a.accepted;
      backed = k.backed;
      groups_of = record { pieces = G.0; disjoint = subst AreDisjoint (sym G.0) k.disjoint };
      grouping = G.1;
      private = k.private;
      free = k.free groups G;
      nothing_there = k.nothing groups G;
    })

-- what was planned meets what writing asks
pub planned_can_be_written : PlannedCanBeWritten
planned_can_be_written q t p a h = can_be_written (event_rules q.action) five_lead q t p a (turned_so q t p h) (sizes_so q t p a h)

-- what was planned is a job of writing, where the file is short enough to be held in memory
pub planned_is_job : PlannedIsJob
planned_is_job q t p groups a h G size = writing_is_job q p groups a (planned_can_be_written q t p a h) G size
