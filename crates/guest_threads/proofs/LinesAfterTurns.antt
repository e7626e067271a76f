-- After the turns of all five schemes one jump or two lead to each trampoline, the numbers of events differ, and there is room for what they write to.
use Rattle.std.proofs.Common.{◌≡◌, ℕ, ◌+◌, ◌<◌, ◌≤◌, true, false, List, [], ◌∷◌, length, Option, sym, ap, ◌∙◌, subst, arith}
use Rattle.std.specs.Option.{is_some}
use Rattle.std.specs.List.{flat_map, AllByRecursion}
use Rattle.pun_base.specs.declared.action.Action.{Action}
use Rattle.pun_base.specs.declared.action.Action.TheVariants.{Cover, Count, Ring, When}
use Rattle.pun_base.specs.declared.action.Base.{Base}
use Rattle.pun_base.specs.declared.action.Base.TheVariants as base
use Rattle.pun_base.specs.Actions.{private_len}
use Rattle.elf_emit.proofs.StayingSegments.{all_map}
use Rattle.patch_report.proofs.ListPlaces.{In, all_in, all_from, some_is}
use Rattle.start_entries.specs.declared.entry.StartEntry.{StartEntry}
use Rattle.start_entries.specs.Leading.{Leads}
use Rattle.start_entries.specs.Standing.{AreEntries}
use Rattle.sound_images.specs.Reports.{Line, row_lines}
use Rattle.site_turns.specs.States.{Scene, State, memory_at, first_state}
use Rattle.site_turns.specs.Choices.{Choice, IsTurns, state_after}
use Rattle.site_turns.specs.Folded.{done_by}
use Rattle.site_turns.specs.Laws.{five, AreSites, Displaces, EventsAreNumbered}
use Rattle.site_turns.proofs.DisplacedLines.{turns_displace}
use Rattle.site_turns.proofs.LedLines.{folded_leads}
use Rattle.site_turns.proofs.LoadedJobs.{five_lead}
use Rattle.site_turns.proofs.NumberedEvents.{turns_number}
use Rattle.site_turns.proofs.PlannedEvents.{numbers_below}
use Rattle.site_turns.proofs.PlansWithOneJump.{entry_listed}
use Rattle.site_turns.proofs.PrivateRoom.{private_has_room}
use Rattle.site_turns.proofs.TurnFold.{turns_keep, turns_tell}
use Rattle.guest_threads.specs.FromTurns.{IsForThreads, IsThreadLine, HaveRoom, TurnsForThreads, MarksHaveRoom}
use Rattle.site_turns.specs.Modes.{can_in_threads}
use Rattle.thread_runs.specs.Building.{kind_of}
use Rattle.thread_runs.specs.ThreadCode.{Marks}
use Rattle.trampoline.specs.EventLists.{mark_at, mark_len}

module _ (g : Scene) (sites : List StartEntry) (choices : List Choice) (A : AreEntries g.image g.entries) (T : IsForThreads g) (s : AreSites g sites)
    (h : IsTurns g five (first_state g) sites choices) where
  abbrev t : State
  t = state_after g (first_state g) sites choices

  abbrev ls : List Line
  ls = (done_by t).lines

  -- each line's start leads to its trampoline
  leads : AllByRecursion (λ (l : Line). Leads (memory_at g t) g.entries l.tramp.start l.tramp.place) ls
  leads = folded_leads g t (turns_keep g five sites choices five_lead A s h)

  -- each line's instruction can be displaced for threads, and shares no byte
  displaces : AllByRecursion (Displaces g) ls
  displaces = turns_displace g five sites choices A s h

  -- sites that descend from an address are no more than the addresses below it
  few_below : (es : List StartEntry) (a : ℕ) → AreSites g es → AllByRecursion (λ (f : StartEntry). f.addr < a) es → length es ≤ a
  few_below [] a h b = omega arith
  few_below (e ∷ es) a h b = let n = few_below es e.addr h.2 h.1 in let k = b.0 in omega (arith, n, k)

  -- there are no more sites than addresses of a program
  few : (es : List StartEntry) → AreSites g es → length es ≤ 0x7FFF0000
  few [] h = omega arith
  few (e ∷ es) h =
      let E = A.each e (entry_listed g.entries e.addr e h.0) in
      let low = E.low in
      let some = E.some in
      let n = few_below es e.addr h.2 h.1 in
      omega (arith, n, low, some)

  -- each line's number is below the number of sites
  numbers : AllByRecursion (λ (l : Line). l.number < length sites) ls
  numbers = subst (AllByRecursion (λ (l : Line). l.number < length sites)) (sym (ap (flat_map row_lines) (turns_tell g five sites choices h).0))
      (numbers_below sites choices)

  -- a line is one of the turns
  line : (l : Line) → In ls l → IsThreadLine g t l
  line l i =
      let d : Displaces g l = all_in (Displaces g) ls l displaces i in
      record {
        moves = λ e at. let same : d.entry ≡ e = some_is d.entry e (sym d.listed ∙ at) in
            subst (λ (z : StartEntry). is_some (can_in_threads z) ≡ true) same (ap (λ (q : StartEntry → Option ℕ). is_some (q d.entry)) (sym T.can) ∙ d.movable);
        alone = λ e at. let same : d.entry ≡ e = some_is d.entry e (sym d.listed ∙ at) in subst (λ (z : StartEntry). z.shared ≡ false) same d.may;
        leads = all_in (λ (l : Line). Leads (memory_at g t) g.entries l.tramp.start l.tramp.place) ls l leads i;
        number = let n = few sites s in let k = all_in (λ (l : Line). l.number < length sites) ls l numbers i in omega (arith, n, k);
      }

  -- all lines are, and the numbers of events differ
  pub turned : AllByRecursion (IsThreadLine g t) ls × EventsAreNumbered ls
  turned = (all_from (IsThreadLine g t) ls line, turns_number g five sites choices h)

-- after all turns each line's instruction can be displaced for threads, and one jump or two lead to its trampoline; the numbers of events differ
pub turns_for_threads : TurnsForThreads
turns_for_threads g sites choices A T s h = turned g sites choices A T s h

-- a range that is long enough for an action and so many sites has room for what the events of lines with lower numbers write to
pub room_for : (a : Action) (lo hi n : ℕ) (ls : List Line) → lo + private_len a n ≤ hi → AllByRecursion (λ (l : Line). l.number < n) ls
    → HaveRoom (kind_of a) lo hi ls
room_for a lo hi n ls r k = by_action a r
  where
    of_each : (b : Base) → ((i : ℕ) → i < n → mark_at b lo i + mark_len b ≤ hi) → HaveRoom (Marks b) lo hi ls
    of_each b f = all_map (λ (l : Line). l.number < n) (λ (l : Line). mark_at b lo l.number + mark_len b ≤ hi) ls (λ l h. f l.number h) k

    by_action : (a : Action) → lo + private_len a n ≤ hi → HaveRoom (kind_of a) lo hi ls
    by_action Cover r = of_each base.Cover (λ i h. omega (arith, r, h))
    by_action Count r = of_each base.Count (λ i h. omega (arith, r, h))
    by_action (Ring len) r = omega (arith, r)
    by_action (When base.Cover list) r = of_each base.Cover (λ i h. omega (arith, r, h))
    by_action (When base.Count list) r = of_each base.Count (λ i h. omega (arith, r, h))

-- the private range has room for what the events of all lines write to
pub marks_have_room : MarksHaveRoom
marks_have_room g taken sites choices P h =
    let r = (private_has_room taken g.action (length sites) g.private P).room in
    let e = ap (flat_map row_lines) (turns_tell g five sites choices h).0 in
    room_for g.action g.private.lo g.private.hi (length sites) (done_by (state_after g (first_state g) sites choices)).lines r
    (subst (AllByRecursion (λ (l : Line). l.number < length sites)) (sym e) (numbers_below sites choices))
