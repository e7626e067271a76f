-- What a written file loads, for threads.
use Rattle.std.proofs.Common.{◌≡◌, ℕ, ◌+◌, ◌-◌, ◌<◌, ◌≤◌, true, ◌&&◌, leb, ltb, eqb, List, map, length, Option, Some, None, refl, sym, ap, ap₂, ◌∙◌, subst, arith}
use Rattle.std.specs.Prelude.{Contains, unwrap_or}
use Rattle.std.specs.Option.{is_some, option_map}
use Rattle.std.specs.List.{AllByRecursion, list_any}
use Rattle.std.proofs.lemmas.Bool.{and_from, or_left, or_right, le-leb, lt-ltb, cond-true, false≢true, eqb-true}
use Rattle.pun_base.specs.Memory.{Cell, Bytes, or_else}
use Rattle.pun_base.specs.Ranges.{is_within}
use Rattle.pun_base.specs.Actions.{IsAction}
use Rattle.length_decode.specs.Spelling.{spelling}
use Rattle.cpu_state.specs.Bytes.{Stands}
use Rattle.address_space.specs.declared.extent.Extent.{Extent}
use Rattle.elf_read.specs.Entries.{entry_of, segments}
use Rattle.elf_read.specs.Image.{image_of}
use Rattle.elf_emit.specs.Job.{Job}
use Rattle.elf_emit.specs.Layout.{in_patch}
use Rattle.elf_emit.specs.Laws.{IsJob, Shows, is_on, with_writes, private_image, pages_image, IsPlacedIn}
use Rattle.elf_emit.proofs.JobImageParts.{originals_stand, code_stands, layout_loads}
use Rattle.patch_report.proofs.ListPlaces.{In, place_of, all_in, any_at, all_from, finds, contains_at}
use Rattle.start_entries.specs.declared.entry.StartEntry.{StartEntry}
use Rattle.start_entries.specs.Finding.{entry_at}
use Rattle.start_entries.specs.Standing.{AreEntries}
use Rattle.start_entries.proofs.ImageEntries.{built_are_entries}
use Rattle.sound_images.specs.Reports.{Line}
use Rattle.sound_images.specs.Rules.{displaced_from}
use Rattle.scheme_search.proofs.OneJumpBytes.{within_parts}
use Rattle.site_turns.specs.Modes.{IsShared}
use Rattle.site_turns.specs.PrivateRange.{taken_first}
use Rattle.site_turns.specs.States.{Scene, State, memory_at, first_state}
use Rattle.site_turns.specs.Choices.{Choice, state_after}
use Rattle.site_turns.specs.Laws.{five}
use Rattle.site_turns.specs.Folded.{done_by, in_code, IsLed, IsFolded}
use Rattle.site_turns.specs.Jobs.{patch_of, AreTurnsOf}
use Rattle.site_turns.proofs.KeptLocks.{within}
use Rattle.site_turns.proofs.WrittenMemory.{written_is}
use Rattle.site_turns.proofs.LoadedJobs.{five_lead}
use Rattle.site_turns.proofs.TurnFold.{turns_keep}
use Rattle.guest_threads.specs.FromTurns.{IsForThreads, thread_scene, threading_of, IsThreadLine, HaveMarks, OfCode, IsThreadLoaded, IsThreadJobOf, ThreadJobLoads, IsThreaded, WrittenIsThreaded}
use Rattle.guest_threads.proofs.LineSize.{instruction, code_with, size_is}
use Rattle.guest_threads.proofs.LinesAfterTurns.{turns_for_threads, marks_have_room}
use Rattle.guest_threads.proofs.ThreadSoundness.{folded_is_thread_sound}
use Rattle.thread_runs.proofs.ThreadsTheorem.{threads_followed, threads_followed_with}

module _ (g : Scene) (t : State) (m : Bytes) (j : Job) (A : AreEntries g.image g.entries) (f : IsFolded g t) (T : IsForThreads g) (J : AllByRecursion (IsThreadLine g t) (done_by t).lines)
    (counters : HaveMarks g (done_by t).lines) (is : IsJob j) (shown : Shows j m) (o : IsThreadJobOf g t j) where
  -- the original with the job's writes is memory as it stands
  writes_are : (x : ℕ) → with_writes j.writes (image_of j.orig) x ≡ memory_at g t x
  writes_are x =
      ap (λ ws. with_writes ws (image_of j.orig) x) o.writes
      ∙ ap (λ (m : Bytes). with_writes (map patch_of (done_by t).runs) m x) (λ i y. o.orig y i)
      ∙ written_is g (done_by t) f.kept x

  -- the original's bytes are loaded as they stand
  originals : (x : ℕ) → is_some (g.image x) ≡ true → m x ≡ memory_at g t x
  originals x h = by_cell (g.image x) refl h
    where
      by_cell : (c : Option Cell) → g.image x ≡ c → is_some c ≡ true → m x ≡ memory_at g t x
      by_cell None e h = absurd (false≢true h)
      by_cell (Some c) e h = originals_stand j m is shown x c (o.orig x ∙ e) ∙ sym (ap (option_map _) (o.orig x ∙ e)) ∙ writes_are x

  -- the code of each line is a piece of the job
  piece : (l : Line) → In (done_by t).lines l → OfCode g (λ place code. Contains j.pieces (record { addr = place; now = code })) l
  piece l i = all_in (OfCode g (λ place code. Contains j.pieces (record { addr = place; now = code }))) (done_by t).lines l o.pieces i

  -- where the relocated code of an entry has a length, there is an entry
  some_entry : (q : Option StartEntry) → is_some (displaced_from q) ≡ true → (e : StartEntry) × (q ≡ Some e)
  some_entry None h = absurd (false≢true h)
  some_entry (Some e) h = (e, refl)

  -- code stands where nothing of the original is
  fresh : (l : Line) → In (done_by t).lines l → (x : ℕ) → in_code g x l ≡ true → g.image x ≡ None
  fresh l i x h =
      let led : IsLed g (done_by t) l = all_in (IsLed g (done_by t)) (done_by t).lines l f.kept.led i in
      let q = some_entry (entry_at g.entries l.tramp.start) led.displaced in
      let w = finds (λ (e : StartEntry). eqb e.addr l.tramp.start) g.entries q.0 q.1 in
      let listed = contains_at g.entries w.place q.0 w.at in
      let addr : q.0.addr ≡ l.tramp.start = eqb-true q.0.addr l.tramp.start w.passes in
      let k = instruction g t A T J l i q.0 q.1 listed addr in
      let code = code_with g t A T J l i q.0 q.1 listed addr k in
      let size = size_is g t A T J l i q.0 q.1 listed addr k in
      let b = within_parts l.tramp.place (length code) x (sym (ap (λ z. is_within l.tramp.place (unwrap_or z 0) x) size) ∙ h) in
      let c = piece l i k.fields (q.0.addr + q.0.len) k.spelled (subst (λ (z : ℕ). Stands g.image z (spelling k.fields)) addr k.stands) (ap₂ (λ y z. y + z) addr (sym k.len)) in
      let p = place_of j.pieces (record { addr = l.tramp.place; now = code }) c in
      let on = is.on_pages x (any_at (λ w. in_patch w x) j.pieces p.0 (record { addr = l.tramp.place; now = code }) p.1 (within l.tramp.place (length code) x b.0 b.1)) in
      sym (o.orig x) ∙ is.new x (or_right (leb j.private_lo x && ltb x j.private_hi) (list_any (λ p. is_on p x) j.pages) on)

  -- the table lies below the private range, and all else after it
  no_table : (x : ℕ) → 0x20000 ≤ x → shown.table x ≡ None
  no_table x l = by_cell (shown.table x) refl
    where
      by_cell : (c : Option Cell) → shown.table x ≡ c → shown.table x ≡ None
      by_cell None e = e
      by_cell (Some c) e = let q = shown.header x c e in absurd (omega (arith, l, q.1))

  -- the private range is loaded as zeros, RW
  private_stands : (x : ℕ) → j.private_lo ≤ x → x < j.private_hi → m x ≡ Some (record { byte = 0; perms = 6 })
  private_stands x a b =
      let low = is.private_low in
      let t = no_table x (omega (arith, low, a)) in
      let p : private_image j x ≡ Some (record { byte = 0; perms = 6 }) =
      cond-true (leb j.private_lo x && ltb (x - j.private_lo) (j.private_hi - j.private_lo)) (Some (record { byte = 0; perms = 6 })) None
      (within j.private_lo (j.private_hi - j.private_lo) x a (omega (arith, a, b))) in
      shown.image x ∙ (λ i. or_else (t i) (or_else (p i) (or_else (pages_image j x) (with_writes j.writes (image_of j.orig) x))))

  -- the private range is zeros, RW, where the original has no byte
  zeros : (x : ℕ) → g.private.lo ≤ x → x < g.private.hi → (m x ≡ Some (record { byte = 0; perms = 6 })) × (g.image x ≡ None)
  zeros x a b =
      let lo = o.lo in let hi = o.hi in (
        private_stands x (omega (arith, a, lo)) (omega (arith, b, hi)),
        sym (o.orig x) ∙ is.new x (or_left (leb j.private_lo x && ltb x j.private_hi) (list_any (λ p. is_on p x) j.pages)
            (and_from (leb j.private_lo x) (ltb x j.private_hi) (le-leb j.private_lo x (omega (arith, a, lo))) (lt-ltb x j.private_hi (omega (arith, b, hi))))),
      )

  -- what shows the job has loaded what the turns for threads have done
  pub loaded : IsThreadLoaded g t m
  loaded = record {
    originals = originals;
    code = all_from _ (done_by t).lines (λ l i f next s st n. all_in (IsPlacedIn m) j.pieces _ (code_stands j m is shown) (place_of j.pieces _ (piece l i f next s st n)));
    fresh = all_from _ (done_by t).lines fresh;
    zeros = zeros;
    room = counters;
    high = let h = is.private_high in let hi = o.hi in omega (arith, h, hi);
  }

-- a memory that shows the job of the turns for threads has what they have done loaded
pub thread_job_loads : ThreadJobLoads
thread_job_loads g t m j A f T J c is shown o = loaded g t m j A f T J c is shown o

-- what shows the job of turns for threads is sound for threads
pub shown_is_threaded : (g : Scene) (taken : List Extent) (sites : List StartEntry) (choices : List Choice) (m : Bytes) (j : Job) → AreEntries g.image g.entries
    → IsAction g.action → IsForThreads g → IsShared g.action → AreTurnsOf g taken five sites choices → IsJob j → Shows j m
    → IsThreadJobOf g (state_after g (first_state g) sites choices) j → IsThreaded g (state_after g (first_state g) sites choices) m j
shown_is_threaded g taken sites choices m j A asked T S h is shown o =
    let t = state_after g (first_state g) sites choices in
    let q = turns_for_threads g sites choices A T h.sites h.turns in
    let f = turns_keep g five sites choices five_lead A h.sites h.turns in
    let c = marks_have_room g taken sites choices h.private h.turns in
    let sound = folded_is_thread_sound g t m (entry_of j.orig) A asked S f T q.0 q.1 (loaded g t m j A f T q.0 c is shown o) in
    let r = threads_followed (threading_of g t m (entry_of j.orig)) A sound in
    let d = threads_followed_with (threading_of g t m (entry_of j.orig)) A sound in
    record { sound = sound; followed = r.0; out = r.1; followed_with = d.0; out_with = d.1; entry = λ few. (layout_loads j is few).entry }

-- the file written for the turns of a file's sites is sound for threads, followed, and starts where the original does
pub written_is_threaded : WrittenIsThreaded
written_is_threaded action low file starts reserves private sites choices m j asked shared S h is shown o =
    shown_is_threaded (thread_scene action file starts reserves private) (taken_first (segments file) reserves) sites choices m j (built_are_entries low file starts S)
    asked (record { event = refl; can = refl }) shared h is shown o
