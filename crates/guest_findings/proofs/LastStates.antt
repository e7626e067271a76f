-- What the last states of two runs show, of files whose memory is a text and a page of data.
use Rattle.std.proofs.Common.{◌≡◌, inr, ℕ, zero, suc, ◌+◌, ◌^◌, ◌<◌, ◌≤◌, Bool, true, false, not, ◌&&◌, ◌||◌, cond, leb, ltb, List, [], ◌∷◌, length, replicate, slice_index, Option, Some, None, refl, sym, ap, ◌∙◌, subst, arith}
use Rattle.std.specs.Option.{is_some}
use Rattle.std.specs.List.{AllByRecursion}
use Rattle.std.proofs.lemmas.Bool.{cond-true, and_parts, leb-true, ltb-true, false_from_ne_true, true≢false}
use Rattle.std.proofs.lemmas.List.Sums.{length-filter, sum_by-cons}
use Rattle.pun_base.specs.Memory.{Cell, Bytes, without, or_else}
use Rattle.cpu_state.specs.declared.script.Script.{Script}
use Rattle.cpu_state.specs.declared.script_regions.Region.{Region}
use Rattle.cpu_state.specs.declared.world.Answer.{Answer}
use Rattle.cpu_state.specs.declared.world.Entry.{Entry}
use Rattle.cpu_state.specs.Bytes.{allows}
use Rattle.cpu_state.specs.Processor.{AreWords, GiveWords}
use Rattle.elf_read.specs.Image.{image_of}
use Rattle.insn_form.specs.Machine.{Machine, view}
use Rattle.insn_form.specs.Processor.{IsProcessorState}
use Rattle.insn_form.specs.Runs.{last_of}
use Rattle.insn_form.specs.Step.{Step}
use Rattle.patch_report.specs.Values.{ReportValue}
use Rattle.patch_report.proofs.ReportBounds.{bounded, told as told_by}
use Rattle.patch_report.proofs.ListPlaces.{found, contains_at}
use Rattle.start_entries.specs.declared.entry.StartEntry.{StartEntry}
use Rattle.start_entries.specs.Entries.{entries_of}
use Rattle.start_entries.specs.Standing.{AreEntries}
use Rattle.cpu_step.specs.declared.stop.Stop.{Stop}
use Rattle.image_runs.specs.Listed.{is_start, is_listed_byte}
use Rattle.image_runs.specs.Quiet.{IsQuiet, IsStartPair}
use Rattle.image_step.specs.Running.{Ends}
use Rattle.image_runs.specs.Starting.{start_machine, regions_memory}
use Rattle.sound_images.specs.Rewriting.{Rewriting, shown}
use Rattle.sound_images.specs.Soundness.{rewriting_of}
use Rattle.sound_images.proofs.SoundFacts.{holds}
use Rattle.sound_images.proofs.HeadlineRuns.{known_start}
use Rattle.sound_images.proofs.PlainItems.{headline_case}
use Rattle.sound_images.proofs.RelatedStates.{hidden_at, allowed_some}
use Rattle.sound_images.proofs.StartPairs.{started}
use Rattle.guest_gen.specs.Instructions.{data_start}
use Rattle.guest_gen.specs.Worlds.{IsGuestScript, SetsNothing, start_regs}
use Rattle.rewrite_core.specs.Followed.{IsFollowed, case_for}
use Rattle.rewrite_core.proofs.HeadlineMoments.{said}
use Rattle.guest_findings.specs.Findings.{outside_count, RunsUntil, most_guest_steps, most_patched_steps}
use Rattle.guest_findings.specs.SeenAlike.{SeenAlike}
use Rattle.guest_findings.specs.Tallies.{Tally, IsTally}
use Rattle.guest_findings.proofs.GuestCells.{CellAt, loads_alike, run_keeps, same_cell}
use Rattle.guest_findings.proofs.GuestWorlds.{world_by_length}
use Rattle.guest_findings.proofs.RunFronts.{one_until}

-- ---- a script's state is a processor's

-- numbers of 64 bits, at each place of a list of them
small_at : (xs : List ℕ) → AllByRecursion (λ v. v < 2 ^ 64) xs → (k : ℕ) → slice_index xs k < 2 ^ 64
small_at [] h k = omega arith
small_at (x ∷ xs) h zero = h.0
small_at (x ∷ xs) h (suc k) = small_at xs h.1 k

-- the registers of a guest
start_small : AllByRecursion (λ v. v < 2 ^ 64) start_regs
start_small = omega arith

-- nothing is a number of 64 bits
no_words : (n : ℕ) → AreWords (replicate n None)
no_words zero = tt
no_words (suc n) = (tt, no_words n)

-- entries that set nothing
nothing_given : (es : List Entry) → AllByRecursion SetsNothing es → GiveWords es
nothing_given [] h = tt
nothing_given (e ∷ es) h = (subst (λ (a : Answer). AreWords a.regs) (sym h.0) (no_words 16), nothing_given es h.1)

-- ---- listed bytes

-- a listed byte of an image can't be written
listed_fixed : (m : Bytes) (es : List StartEntry) (x : ℕ) → AreEntries m es → is_listed_byte es x ≡ true → allows 2 (m x) ≡ false
listed_fixed m es x a h =
    let q = found (λ (e : StartEntry). leb e.addr x && ltb x (e.addr + e.len)) es h in
    let k = and_parts (leb q.is.addr x) (ltb x (q.is.addr + q.is.len)) q.passes in
    ((a.each q.is (contains_at es q.place q.is q.at)).executed x (leb-true q.is.addr x k.0) (ltb-true x (q.is.addr + q.is.len) k.1)).1

-- ---- views

-- what a view shows of one address
shown_by : (b : Bool) (o q : Option Cell) → (b ≡ false → o ≡ q) → cond b None o ≡ cond b None q
shown_by true o q h = refl
shown_by false o q h = h refl

-- and what is shown
seen_by : (b : Bool) (o q : Option Cell) → b ≡ false → cond b None o ≡ cond b None q → o ≡ q
seen_by true o q e h = absurd (true≢false e)
seen_by false o q e h = h

-- two states are one view where their parts and the bytes that are shown are equal
one_view : (set : ℕ → Bool) (u s : Machine) → u.core ≡ s.core → u.rip ≡ s.rip → u.world ≡ s.world
    → ((x : ℕ) → set x ≡ false → u.mem x ≡ s.mem x) → view set u ≡ view set s
one_view set u s c r w m =
    let bytes : without set u.mem ≡ without set s.mem = λ i x. shown_by (set x) (u.mem x) (s.mem x) (m x) i in
    λ i. record { core = c i; rip = r i; mem = bytes i; world = w i }

-- a byte that is shown is the same in states of one view
one_byte : (set : ℕ → Bool) (u s : Machine) (x : ℕ) → view set u ≡ view set s → set x ≡ false → u.mem x ≡ s.mem x
one_byte set u s x e h = seen_by (set x) (u.mem x) (s.mem x) h (ap (λ (z : Machine). z.mem x) e)

-- ---- quiet runs

-- each state of a quiet run is outside
quiet_count : (listed : List StartEntry) (s : Machine) (ts : List Machine) → IsQuiet Step listed s ts
    → outside_count listed (s ∷ ts) ≡ length ts + 1
quiet_count listed s [] q = omega (
  arith,
  sum_by-cons (λ (u : Machine). cond (is_start listed u.rip) 1 0) s [],
  cond-true {A = ℕ} (is_start listed s.rip) 1 0 q,
)
quiet_count listed s (t ∷ ts) q = omega (
  arith,
  sum_by-cons (λ (u : Machine). cond (is_start listed u.rip) 1 0) s (t ∷ ts),
  cond-true {A = ℕ} (is_start listed s.rip) 1 0 (known_start listed s.rip q.0.0),
  quiet_count listed t ts q.1,
)

-- a run of at most so many steps
ends_few : (stop : Option Stop) (m : Machine) (made n : ℕ) → Ends stop m made n → made ≤ n
ends_few None m made n h = omega arith
ends_few (Some stop) m made n h = let l = h.0 in omega arith

-- ---- two files

-- a file and its patched file, with what their memory is at the start, and a script without regions or answers
pub record ArePaired (file starts out : List ℕ) (report : ReportValue) (script : Script) : Type 0 where
  pub entries : AreEntries (image_of file) (entries_of file starts)
  pub followed : IsFollowed file starts out report
  pub is_script : IsGuestScript script
  pub nothing : AllByRecursion SetsNothing script.world.entries
  pub cells : (x : ℕ) → CellAt x (image_of file x)
  pub page : (x : ℕ) → data_start ≤ x → x < data_start + 0x1000 → (allows 4 (image_of file x) ≡ true) × (allows 2 (image_of file x) ≡ true)

-- nothing behind it
or_nothing : (o q : Option Cell) → q ≡ None → or_else o q ≡ o
or_nothing None q e = e
or_nothing (Some c) q e = refl

module _ (file starts out : List ℕ) (report : ReportValue) (script : Script) (p : ArePaired file starts out report script) where
  -- what was rewritten, and the two states at the start
  abbrev R : Rewriting
  R = rewriting_of (case_for file starts out report)

  abbrev A : Machine
  A = start_machine file script

  abbrev B : Machine
  B = start_machine out script

  -- no region
  no_region : (x : ℕ) → regions_memory script.regions x ≡ None
  no_region x = ap (λ (rs : List Region). regions_memory rs x) p.is_script.regions

  -- so the memory is the image
  loaded_is : (x : ℕ) → A.mem x ≡ image_of file x
  loaded_is x = or_nothing (image_of file x) (regions_memory script.regions x) (no_region x)

  -- the original's is the state of a processor
  sized : IsProcessorState A
  sized = record {
    core = record {
      count = ap (λ (z : List ℕ). length z) p.is_script.regs;
      small = λ k. subst (λ (z : List ℕ). slice_index z k < 2 ^ 64) (sym p.is_script.regs) (small_at start_regs start_small k);
    };
    world = nothing_given script.world.entries p.nothing;
  }

  -- they are a start pair
  pair : IsStartPair R.original R.patched R.entry A B
  pair = record {
    sized = sized;
    core = refl;
    world = refl;
    original_at = refl;
    patched_at = p.followed.entry;
    further = regions_memory script.regions;
    apart = λ x. inr (no_region x);
    original = refl;
    patched = refl;
  }

  -- so they look alike
  alike : view (hidden_at R) B ≡ view (hidden_at R) A
  alike =
      let bounds = bounded report.body (told_by report p.followed.told) in
      (started (case_for file starts out report) bounds
      (holds (case_for file starts out report) p.entries bounds p.followed.sound) A B pair).seen

  -- a byte of the page of data is shown
  data_shown : (x : ℕ) → data_start ≤ x → x < data_start + 0x1000 → hidden_at R x ≡ false
  data_shown x low high =
      let held = p.page x low high in
      let old : is_some (image_of file x) ≡ true = allowed_some 4 (image_of file x) held.0 in
      let unlisted : is_listed_byte R.listed x ≡ false = false_from_ne_true (is_listed_byte R.listed x)
      (λ h. true≢false (sym held.1 ∙ listed_fixed (image_of file) (entries_of file starts) x p.entries h)) in
      neither (is_listed_byte R.listed x) (is_some (image_of out x)) (is_some (image_of file x)) unlisted old
    where
      neither : (l n o : Bool) → l ≡ false → o ≡ true → (l || (n && not o)) ≡ false
      neither true n o e f = absurd (true≢false e)
      neither false n false e f = absurd (true≢false (sym f))
      neither false true true e f = refl
      neither false false true e f = refl

  module _ (original : Tally) (states : List Machine) (t : IsTally file starts script most_guest_steps original)
      (u : RunsUntil (entries_of file starts) original.outside most_patched_steps B states) where
    -- the last state of the original, of its run
    abbrev S : Machine
    S = last_of A t.states

    -- and of the patched file
    abbrev U : Machine
    U = last_of B states

    -- states alike show the same
    alike_seen : SeenAlike U S → shown R U ≡ shown R S
    alike_seen h = one_view (hidden_at R) U S h.core h.rip
        (world_by_length B A states t.states refl u.run t.run h.left)
        (λ x e. same_cell x A.mem B.mem S.mem U.mem (subst (λ (o : Option Cell). CellAt x o) (sym (loaded_is x)) (p.cells x))
        (one_byte (hidden_at R) B A x alike e) (run_keeps A t.states t.run) (run_keeps B states u.run) (h.page x))

    -- and what shows the same is alike
    seen_alike : shown R U ≡ shown R S → SeenAlike U S
    seen_alike e = record {
      core = ap (λ (z : Machine). z.core) e;
      rip = ap (λ (z : Machine). z.rip) e;
      left = ap (λ (z : Machine). length z.world) e;
      page = λ x low high. loads_alike U.mem S.mem x (one_byte (hidden_at R) U S x e (data_shown x low high));
    }

    -- after a quiet run they show the same
    quiet_seen : original.quiet ≡ true → shown R U ≡ shown R S
    quiet_seen h =
        let quiet = t.quiet.0 h in
        let run = headline_case R p.followed.headline A B pair t.states quiet in
        let us = run.0 in
        let follows = run.1 in
        let told = said R A t.states B us follows.ends_outside follows.same in
        let few : length t.states ≤ most_guest_steps = subst (λ (n : ℕ). n ≤ most_guest_steps) t.steps
        (ends_few original.stop original.last original.steps most_guest_steps t.ends) in
        let short : length us ≤ most_patched_steps = let b = follows.bounded in omega arith in
        let many : outside_count (entries_of file starts) (B ∷ us) ≡ original.outside =
        sym (length-filter (λ (z : Machine). is_start (entries_of file starts) z.rip) (B ∷ us)) ∙ told.as_many
        ∙ sym (quiet_count (entries_of file starts) A t.states quiet) ∙ sym t.outside in
        let same : states ≡ us = one_until (entries_of file starts) original.outside most_patched_steps B states us u follows.run short
        follows.ends_outside many in
        ap (λ (zs : List Machine). shown R (last_of B zs)) same ∙ told.ends_alike

    -- where the patched run's last state is seen to be like the tally's, it shows the same
    pub alike_last : SeenAlike U original.last → shown R U ≡ shown R original.last
    alike_last h = subst (λ (z : Machine). SeenAlike U z → shown R U ≡ shown R z) (sym t.last) alike_seen h

    -- where the patched run's last state shows the same as the tally's, it is seen to be like it
    pub last_alike : shown R U ≡ shown R original.last → SeenAlike U original.last
    last_alike e = subst (λ (z : Machine). shown R U ≡ shown R z → SeenAlike U z) (sym t.last) seen_alike e

    -- after a quiet run both show the same
    pub quiet_last : original.quiet ≡ true → shown R U ≡ shown R original.last
    quiet_last h = quiet_seen h ∙ sym (ap (shown R) t.last)
