-- What is planned for threads can be built and written, and its file is sound for threads.
use Rattle.std.proofs.Common.{◌≡◌, ℕ, ◌+◌, ◌≤◌, true, List, [], ◌∷◌, map, length, Option, Some, None, refl, sym, ap, ap₂, ◌∙◌, subst}
use Rattle.std.specs.Prelude.{Contains}
use Rattle.std.specs.Option.{is_some}
use Rattle.std.specs.List.{AllByRecursion, flat_map}
use Rattle.std.proofs.lemmas.Bool.{false≢true}
use Rattle.pun_base.specs.Memory.{Bytes}
use Rattle.pun_base.specs.Actions.{IsAction}
use Rattle.pun_base.specs.declared.range.Range.{Range}
use Rattle.pun_base.specs.Limits.{most_sites}
use Rattle.cpu_state.specs.Bytes.{Stands}
use Rattle.length_decode.specs.Spelling.{Fields, spelling}
use Rattle.page_group.specs.Grouping.{GroupsState}
use Rattle.elf_read.specs.Image.{image_of}
use Rattle.address_space.specs.declared.extent.Extent.{Extent}
use Rattle.elf_emit.specs.declared.built.Built.{Built}
use Rattle.elf_emit.specs.Job.{Job}
use Rattle.elf_emit.specs.Laws.{IsJob, Shows}
use Rattle.elf_emit.specs.Views as views
use Rattle.patch_report.specs.declared.row.ReportRow.{ReportRow}
use Rattle.patch_report.specs.Values.{RowValue}
use Rattle.patch_report.proofs.ListPlaces.{In, all_in, all_from, in_map, contains_at}
use Rattle.start_entries.specs.declared.entry.StartEntry.{StartEntry}
use Rattle.start_entries.specs.Finding.{entry_at}
use Rattle.start_entries.specs.Standing.{AreEntries}
use Rattle.sound_images.specs.Reports.{Line, row_lines, runs_of}
use Rattle.sound_images.specs.Rules.{displaced_from}
use Rattle.sound_images.proofs.ReadInstructions.{found_address}
use Rattle.site_turns.specs.Folded.{code_size, done_by}
use Rattle.site_turns.specs.Jobs.{patch_of}
use Rattle.site_turns.specs.Modes.{thread_rules, IsShared}
use Rattle.site_turns.specs.PlannedState.{PlannedState}
use Rattle.site_turns.specs.Planning.{Request, Turns, lines_of, AreCodesBy, IsTurned, scene_under, end_under, taken_at_first}
use Rattle.site_turns.specs.PlanLaws.{IsAsked, CanBeWritten, job_for, writes_of}
use Rattle.site_turns.specs.States.{Scene}
use Rattle.site_turns.proofs.RequestScene.{entries_are}
use Rattle.site_turns.proofs.CodeAddresses.{AreSized}
use Rattle.site_turns.proofs.PlannedCodes.{piece_at}
use Rattle.site_turns.proofs.PlannedJobs.{runs_are, can_be_written}
use Rattle.site_turns.proofs.PlannedEvents.{IsReady, all_ready}
use Rattle.site_turns.proofs.PlannedFiles.{patches_are}
use Rattle.site_turns.proofs.CodeEnds.{IsFitting, fits_under}
use Rattle.site_turns.proofs.PlansWithOneJump.{entry_listed}
use Rattle.site_turns.proofs.LoadedJobs.{five_lead}
use Rattle.site_turns.proofs.CodeSizes.{one_standing}
use Rattle.guest_threads.specs.declared.planning.ThreadSetting.{ThreadSetting}
use Rattle.guest_threads.specs.FromTurns.{IsForThreads, code_of_line, IsThreadLine, OfCode, IsThreadJobOf, IsThreaded}
use Rattle.guest_threads.specs.ThreadPlanning.{HasThreadCode, IsThreadPlanned, IsThreadSetting, CanBuildThread}
use Rattle.guest_threads.proofs.LineSize.{Known, instruction, size_is}
use Rattle.guest_threads.proofs.LoadedThreadFiles.{shown_is_threaded}
use Rattle.guest_threads.proofs.LinesAfterTurns.{turns_for_threads}

-- pieces have the sizes of their lines
sizes_of : (g : Scene) (C : Line → List ℕ → Type 0) (ls : List Line) (bs : List Built)
    → AllByRecursion (λ l. (code : List ℕ) → C l code → code_size g l ≡ Some (length code)) ls → AreCodesBy C ls bs → AreSized g ls bs
sizes_of g C [] [] f h = tt
sizes_of g C [] (b ∷ bs) f h = absurd h
sizes_of g C (l ∷ ls) [] f h = absurd h
sizes_of g C (l ∷ ls) (b ∷ bs) f h = (h.0, f.0 b.code.bytes h.1, sizes_of g C ls bs f.1 h.3)

-- an entry of which something is displaced
entry_there : (o : Option StartEntry) → is_some (displaced_from o) ≡ true → (e : StartEntry) × (o ≡ Some e)
entry_there None h = absurd (false≢true h)
entry_there (Some e) h = (e, refl)

module _ (q : Request) (t : Turns) (range : Range) (told : List ReportRow) (A : AreEntries (image_of q.file) q.listed) (few : length q.sites ≤ most_sites)
    (h : IsTurned (thread_rules q.action) q t range told) where
  abbrev g : Scene
  g = scene_under (thread_rules q.action) q t

  abbrev ls : List Line
  ls = (done_by (end_under (thread_rules q.action) q t)).lines

  -- the scene is one for threads
  for_threads : IsForThreads g
  for_threads = record { event = refl; can = refl }

  -- one jump or two lead to each line's place
  jumps : AllByRecursion (IsThreadLine g (end_under (thread_rules q.action) q t)) ls
  jumps = (turns_for_threads g t.entries t.choices A for_threads h.turns.turns.sites h.turns.turns.turns).0

  -- each line has a code that can be made
  ready : AllByRecursion (IsReady g) ls
  ready = all_ready (thread_rules q.action) five_lead q t A few h.turns

  -- the code of each line can be made
  pub can_build : (s : ThreadSetting) → s.starts.now ≡ q.listed → IsThreadSetting s → AllByRecursion (CanBuildThread s) (lines_of told)
  can_build s es set =
      subst (λ (rows : List RowValue). AllByRecursion (CanBuildThread s) (flat_map row_lines rows)) (sym h.rows)
      (all_from (CanBuildThread s) ls (λ l i.
      let r : IsReady g l = all_in (IsReady g) ls l ready i in
      let e = entry_there (entry_at q.listed l.tramp.start) r.displaced in
      let one : IsThreadLine g (end_under (thread_rules q.action) q t) l = all_in (IsThreadLine g (end_under (thread_rules q.action) q t)) ls l jumps i in
      record {
        set = set;
        number = r.number;
        listed = ap (λ (xs : List StartEntry). is_some (entry_at xs l.tramp.start)) es ∙ ap is_some e.1;
        can = λ x at. one.moves x (ap (λ (xs : List StartEntry). entry_at xs l.tramp.start) (sym es) ∙ at);
        place = r.low;
      }))

  -- the code of a line is that of the instruction that is known there, and has the size that the turn took
  module _ (l : Line) (i : In ls l) (code : List ℕ) (k : HasThreadCode q.action (image_of q.file) range.lo l code) where
    record There : Type 0 where
      entry : StartEntry
      at : entry_at q.listed l.tramp.start ≡ Some entry

    -- the line's start has an entry
    there : There
    there = let e = entry_there (entry_at q.listed l.tramp.start) (all_in (IsReady g) ls l ready i).displaced in record { entry = e.0; at = e.1 }

    -- the instruction at the line's start is known
    known : Known g (end_under (thread_rules q.action) q t) A for_threads jumps l i there.entry there.at (entry_listed q.listed l.tramp.start there.entry there.at)
        (found_address q.listed l.tramp.start there.entry there.at)
    known = instruction g (end_under (thread_rules q.action) q t) A for_threads jumps l i there.entry there.at (entry_listed q.listed l.tramp.start there.entry there.at)
        (found_address q.listed l.tramp.start there.entry there.at)

    -- the code's fields are those of the instruction at the line's start
    same : k.fields ≡ known.fields
    same = one_standing (image_of q.file) l.tramp.start k.fields known.fields k.spelled known.spelled k.stands
        (subst (λ (z : ℕ). Stands (image_of q.file) z (spelling known.fields)) (found_address q.listed l.tramp.start there.entry there.at) known.stands)

    -- the code is that of the trampoline
    is_known : code ≡ code_of_line q.action t.private.lo l known.fields (there.entry.addr + there.entry.len)
    is_known =
        let lo : range.lo ≡ t.private.lo = ap (λ (e : Extent). e.lo) h.private in
        let next : l.tramp.start + length (spelling k.fields) ≡ there.entry.addr + there.entry.len =
        ap₂ (λ x y. x + y) (sym (found_address q.listed l.tramp.start there.entry there.at)) (ap (λ (f : Fields). length (spelling f)) same ∙ known.len) in
        k.is ∙ (λ j. code_of_line q.action (lo j) l (same j) (next j))

    -- the code of a line has as many bytes as its turn took
    pub line_sized : code_size g l ≡ Some (length code)
    line_sized =
        size_is g (end_under (thread_rules q.action) q t) A for_threads jumps l i there.entry there.at (entry_listed q.listed l.tramp.start there.entry there.at)
        (found_address q.listed l.tramp.start there.entry there.at) known
        ∙ ap (λ (z : List ℕ). Some (length z)) (sym is_known)

  -- codes that are built for the lines have the sizes that their turns took
  pub sized : (bs : List Built) → AreCodesBy (HasThreadCode q.action (image_of q.file) range.lo) (lines_of told) bs → AreSized g ls bs
  sized bs c =
      sizes_of g (HasThreadCode q.action (image_of q.file) range.lo) ls bs
      (all_from (λ l. (code : List ℕ) → HasThreadCode q.action (image_of q.file) range.lo l code → code_size g l ≡ Some (length code)) ls line_sized)
      (subst (λ (rows : List RowValue). AreCodesBy (HasThreadCode q.action (image_of q.file) range.lo) (flat_map row_lines rows) bs) h.rows c)

module _ (q : Request) (t : Turns) (p : PlannedState) (a : IsAsked q) (h : IsThreadPlanned q t p) where
  abbrev gp : Scene
  gp = scene_under (thread_rules q.action) q t

  abbrev lines : List Line
  lines = (done_by (end_under (thread_rules q.action) q t)).lines

  -- each code has as many bytes as its turn took for it
  sizes : AreSized gp lines p.built
  sizes = sized q t p.private p.rows (entries_are q a) a.few h.turned p.built h.built

  -- what was planned can be written
  pub writable : CanBeWritten q p
  writable = can_be_written (thread_rules q.action) five_lead q t p a h.turned sizes

  -- each code that was built has bytes, and ends among a program's addresses
  pub fitting : AllByRecursion IsFitting p.built
  fitting = fits_under (thread_rules q.action) five_lead q t a h.turned.turns p.built sizes

  module _ (groups : GroupsState) where
    abbrev j : Job
    j = job_for q p groups

    -- a line's code is one of the pieces
    piece_in : (l : Line) → In lines l → OfCode gp (λ place code. Contains j.pieces (record { addr = place; now = code })) l
    piece_in l i f next is stands n =
        let C = HasThreadCode q.action (image_of q.file) p.private.lo in
        let x = piece_at C lines p.built
        (subst (λ (rows : List RowValue). AreCodesBy C (flat_map row_lines rows) p.built) h.turned.rows h.built) l i in
        let w = in_map views.piece_of p.built x.built x.in_list in
        let c = x.code in
        let same : c.fields ≡ f = one_standing (image_of q.file) l.tramp.start c.fields f c.spelled is c.stands stands in
        let lo : p.private.lo ≡ t.private.lo = ap (λ (e : Extent). e.lo) h.turned.private in
        let ends : l.tramp.start + length (spelling c.fields) ≡ next = ap (λ (z : Fields). l.tramp.start + length (spelling z)) same ∙ sym n in
        let code : x.built.code.bytes ≡ code_of_line q.action t.private.lo l f next =
        c.is ∙ (λ k. code_of_line q.action (lo k) l (same k) (ends k)) in
        let place = x.place in
        let e : views.piece_of x.built ≡ record { addr = l.tramp.place; now = code_of_line q.action t.private.lo l f next } =
        λ k. record { addr = place k; now = code k } in
        subst (Contains j.pieces) e (contains_at j.pieces w.0 (views.piece_of x.built) w.1)

    -- the job writes what the turns have done
    is_job_of : IsThreadJobOf gp (end_under (thread_rules q.action) q t) j
    is_job_of = record {
      orig = λ x. refl;
      writes = patches_are (writes_of p.rows)
          ∙ sym (ap (map patch_of) (ap (flat_map (λ (r : RowValue). runs_of r.outcome)) (sym h.turned.rows) ∙ runs_are p.rows));
      lo = ap (λ (e : Extent). e.lo) h.turned.private;
      hi = ap (λ (e : Extent). e.hi) h.turned.private;
      pieces = all_from (OfCode gp (λ place code. Contains j.pieces (record { addr = place; now = code }))) lines piece_in;
    }

    -- a memory that shows the job of what was planned is sound for threads, and followed
    pub threaded : IsAction q.action → IsShared q.action → IsJob j → (m : Bytes) → Shows j m → IsThreaded gp (end_under (thread_rules q.action) q t) m j
    threaded asked S is m shown =
        shown_is_threaded gp (taken_at_first q) t.entries t.choices m j (entries_are q a) asked (record { event = refl; can = refl }) S h.turned.turns.turns is shown is_job_of
