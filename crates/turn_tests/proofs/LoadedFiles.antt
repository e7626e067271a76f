-- What a test's file and its plan give: code that lies low and apart, and a file of the loader form whose stub starts.
use Rattle.std.proofs.Common.{◌≡◌, inr, ℕ, ◌^◌, ◌<◌, ◌≤◌, List, [], ◌∷◌, length, map, Option, Some, None, Result, Ok, refl, sym, ap, ◌∙◌, subst}
use Rattle.std.specs.Prelude.{slice_index, unwrap_or}
use Rattle.std.specs.List.{AllByRecursion}
use Rattle.pun_base.specs.declared.action.Action.TheVariants.{Cover}
use Rattle.pun_base.specs.declared.range.Range.{Range}
use Rattle.pun_base.specs.Memory.{Bytes, joined}
use Rattle.pun_base.specs.Shown.{Files, DeskState, Told}
use Rattle.pun_base.specs.Desk.{Filled}
use Rattle.cpu_state.specs.declared.state.State.{State}
use Rattle.cpu_state.specs.Parts.{core_of}
use Rattle.cpu_state.specs.Processor.{IsProcessorCore}
use Rattle.cpu_state.specs.Regions.{cell_at}
use Rattle.cpu_step.specs.Stepping.{machine_of}
use Rattle.elf_read.specs.Entries.{entry_of}
use Rattle.elf_read.specs.Image.{image_of}
use Rattle.image_runs.specs.Starting.{regions_memory}
use Rattle.elf_read.specs.Refusals.{refusal}
use Rattle.page_group.specs.Pages.{AreDisjoint}
use Rattle.page_group.specs.Grouping.{GroupsState, IsGrouping}
use Rattle.elf_emit.specs.Emits.{EmitsFrame, range_of}
use Rattle.start_entries.specs.declared.entry.StartEntry.{StartEntry}
use Rattle.start_entries.specs.Laws.{IsBuilt}
use Rattle.site_turns.specs.PlannedState.{EndsLow, PlannedState}
use Rattle.site_turns.specs.Planning.{Request, Turns, IsPlanned}
use Rattle.site_turns.specs.PlanLaws.{IsAsked, job_for}
use Rattle.site_turns.proofs.PlannedJobs.{planned_can_be_written, planned_is_job}
use Rattle.loader_form.specs.LoaderState.{LoaderState}
use Rattle.loader_form.specs.declared.error.LoadError.{LoadError}
use Rattle.loader_form.specs.Laid.{loader_frame, file_of}
use Rattle.loader_form.specs.Lay.{taken_after, run_count, IsLoader, laid_of}
use Rattle.loader_form.specs.Loading.{load_job, IsLoading}
use Rattle.loader_form.specs.Answers.{IsStubStart}
use Rattle.loader_form.proofs.LaidPages.{planned_ends_low, laid_for}
use Rattle.turn_tests.specs.LoaderFiles.{IsWritten, Writes}

-- what is asked by the values of a call
abbrev pub request : List ℕ → List StartEntry → List ℕ → List Range → Request
request bytes es sites reserves = record { file = bytes; listed = es; sites = sites; action = Cover; reserves = reserves }

module _ (bytes file : List ℕ) (es : List StartEntry) (sites : List ℕ) (reserves : List Range) (p : PlannedState) (same : bytes ≡ file) (small : (k : ℕ) → slice_index file k < 256)
    (accepted : refusal 0x20000 file ≡ None) (built : IsBuilt bytes es) (few : length sites ≤ 65536) (x : (t : Turns) × IsPlanned (request bytes es sites reserves) t p) where
  asked : IsAsked (request bytes es sites reserves)
  asked = record {
    bytes = subst (λ (z : List ℕ). (k : ℕ) → slice_index z k < 256) (sym same) small;
    accepted = subst (λ (z : List ℕ). refusal 0x20000 z ≡ None) (sym same) accepted;
    built = built;
    few = few;
  }

  -- each code that was planned has bytes, and ends among addresses of 32 bits
  pub codes_end_low : AllByRecursion EndsLow p.built
  codes_end_low = planned_ends_low (request bytes es sites reserves) x.0 p asked x.1

  -- no two codes that were planned meet
  pub codes_apart : AreDisjoint (map range_of p.built)
  codes_apart = (planned_can_be_written (request bytes es sites reserves) x.0 p asked x.1).disjoint

  -- a stub that is laid for the groups of that code is what `emit_loader` asks
  pub is_loading : (groups : GroupsState) (l : LoaderState) → groups.pieces ≡ map range_of p.built → IsGrouping groups.pieces groups.homes
      → IsLoader (taken_after bytes reserves p) (run_count groups) l → IsLoading bytes p groups l (request bytes es sites reserves)
  is_loading groups l e g i = record { file_is = refl; asked = asked; can = planned_can_be_written (request bytes es sites reserves) x.0 p asked x.1; groups_are = (e, g); laid = i }

  -- what was written is a file of the loader form
  pub is_written : (groups : GroupsState) (l : LoaderState) (stub : Range) (s t : DeskState) → groups.pieces ≡ map range_of p.built
      → IsGrouping groups.pieces groups.homes → IsLoader (taken_after bytes reserves p) (run_count groups) l → length bytes < 2 ^ 63 → stub ≡ l.stub
      → EmitsFrame (loader_frame (load_job bytes p groups) (laid_of l)) (0x4F ∷ []) s t (Ok tt) → IsWritten file stub s t
  is_written groups l stub s t e g i size at h =
      let q = request bytes es sites reserves in
      record {
        job = job_for q p groups;
        laid = laid_of l;
        is_job = planned_is_job q x.0 p groups asked x.1 (e, g) size;
        is_laid = laid_for q p groups l (e, g) i;
        few = h.0;
        original = same;
        at = sym (ap (λ (z : Range). z.lo) at);
        fills = h.1;
      }

-- a state with the image of such a file is one in which its stub starts
pub starts : (file bytes read : List ℕ) (found : Result (Range × Range) LoadError) (places : Range × Range) (s t : DeskState)
    (old new : Files) (entry : ℕ) (x : State) → Writes file s t (Some found) → found ≡ Ok places → s.held ≡ Some old → t.held ≡ Some new
    → Some read ≡ new (0x4F ∷ []) → bytes ≡ read → entry ≡ entry_of file → IsProcessorCore (core_of x) → x.rip ≡ entry_of bytes → cell_at x.mem ≡ joined (image_of bytes) (regions_memory [])
    → IsStubStart bytes entry (machine_of x [])
starts file bytes read found places s t old new entry x h is had has held is_read is_entry core rip memory =
    let O : List ℕ = 0x4F ∷ [] in
    let w : IsWritten file places.0 s t = subst (λ (r : Result (Range × Range) LoadError). Writes file s t (Some r)) is h in
    let F : List ℕ = file_of w.job w.laid in
    let filled : Told (Filled O F (Ok tt)) (Some old) (Some new) =
    subst (λ (o : Option Files). Told (Filled O F (Ok tt)) o (Some new)) had
    (subst (λ (o : Option Files). Told (Filled O F (Ok tt)) s.held o) has w.fills.held) in
    let holds : new O ≡ Some F = ap (λ (f : Files). f O) filled in
    let same : bytes ≡ F = is_read ∙ ap (λ (o : Option (List ℕ)). unwrap_or o []) (held ∙ holds) in
    record {
      job = w.job;
      laid = w.laid;
      further = regions_memory [];
      is_job = w.is_job;
      is_laid = w.is_laid;
      few = w.few;
      file_is = same;
      entry_is = is_entry ∙ sym (ap entry_of w.original);
      start = record {
        processor = record { core = core; world = tt };
        there = rip ∙ ap entry_of same;
        memory = λ a. ap (λ (m : Bytes). m a) memory ∙ ap (λ (z : List ℕ). joined (image_of z) (regions_memory []) a) same;
        apart = λ a. inr refl;
        pages = λ a h. refl;
      };
    }
