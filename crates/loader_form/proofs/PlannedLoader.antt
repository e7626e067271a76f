-- The loader form's file of what can be written leads to the original's entry, and that of what was planned does what the original does.
use Rattle.std.proofs.Common.{ℕ, ◌^◌, ◌<◌, ◌≤◌, List, length, refl}
use Rattle.std.specs.Prelude.{slice_index}
use Rattle.pun_base.specs.Memory.{Bytes}
use Rattle.insn_form.specs.Machine.{Machine}
use Rattle.page_group.specs.Grouping.{GroupsState}
use Rattle.elf_read.specs.Entries.{entry_of}
use Rattle.elf_read.specs.Image.{image_of}
use Rattle.elf_emit.specs.Laws.{bare_image}
use Rattle.elf_emit.specs.Frames as frames
use Rattle.elf_emit.proofs.OriginalFacts.{field_bound}
use Rattle.image_runs.specs.Quiet.{IsStartPair}
use Rattle.sound_images.specs.Soundness as soundness
use Rattle.sound_images.specs.Soundness.{rewriting_of}
use Rattle.site_turns.specs.PlannedState.{PlannedState}
use Rattle.site_turns.specs.Planning.{Request}
use Rattle.site_turns.specs.PlanLaws.{IsAsked, AreGroups, CanBeWritten, job_for, shown_case}
use Rattle.site_turns.proofs.PlannedJobs.{planned_can_be_written, writing_is_job}
use Rattle.loader_form.specs.LoaderState.{LoaderState}
use Rattle.loader_form.specs.Laid.{loader_frame}
use Rattle.loader_form.specs.Lay.{taken_after, run_count, IsLoader, laid_of}
use Rattle.loader_form.specs.Starting.{IsLaidStart}
use Rattle.loader_form.specs.Continuing.{GoesOn}
use Rattle.loader_form.specs.Parting.{LeadsOn}
use Rattle.loader_form.specs.Planned.{PlannedLoaderIsFollowed}
use Rattle.loader_form.proofs.LaidPages.{laid_for}
use Rattle.loader_form.proofs.MappedPages.{mapped_is_shown_well}
use Rattle.loader_form.proofs.MemoryAtEntry.{goes_on}
use Rattle.loader_form.proofs.MemoryParts.{loader_form_leads, leads_with}

-- the field of the entry point has eight bytes
pub low_entry : (file : List ℕ) → ((k : ℕ) → slice_index file k < 256) → entry_of file < 2 ^ 64
unfolding entry_of
low_entry file h = field_bound 8 24 file h

-- what can be written and was laid leads to a start pair of the original and the image of its job without a table
pub written_leads : (q : Request) (p : PlannedState) (groups : GroupsState) (l : LoaderState) → IsAsked q → CanBeWritten q p → AreGroups p groups
    → length q.file < 2 ^ 63 → IsLoader (taken_after q.file q.reserves p) (run_count groups) l
    → frames.count (loader_frame (job_for q p groups) (laid_of l)) ≤ 1024
    → (further : Bytes) (s : Machine) → IsLaidStart (job_for q p groups) (laid_of l) further s
    → LeadsOn (job_for q p groups) (laid_of l) (run_count groups) (image_of q.file)
    (IsStartPair (image_of q.file) (bare_image (job_for q p groups)) (entry_of q.file)) s
written_leads q p groups l a can G size lay few further s st =
    loader_form_leads (job_for q p groups) (laid_of l) further s (writing_is_job q p groups a can G size) (laid_for q p groups l G lay) few
    (low_entry q.file a.bytes) st

-- the loader form's file of what was planned and laid does what the original does
pub planned_loader_followed : PlannedLoaderIsFollowed
unfolding soundness.IsCaseFollowed
planned_loader_followed q t p groups l a act h G size lay few =
    let j = job_for q p groups in
    let r = rewriting_of (shown_case q t p groups (bare_image j)) in
    let w = mapped_is_shown_well q t p groups a act h G size in
    record {
      shown = w;
      leads = λ further s st.
          leads_with j (laid_of l) (run_count groups) (image_of q.file) (IsStartPair (image_of q.file) (bare_image j) (entry_of q.file)) (GoesOn r) s
          (goes_on r (bare_image j) (entry_of q.file) refl refl w.followed.1)
          (written_leads q p groups l a (planned_can_be_written q t p a h) G size lay few further s st);
    }
