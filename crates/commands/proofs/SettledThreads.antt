-- What OUT of `threads` does where FILE was a settled one.
use Rattle.std.proofs.Common.{◌≡◌, ℕ, ◌^◌, ◌<◌, ◌≤◌, List, [], ◌∷◌, length, Option, Some, None, Ok, refl, sym, ap, ◌∙◌, subst, arith}
use Rattle.pun_base.specs.Shown.{Files, DeskState, SinkState}
use Rattle.pun_base.specs.declared.action.Action.{Action}
use Rattle.pun_base.specs.declared.action.Action.TheVariants.{Count}
use Rattle.pun_base.proofs.HeldFiles.{with_file-same}
use Rattle.elf_read.specs.Entries.{entry_of}
use Rattle.elf_read.specs.Image.{image_of}
use Rattle.site_turns.specs.PlanLaws.{IsAsked}
use Rattle.site_turns.proofs.RequestScene.{entries_are}
use Rattle.rewrite_core.specs.Asked.{Asked, IsInOrder, request_of}
use Rattle.rewrite_core.proofs.OneVerdict.{asked_of}
use Rattle.loader_form.specs.LoaderState.{LoaderState}
use Rattle.rewrite_loader.specs.Judging.{IsLaidFor, entry_count, with_loader}
use Rattle.guest_threads.specs.ThreadRewriting as guest
use Rattle.guest_threads.specs.ThreadRewriting.{ThreadJob, IsThreadJobFor, job_of, writing_of}
use Rattle.guest_threads.proofs.ThreadPlans.{writable}
use Rattle.thread_loader.specs.Followed.{ThreadLoaderJob, IsLoaderFollowedInThreads, threading_for}
use Rattle.settle.specs.Settled.{settled}
use Rattle.settle.specs.Refusals.{settle_refusal}
use Rattle.settle.specs.Laws.{IsReadable}
use Rattle.settled_threads.proofs.FollowedThreads.{settled_threads_follow}
use Rattle.settled_threads.proofs.LoadedThreads.{settled_threads_load}
use Rattle.command_io.specs.Inputs.{All, gathered}
use Rattle.command_io.specs.Writing.{Accepted, files_after, Writes}
use Rattle.command_io.specs.Verdict.{Patching, Form, patching, starts_of, sites_of, OfTexts, HoldsBytes}
use Rattle.command_io.proofs.GatheredInputs.{first_read}
use Rattle.patch_commands.specs.Answers.{TextsFollowed, form_writing}
use Rattle.patch_commands.specs.ThreadsAnswers.{ThreadPatching, threads_rewriting, threads_inputs, threads_outputs, FollowsInThreads, threads_writing, FilesFollowedInThreads, for_threads, for_threads_with_stub}
use Rattle.patch_commands.proofs.TextVerdicts.{in_order}
use Rattle.commands.specs.SettledFiles.{FollowsSettled}
use Rattle.commands.specs.SettledThreads.{of_threads, of_threads_loaded, FollowsSettledInThreads}
use Rattle.commands.proofs.PatchReversal.{first_few}
use Rattle.commands.proofs.LoadReversal.{laid_after}
use Rattle.commands.proofs.SettledRuns.{SaysOfJudged, lists_say, form_follows}

-- ---- with a report

-- each job that a settled file is judged to be, if it is followed in threads
job_says : (action : Action) (b : ℕ) (file : List ℕ) → IsReadable file → settle_refusal b file ≡ None → (a : Asked) (job : ThreadJob) → IsInOrder a
    → a.file ≡ settled b file → guest.Judges a (Ok job) → FollowsInThreads action a.file a.starts job → of_threads action b file a.file a.starts job
job_says action b file readable none a job order is judged follows s u n vs ks c =
    settled_threads_follow b file (guest.threading_for action a.file a.starts (guest.file_of job) job.private job.rows) readable none (record {
      original = ap image_of is;
      entry = ap entry_of is;
      entries = entries_are (request_of a) (asked_of a order judged.0);
      sound = follows.sound;
    }) s u n vs ks c

reported_says : (action : Action) → SaysOfJudged (for_threads action) (of_threads action)
reported_says action b file readable none a job order size is judged follows = job_says action b file readable none a job order is judged follows.followed

pub threads_follow : (action : Action) (p : Patching) → (p.names.out ≡ p.names.report → ⊥) → (s t : DeskState) (k l : SinkState) (status : ℕ)
    → Writes (form_writing (for_threads action) p) s t k l status → FollowsSettled (for_threads action) (of_threads action) p s t status
threads_follow action p apart s t k l status w = form_follows (for_threads action) (of_threads action) (reported_says action) p apart s t k l status w

-- ---- in the loader form

-- a laid job
laid_says : (action : Action) (b : ℕ) (file : List ℕ) → IsReadable file → settle_refusal b file ≡ None → (a : Asked) (j : ThreadJob) (l : LoaderState)
    → IsAsked (request_of a) → length a.file < 2 ^ 63 → a.file ≡ settled b file → IsThreadJobFor (request_of a) j → IsLaidFor a.reserves j.emit l
    → entry_count writing_of (with_loader j l) ≤ 1024 → IsLoaderFollowedInThreads action a.file a.starts (with_loader j l)
    → of_threads_loaded action b file a.file a.starts (with_loader j l)
laid_says action b file readable none a j l asked size is i laid few follows =
    let q = request_of a in
    let job : ThreadJob = job_of q i.turns i.planned i.groups in
    let lay : IsLaidFor a.reserves job.emit l = subst (λ (z : ThreadJob). IsLaidFor a.reserves z.emit l) i.is laid in
    let short : entry_count writing_of (with_loader job l) ≤ 1024 = subst (λ (z : ThreadJob). entry_count writing_of (with_loader z l) ≤ 1024) i.is few in
    let fo : IsLoaderFollowedInThreads action a.file a.starts (with_loader job l) =
    subst (λ (z : ThreadJob). IsLoaderFollowedInThreads action a.file a.starts (with_loader z l)) i.is follows in
    subst (λ (z : ThreadJob). of_threads_loaded action b file a.file a.starts (with_loader z l)) (sym i.is)
    (λ further s n vs ks st kernel.
    settled_threads_load b file (threading_for action a.file a.starts (with_loader job l)) readable none (record {
      original = ap image_of is;
      entry = ap entry_of is;
      entries = entries_are q asked;
      sound = fo.sound;
    }) q i.planned i.groups l asked (writable q i.turns i.planned asked i.is_planned) i.are_groups size
    (laid_after q i.planned i.groups l lay) short is refl further s n vs ks st kernel)

loaded_says : (action : Action) → SaysOfJudged (for_threads_with_stub action) (of_threads_loaded action)
loaded_says action b file readable none a k order size is h follows =
    let x = h.2 in
    subst (λ (z : ThreadLoaderJob). of_threads_loaded action b file a.file a.starts z) (sym x.2)
    (laid_says action b file readable none a h.0 x.0 (asked_of a order h.1.0) size is h.1.1 x.1
    (subst (λ (z : ThreadLoaderJob). entry_count writing_of z ≤ 1024) x.2 x.3)
    (subst (λ (z : ThreadLoaderJob). IsLoaderFollowedInThreads action a.file a.starts z) x.2 follows.followed))

pub loaded_threads_follow : (action : Action) (p : Patching) → (p.names.out ≡ p.names.report → ⊥) → (s t : DeskState) (k l : SinkState) (status : ℕ)
    → Writes (form_writing (for_threads_with_stub action) p) s t k l status
    → FollowsSettled (for_threads_with_stub action) (of_threads_loaded action) p s t status
loaded_threads_follow action p apart s t k l status w =
    form_follows (for_threads_with_stub action) (of_threads_loaded action) (loaded_says action) p apart s t k l status w

-- ---- without a report

-- the form that promises the same as one with a report, but for the report
abbrev counting : Form ThreadJob
counting = record {
  Judged = (for_threads Count).Judged;
  file = (for_threads Count).file;
  mode = (for_threads Count).mode;
  report = (for_threads Count).report;
  Follows = FollowsInThreads Count;
}

counting_says : SaysOfJudged counting (of_threads Count)
counting_says b file readable none a job order size is judged follows = job_says Count b file readable none a job order is judged follows

-- what it is given, with a report of no name
abbrev given : ThreadPatching → Patching
given p = patching (record { file = p.names.file; starts = p.names.starts; sites = p.names.sites; out = p.names.out; report = [] }) Count p.reserves

some_is : {x y : List ℕ} → ◌≡◌ {A = Option (List ℕ)} (Some x) (Some y) → x ≡ y
some_is q = cc

module _ (p : ThreadPatching) (b : ℕ) (file : List ℕ) (readable : IsReadable file) (none : settle_refusal b file ≡ None) where
  -- of the texts
  plain_says : (files new : Files) (texts : List (List ℕ)) (job : ThreadJob) → HoldsBytes files p.names.file
      → files p.names.file ≡ Some (settled b file) → gathered files (threads_inputs p.names) ≡ All texts → OfTexts (threads_rewriting p) texts (Accepted job)
      → TextsFollowed (FollowsInThreads Count) texts job → files_after files (threads_outputs p.names) job ≡ new
      → (w : FilesFollowedInThreads p.names files new) × (w.file ≡ settled b file) × of_threads Count b file w.file w.list w.job
  plain_says files new (out ∷ starts ∷ sites ∷ []) job bytes held e j h same =
      let n = p.names in
      let first = first_read (files n.file) _ out _ _ e in
      let second = first_read (files n.starts) _ starts _ _ first.1 in
      let few = first_few (files n.file) _ out _ _ e in
      let is : out ≡ settled b file = some_is (sym first.0 ∙ held) in
      let w : FilesFollowedInThreads n files new = record {
        file = out;
        starts = starts;
        job = job;
        held_file = first.0;
        held_starts = second.0;
        holds_out = ap (λ (z : Files). z n.out) (sym same) ∙ with_file-same files n.out (guest.file_of job);
        list = h.list;
        listed = h.listed;
        followed = h.followed;
      } in (
        w,
        is,
        lists_say counting (of_threads Count) counting_says (given p) b file readable none out h.list (starts_of starts) (sites_of sites) job (omega (arith, few)) is h.listed
            (λ ns ms rs c d. in_order Count rs out starts sites ns ms (bytes out first.0) c d) j h.followed,
      )
  plain_says files new other job bytes held e j h same = absurd h

pub plain_threads_follow : (p : ThreadPatching) → (s t : DeskState) (k l : SinkState) (status : ℕ) → Writes (threads_writing p) s t k l status
    → FollowsSettledInThreads p s t status
plain_threads_follow p s t k l status w files h new g o bytes b file readable none held =
    let x = (w.held files h).done o in
    let z = x.1.outputs in
    let q : files_after files (threads_outputs p.names) x.0 ≡ new = cc in
    plain_says p b file readable none files new x.1.texts x.0 bytes held x.1.read x.1.judged x.1.promised q
