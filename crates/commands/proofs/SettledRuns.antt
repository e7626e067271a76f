-- What OUT of `patch` and `load` does where FILE was a settled one.
use Rattle.std.proofs.Common.{◌≡◌, ℕ, ◌^◌, ◌<◌, ◌≤◌, List, [], ◌∷◌, length, Option, Some, None, Result, Ok, Err, refl, sym, ap, ◌∙◌, subst, arith}
use Rattle.pun_base.specs.Shown.{Files, DeskState, SinkState, with_file}
use Rattle.pun_base.proofs.HeldFiles.{with_file-same}
use Rattle.list_text.specs.declared.refusal.ListError.{ListError}
use Rattle.elf_read.specs.Entries.{entry_of}
use Rattle.elf_read.specs.Image.{image_of}
use Rattle.sound_images.specs.Soundness.{rewriting_of}
use Rattle.site_turns.specs.PlanLaws.{IsAsked}
use Rattle.site_turns.proofs.RequestScene.{entries_are}
use Rattle.site_turns.proofs.PlannedJobs.{planned_can_be_written}
use Rattle.rewrite_core.specs.Asked.{Asked, IsInOrder, request_of}
use Rattle.rewrite_core.specs.Judging.{Job, IsJobFor, job_of, writing_of}
use Rattle.rewrite_core.specs.Followed as core
use Rattle.rewrite_core.specs.Rewrites.{file_of}
use Rattle.rewrite_core.proofs.OneVerdict.{asked_of}
use Rattle.loader_form.specs.LoaderState.{LoaderState}
use Rattle.rewrite_loader.specs.Judging.{LoaderJob, IsLaidFor, entry_count, with_loader}
use Rattle.rewrite_loader.specs.Followed.{IsLoaderFollowed, case_for}
use Rattle.settle.specs.Settled.{settled}
use Rattle.settle.specs.Refusals.{settle_refusal}
use Rattle.settle.specs.Laws.{IsReadable}
use Rattle.settled_runs.proofs.StartedRewritings.{settled_is_started}
use Rattle.settled_runs.proofs.LoadedVectors.{settled_is_loaded}
use Rattle.command_io.specs.Inputs.{All, gathered}
use Rattle.command_io.specs.Writing.{Accepted, files_after, Writes}
use Rattle.command_io.specs.Verdict.{Patching, Form, reported_text, plain, rewriting_in, starts_of, sites_of, asked, OfLists, OfTexts, HoldsBytes}
use Rattle.command_io.proofs.NamedFiles.{with_file-other}
use Rattle.command_io.proofs.GatheredInputs.{first_read}
use Rattle.patch_commands.specs.Answers.{patch_inputs, form_outputs, TextsFollowed, form_writing, FormFollowed}
use Rattle.patch_commands.specs.LoadAnswers.{with_stub}
use Rattle.patch_commands.proofs.TextVerdicts.{in_order}
use Rattle.commands.specs.SettledFiles.{SaysOfJob, FollowsSettled, of_patch, of_load}
use Rattle.commands.proofs.PatchReversal.{first_few}
use Rattle.commands.proofs.LoadReversal.{laid_after}

-- so much is said of each job that a settled file is judged to be
abbrev pub SaysOfJudged : {J : Type 0} → Form J → SaysOfJob J → Type 0
SaysOfJudged {J = J} f Says =
    (b : ℕ) (file : List ℕ) → IsReadable file → settle_refusal b file ≡ None → (a : Asked) (job : J) → IsInOrder a → length a.file < 2 ^ 63
    → a.file ≡ settled b file → f.Judged a (Accepted job) → f.Follows a.file a.starts job → Says b file a.file a.starts job

module _ {J : Type 0} (f : Form J) (Says : SaysOfJob J) (one : SaysOfJudged f Says) (p : Patching) (b : ℕ) (file : List ℕ) (readable : IsReadable file) (none : settle_refusal b file ≡ None) where
  -- of the job of lists
  pub lists_say : (out list : List ℕ) (starts sites : Result (List ℕ) ListError) (job : J) → length out < 2 ^ 63 → out ≡ settled b file → starts ≡ Ok list
      → ((ns ms : List ℕ) (reserves : _) → starts ≡ Ok ns → sites ≡ Ok ms → IsInOrder (asked p.action reserves out ns ms))
      → OfLists (rewriting_in f p) out starts sites (Accepted job) → f.Follows out list job → Says b file out list job
  lists_say out list (Err error) sites job size is q o h w = absurd cc
  lists_say out list (Ok ns) (Err error) job size is q o h w = absurd cc
  lists_say out list (Ok ns) (Ok ms) job size is q o h w =
      let same : ns ≡ list = cc in
      subst (λ (z : List ℕ). Says b file out z job) same
      (one b file readable none (asked p.action h.0 out ns ms) job (o ns ms h.0 refl refl) size is h.2 (subst (λ (z : List ℕ). f.Follows out z job) (sym same) w))

  -- of the texts
  texts_say : (files new : Files) (texts : List (List ℕ)) (job : J) → (p.names.out ≡ p.names.report → ⊥) → HoldsBytes files p.names.file
      → files p.names.file ≡ Some (settled b file) → gathered files (patch_inputs p.names) ≡ All texts → OfTexts (rewriting_in f p) texts (Accepted job)
      → TextsFollowed f.Follows texts job → files_after files (form_outputs f p.names) job ≡ new
      → (w : FormFollowed f p.names files new) × (w.file ≡ settled b file) × Says b file w.file w.list w.job
  texts_say files new (out ∷ starts ∷ sites ∷ []) job apart bytes held e j h same =
      let first = first_read (files p.names.file) _ out _ _ e in
      let second = first_read (files p.names.starts) _ starts _ _ first.1 in
      let few = first_few (files p.names.file) _ out _ _ e in
      let is : out ≡ settled b file = some_is (sym first.0 ∙ held) in
      let w : FormFollowed f p.names files new = record {
        file = out;
        starts = starts;
        job = job;
        held_file = first.0;
        held_starts = second.0;
        holds_out =
            ap (λ (z : Files). z p.names.out) (sym same)
            ∙ (with_file-other (with_file files p.names.out (f.file job)) p.names.report p.names.out (reported_text f job) (λ q. apart (sym q))
            ∙ with_file-same files p.names.out (f.file job));
        holds_report =
            ap (λ (z : Files). z p.names.report) (sym same)
            ∙ with_file-same (with_file files p.names.out (f.file job)) p.names.report (reported_text f job);
        list = h.list;
        listed = h.listed;
        followed = h.followed;
      } in (
        w,
        is,
        lists_say out h.list (starts_of starts) (sites_of sites) job (omega (arith, few)) is h.listed
            (λ ns ms rs c d. in_order p.action rs out starts sites ns ms (bytes out first.0) c d) j h.followed,
      )
    where
      some_is : {x y : List ℕ} → ◌≡◌ {A = Option (List ℕ)} (Some x) (Some y) → x ≡ y
      some_is q = cc
  texts_say files new other job apart bytes held e j h same = absurd h

-- what a form's command that did its work wrote of a settled file
pub form_follows : {J : Type 0} → (f : Form J) (Says : SaysOfJob J) → SaysOfJudged f Says → (p : Patching) → (p.names.out ≡ p.names.report → ⊥)
    → (s t : DeskState) (k l : SinkState) (status : ℕ) → Writes (form_writing f p) s t k l status → FollowsSettled f Says p s t status
form_follows f Says one p apart s t k l status w files h new g o bytes b file readable none held =
    let x = (w.held files h).done o in
    let z = x.1.outputs in
    let q : files_after files (form_outputs f p.names) x.0 ≡ new = cc in
    texts_say f Says one p b file readable none files new x.1.texts x.0 apart bytes held x.1.read x.1.judged x.1.promised q

-- ---- `patch`

patch_says : SaysOfJudged plain of_patch
patch_says b file readable none a job order size is judged follows places s t n vs ks kernel =
    let q = request_of a in
    settled_is_started b file (rewriting_of (core.case_for a.file a.starts (file_of job) job.report)) readable none (record {
      original = ap image_of is;
      entry = ap entry_of is;
      entries = entries_are q (asked_of a order judged.0);
      places = places;
      headline = follows.headline;
    }) s t n vs ks kernel

pub patch_follows : (p : Patching) → (p.names.out ≡ p.names.report → ⊥) → (s t : DeskState) (k l : SinkState) (status : ℕ)
    → Writes (form_writing plain p) s t k l status → FollowsSettled plain of_patch p s t status
patch_follows p apart s t k l status w = form_follows plain of_patch patch_says p apart s t k l status w

-- ---- `load`

-- a laid job
laid_says : (b : ℕ) (file : List ℕ) → IsReadable file → settle_refusal b file ≡ None → (a : Asked) (j : Job) (l : LoaderState) → IsAsked (request_of a)
    → length a.file < 2 ^ 63 → a.file ≡ settled b file → IsJobFor (request_of a) j → IsLaidFor a.reserves j.emit l
    → entry_count writing_of (with_loader j l) ≤ 1024 → IsLoaderFollowed a.file a.starts (with_loader j l) j.report
    → of_load b file a.file a.starts (with_loader j l)
laid_says b file readable none a j l asked size is i laid few follows =
    let q = request_of a in
    let job : Job = job_of q i.turns i.planned i.groups in
    let lay : IsLaidFor a.reserves job.emit l = subst (λ (z : Job). IsLaidFor a.reserves z.emit l) i.is laid in
    let short : entry_count writing_of (with_loader job l) ≤ 1024 = subst (λ (z : Job). entry_count writing_of (with_loader z l) ≤ 1024) i.is few in
    let fo : IsLoaderFollowed a.file a.starts (with_loader job l) job.report =
    subst (λ (z : Job). IsLoaderFollowed a.file a.starts (with_loader z l) z.report) i.is follows in
    subst (λ (z : Job). of_load b file a.file a.starts (with_loader z l)) (sym i.is)
    (λ places further s n vs ks st kernel.
    settled_is_loaded b file (rewriting_of (case_for a.file a.starts (with_loader job l) job.report)) readable none (record {
      original = ap image_of is;
      entry = ap entry_of is;
      entries = entries_are q asked;
      places = places;
      headline = fo.headline;
    }) q i.planned i.groups l asked (planned_can_be_written q i.turns i.planned asked i.is_planned) i.are_groups size
    (laid_after q i.planned i.groups l lay) short is refl further s n vs ks st kernel)

load_says : SaysOfJudged with_stub of_load
load_says b file readable none a k order size is h follows =
    let x = h.2 in
    subst (λ (z : LoaderJob). of_load b file a.file a.starts z) (sym x.2)
    (laid_says b file readable none a h.0 x.0 (asked_of a order h.1.0) size is h.1.1 x.1
    (subst (λ (z : LoaderJob). entry_count writing_of z ≤ 1024) x.2 x.3)
    (subst (λ (z : LoaderJob). IsLoaderFollowed a.file a.starts z z.job.report) x.2 follows))

pub load_follows : (p : Patching) → (p.names.out ≡ p.names.report → ⊥) → (s t : DeskState) (k l : SinkState) (status : ℕ)
    → Writes (form_writing with_stub p) s t k l status → FollowsSettled with_stub of_load p s t status
load_follows p apart s t k l status w = form_follows with_stub of_load load_says p apart s t k l status w
