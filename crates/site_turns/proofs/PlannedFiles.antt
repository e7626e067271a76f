-- The file that is written for what was planned is sound, and is followed.
use Rattle.std.proofs.Common.{◌≡◌, ℕ, ◌+◌, ◌^◌, ◌<◌, ◌≤◌, List, [], ◌∷◌, map, refl, sym, ap, ◌∙◌, subst, arith}
use Rattle.std.specs.Prelude.{Contains}
use Rattle.std.specs.List.{AllByRecursion, flat_map}
use Rattle.pun_base.specs.Actions.{IsAction}
use Rattle.pun_base.specs.declared.plan.Write.{Write}
use Rattle.address_space.specs.declared.extent.Extent.{Extent}
use Rattle.elf_read.specs.Image.{image_of}
use Rattle.page_group.specs.Grouping.{GroupsState}
use Rattle.elf_emit.specs.declared.runs.Page.{Page}
use Rattle.elf_emit.specs.Emits.{page_of_home, pages_of}
use Rattle.elf_emit.specs.Job.{BytesAt, Job}
use Rattle.elf_emit.specs.Layout.{layout}
use Rattle.pun_base.specs.Memory.{Bytes}
use Rattle.elf_emit.specs.Laws.{IsJob, IsPage, PairsByRecursion, PagesApart, Shows}
use Rattle.elf_emit.proofs.JobImageParts.{layout_loads}
use Rattle.elf_emit.proofs.JobImages.{file_shows}
use Rattle.elf_emit.specs.Views as views
use Rattle.elf_emit.proofs.StayingSegments.{all_map}
use Rattle.patch_report.specs.Values.{RowValue, write_value}
use Rattle.patch_report.specs.declared.origin.Version.TheVariants.{Two}
use Rattle.patch_report.specs.Grammar.{AscendFrom, IsBody}
use Rattle.patch_report.proofs.ListPlaces.{In, all_from, in_map, contains_at}
use Rattle.sound_images.specs.Reports.{Line, lines, runs_of}
use Rattle.sound_images.specs.Rules.{HasCode}
use Rattle.sound_images.specs.Soundness as soundness
use Rattle.site_turns.specs.Jobs.{patch_of, page_of, IsJobOf}
use Rattle.site_turns.specs.States.{report_of}
use Rattle.site_turns.specs.Loaded.{case_of}
use Rattle.site_turns.specs.Laws.{five}
use Rattle.site_turns.specs.PlannedState.{PlannedState}
use Rattle.site_turns.specs.Planning.{Request, Turns, IsPlanned, scene_in, end_of, taken_at_first}
use Rattle.site_turns.specs.PlanLaws.{IsAsked, IsReportPage, job_for, writes_of, planned_report, IsShownWell, PlannedIsShownWell, PlannedIsWrittenWell}
use Rattle.site_turns.proofs.LoadedJobs.{followed, five_lead}
use Rattle.site_turns.proofs.RequestScene.{entries_are}
use Rattle.site_turns.proofs.PlannedCodes.{one_code, piece_at}
use Rattle.site_turns.proofs.PlannedJobs.{runs_are}
use Rattle.site_turns.proofs.PlannedReports.{planned_is_report}

-- writes as patches are those that a report's runs of them are
pub patches_are : (ws : List Write) → map views.patch_of ws ≡ map patch_of (map write_value ws)
patches_are [] = refl
patches_are (w ∷ ws) = ap (λ (ps : List BytesAt). views.patch_of w ∷ ps) (patches_are ws)

-- pages with their groups
homes_are : (homes : List (ℕ × ℕ)) → map page_of (pages_of homes) ≡ homes
homes_are [] = refl
homes_are (h ∷ homes) = ap (λ (hs : List (ℕ × ℕ)). h ∷ hs) (homes_are homes)

-- pages of a job are pages of a report
pages_good : (lo hi groups : ℕ) (homes : List (ℕ × ℕ)) → groups < 2 ^ 32 → AllByRecursion (IsPage lo hi groups) (pages_of homes)
    → AllByRecursion IsReportPage homes
pages_good lo hi groups [] n h = tt
pages_good lo hi groups (x ∷ homes) n h =
    let p = h.0 in
    let high = p.high in
    let shown = p.shown in
    (record { whole = p.whole; low = omega (arith, high); group = omega (arith, shown, n) }, pages_good lo hi groups homes n h.1)

-- the pages of a job ascend
pages_ascend : (pieces : List BytesAt) (low : ℕ) (homes : List (ℕ × ℕ)) → PairsByRecursion (PagesApart pieces) (pages_of homes)
    → AllByRecursion (λ (p : Page). low ≤ p.addr) (pages_of homes) → AscendFrom low homes
pages_ascend pieces low [] h l = tt
pages_ascend pieces low (x ∷ homes) h l = (
  l.0,
  pages_ascend pieces (x.0 + 1) homes h.1 (all_map (PagesApart pieces (page_of_home x)) (λ (p : Page). x.0 + 1 ≤ p.addr) (pages_of homes)
      (λ p a. let s = a.ascend in omega (arith, s)) h.0),
)

-- addresses are not negative
from_zero : (ps : List Page) → AllByRecursion (λ (p : Page). 0 ≤ p.addr) ps
from_zero [] = tt
from_zero (p ∷ ps) = (omega arith, from_zero ps)

module _ (q : Request) (t : Turns) (p : PlannedState) (groups : GroupsState) (a : IsAsked q) (b : IsAction q.action)
    (h : IsPlanned q t p) (is : IsJob (job_for q p groups)) (m : Bytes) (shown : Shows (job_for q p groups) m) where
  abbrev j : Job
  j = job_for q p groups

  -- a trampoline's code is one of the pieces
  piece_in : (l : Line) → In (lines (report_of (scene_in q t) (end_of q t) groups.homes)) l → (entry : ℕ) (code : List ℕ)
      → HasCode (case_of (scene_in q t) (end_of q t) groups.homes m entry) l code
      → Contains j.pieces (record { addr = l.tramp.place; now = code })
  piece_in l i entry code k =
      let first = case_of (scene_in q t) (end_of q t) [] (image_of q.file) 0 in
      let last = case_of (scene_in q t) (end_of q t) groups.homes m entry in
      let x = piece_at (HasCode first) (lines (report_of (scene_in q t) (end_of q t) [])) p.built h.built l i in
      let w = in_map views.piece_of p.built x.built x.in_list in
      let place = x.place in
      let same = one_code first last l x.built.code.bytes code refl refl refl x.code k in
      let e : views.piece_of x.built ≡ record { addr = l.tramp.place; now = code } = λ i. record { addr = place i; now = same i } in
      subst (Contains j.pieces) e (contains_at j.pieces w.0 (views.piece_of x.built) w.1)

  -- the job writes what the turns have done
  is_job : IsJobOf (scene_in q t) (end_of q t) groups.homes m j
  is_job = record {
    orig = λ x. refl;
    writes = patches_are (writes_of p.rows)
        ∙ sym (ap (map patch_of) (ap (flat_map (λ (r : RowValue). runs_of r.outcome)) (sym h.rows) ∙ runs_are p.rows));
    lo = ap (λ (e : Extent). e.lo) h.private;
    hi = ap (λ (e : Extent). e.hi) h.private;
    shown = homes_are groups.homes;
    pieces = all_from _ (lines (report_of (scene_in q t) (end_of q t) groups.homes)) piece_in;
  }

  -- the report of what was planned is one
  report : IsBody Two (planned_report q t groups)
  report = planned_is_report q t p groups.homes a b h
      (pages_good j.private_lo j.private_hi j.groups groups.homes is.few_groups is.pages)
      (pages_ascend j.pieces 0 groups.homes is.pages_apart (from_zero (pages_of groups.homes)))

  -- what shows the planned file is sound and followed
  pub shown_well : IsShownWell q t p groups m
  unfolding soundness.IsCaseFollowed
  shown_well =
      let f = followed (scene_in q t) (taken_at_first q) five t.entries t.choices groups.homes m j five_lead (entries_are q a)
      refl h.turns.turns is shown is_job in
      record { report = report; sound = f.sound; followed = (refl, f.headline (Two, report)) }

-- whatever shows the job of what was planned is sound, and runs as the original does
pub planned_is_shown_well : PlannedIsShownWell
planned_is_shown_well q t p groups m a b h G is s = shown_well q t p groups a b h is m s

-- the file that is written for what was planned is sound, begins where the original does, and runs as it does
pub planned_is_written_well : PlannedIsWrittenWell
planned_is_written_well q t p groups a b h G is few =
    let j = job_for q p groups in
    record {
      entry = (layout_loads j is few).entry;
      shown = shown_well q t p groups a b h is (image_of (layout j)) (file_shows j is few);
    }
