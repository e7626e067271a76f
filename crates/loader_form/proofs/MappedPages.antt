-- The bytes that records name, and what holds once the runs are mapped.
use Rattle.std.proofs.Common.{◌≡◌, ℕ, zero, suc, ◌+◌, ◌*◌, ◌≤◌, List, ◌++◌, length, take, drop, replicate, refl, sym, ap, ◌∙◌, arith}
use Rattle.std.proofs.Math.Seq.{take-append-add}
use Rattle.elf_read.proofs.FileSlices.{slice_within, slice_past}
use Rattle.elf_emit.specs.declared.runs.Run.{Run}
use Rattle.elf_emit.specs.Job.{Frame, Job}
use Rattle.elf_emit.specs.Layout.{runs_of, group_page, group_pages}
use Rattle.elf_emit.specs.Frames as frames
use Rattle.elf_emit.specs.Laws.{IsJob}
use Rattle.elf_emit.proofs.StayingSegments.{all_map}
use Rattle.elf_emit.proofs.OriginalFacts.{facts_of}
use Rattle.elf_emit.proofs.WrittenTable.{IsRun}
use Rattle.elf_emit.proofs.LoadedImage.{pages_part}
use Rattle.elf_emit.proofs.PageRuns.{job_runs}
use Rattle.elf_emit.proofs.GroupPages.{length_group_page, length_group_pages}
use Rattle.elf_emit.proofs.JobImages.{bare_shows}
use Rattle.site_turns.proofs.PlannedJobs.{planned_is_job}
use Rattle.site_turns.proofs.PlannedFiles.{planned_is_shown_well}
use Rattle.loader_form.specs.Laid.{Laid, stub_pages, loader_frame, IsLaid}
use Rattle.loader_form.specs.Mapped.{NamesPages, RecordsNamePages, MappedIsShownWell}
use Rattle.loader_form.proofs.LaidFile.{laid_frame}

-- a front and more
take_past : (a b : ℕ) (xs ys : List ℕ) → length xs ≡ a → take (a + b) (xs ++ ys) ≡ xs ++ take b ys
take_past a b xs ys h = ap (λ (m : ℕ). take (m + b) (xs ++ ys)) (sym h) ∙ take-append-add xs ys b

-- the first pages of some, and pages after others
first_pages : (j : Job) (m n c : ℕ) → c ≤ n → take (4096 * c) (group_pages j.pieces j.pages m n) ≡ group_pages j.pieces j.pages m c
first_pages j m n zero l = refl
first_pages j m zero (suc c) l = absurd (omega arith)
first_pages j m (suc n) (suc c) l =
    let p : List ℕ = group_page j.pieces j.pages m in
    let rest : List ℕ = group_pages j.pieces j.pages (m + 1) n in
    let e : 4096 * suc c ≡ 4096 + 4096 * c = omega arith in
    ap (λ (k : ℕ). take k (p ++ rest)) e ∙ take_past 4096 (4096 * c) p rest (length_group_page j m)
    ∙ ap (λ (z : List ℕ). p ++ z) (first_pages j (m + 1) n c (omega (arith, l)))

-- a part of the group pages is the group pages from there on, that many
some_pages : (j : Job) (m n k c : ℕ) → k + c ≤ n → take (4096 * c) (drop (4096 * k) (group_pages j.pieces j.pages m n)) ≡ group_pages j.pieces j.pages (m + k) c
some_pages j m n zero c l = let e : m ≡ m + 0 = omega arith in first_pages j m n c (omega (arith, l)) ∙ ap (λ (i : ℕ). group_pages j.pieces j.pages i c) e
some_pages j m zero (suc k) c l = absurd (omega (arith, l))
some_pages j m (suc n) (suc k) c l =
    let p : List ℕ = group_page j.pieces j.pages m in
    let rest : List ℕ = group_pages j.pieces j.pages (m + 1) n in
    let e : 4096 * suc k ≡ 4096 + 4096 * k = omega arith in
    let f : m + 1 + k ≡ m + suc k = omega arith in
    ap (λ (i : ℕ). take (4096 * c) (drop i (p ++ rest))) e ∙ slice_past (4096 * c) 4096 (4096 * k) p rest (length_group_page j m)
    ∙ some_pages j (m + 1) n k c (omega (arith, l)) ∙ ap (λ (i : ℕ). group_pages j.pieces j.pages i c) f

-- what a record names
one_record : (j : Job) (l : Laid) → IsJob j → IsLaid j l → frames.count (loader_frame j l) ≤ 1024 → (r : Run) → IsRun j.groups r → NamesPages j l r
one_record j l h k few r w =
    let f : Frame = loader_frame j l in
    let n = 4096 * r.count in
    let o = 4096 * r.first in
    let g : List ℕ = group_pages j.pieces j.pages 0 j.groups in
    let gl = length_group_pages j 0 j.groups in
    let sh = w.shown in
    let e : 0 + r.first ≡ r.first = omega arith in
    pages_part n o f (facts_of f (laid_frame j l h k) few)
    ∙ slice_within n o g (stub_pages j l ++ replicate 4096 0) (omega (arith, gl, sh))
    ∙ some_pages j 0 j.groups r.first r.count (omega (arith, sh))
    ∙ ap (λ (i : ℕ). group_pages j.pieces j.pages i r.count) e

-- the file's bytes that a run's record names are the group pages of the run
pub records_name_pages : RecordsNamePages
records_name_pages j l h k few = all_map (IsRun j.groups) (NamesPages j l) (runs_of j.pages) (one_record j l h k few) (job_runs j h)

-- once the runs are mapped
pub mapped_is_shown_well : MappedIsShownWell
mapped_is_shown_well q t p groups asked action planned G size =
    let job = planned_is_job q t p groups asked planned G size in
    planned_is_shown_well q t p groups _ asked action planned G job (bare_shows _ job)
