-- The least free pages after the turns meet nothing.
use Rattle.std.proofs.Common.{◌≡◌, ◌⊎◌, inl, inr, ℕ, ◌+◌, ◌*◌, ◌/◌, ◌%◌, ◌<◌, ◌≤◌, true, List, [], ◌∷◌, ◌++◌, length, map, sym, ap, ◌∙◌, subst, arith}
use Rattle.std.specs.Prelude.{Contains}
use Rattle.std.specs.Int.{div_ceil}
use Rattle.std.specs.Option.{is_some}
use Rattle.std.specs.List.{AllByRecursion, All}
use Rattle.std.proofs.lemmas.Bool.{or_cases, or_left, or_right, false_from_ne_true}
use Rattle.std.proofs.lemmas.List.{length-map}
use Rattle.std.proofs.lemmas.List.Elements.{All-head, All-tail}
use Rattle.address_space.specs.declared.extent.Extent.{Extent}
use Rattle.address_space.specs.Free.{Misses, extent_of, whole_pages}
use Rattle.address_space.specs.Fit.{FitsPages}
use Rattle.elf_read.specs.declared.segment.Segment.{Segment}
use Rattle.elf_read.specs.Entries.{segments, loads}
use Rattle.elf_read.specs.Image.{image_of}
use Rattle.page_group.specs.Pages.{is_covered, holds, page_of}
use Rattle.page_group.specs.Grouping.{GroupsState, pages}
use Rattle.elf_emit.specs.declared.built.Built.{Built}
use Rattle.elf_emit.specs.declared.runs.Page.{Page}
use Rattle.elf_emit.specs.Job.{Job}
use Rattle.elf_emit.specs.Emits.{range_of, pages_of}
use Rattle.elf_emit.specs.Layout.{runs_of}
use Rattle.elf_emit.proofs.JobConditions.{all_contained}
use Rattle.site_turns.specs.PlannedState.{PlannedState}
use Rattle.site_turns.specs.PrivateRange as turns
use Rattle.site_turns.specs.States.{is_in, is_taken}
use Rattle.site_turns.specs.Planning.{Request, taken_at_first}
use Rattle.site_turns.specs.PlanLaws.{job_for, AreGroups}
use Rattle.site_turns.proofs.CodePages.{loaded_taken, taken_left, nothing}
use Rattle.site_turns.proofs.LeadingPlans.{free_untaken}
use Rattle.site_turns.proofs.CodeEnds.{built_fits, fitting_end_low}
use Rattle.loader_form.specs.Laid.{stub_of, IsApart, IsLaid}
use Rattle.loader_form.specs.LoaderState.{LoaderState}
use Rattle.loader_form.specs.Lay.{code_extent, taken_after, run_count, stub_count, laid_of, IsLoader, PlannedEndsLow, LaidForIsLaid}
use Rattle.loader_form.proofs.StubLengths.{side, stub_length}

-- what the second of two joined lists takes, both take
taken_right : (es fs : List Extent) (x : ℕ) → is_taken fs x ≡ true → is_taken (es ++ fs) x ≡ true
taken_right [] fs x h = h
taken_right (e ∷ es) fs x h = or_right (is_in e x) (is_taken (es ++ fs) x) (taken_right es fs x h)

-- what code covers is taken
code_taken : (bs : List Built) (x : ℕ) → is_covered (map range_of bs) x ≡ true → is_taken (map code_extent bs) x ≡ true
code_taken [] x h = h
code_taken (b ∷ bs) x h = elim (or_cases (holds x (range_of b)) (is_covered (map range_of bs) x) h) [
  | inl i ↦ or_left (is_in (code_extent b) x) (is_taken (map code_extent bs) x) i
  | inr i ↦ or_right (is_in (code_extent b) x) (is_taken (map code_extent bs) x) (code_taken bs x i)
]

-- facts of the first numbers of pairs
all_homes : (P : ℕ → Type 0) (homes : List (ℕ × ℕ)) → AllByRecursion P (pages homes) → AllByRecursion (λ (p : Page). P p.addr) (pages_of homes)
all_homes P [] h = tt
all_homes P (x ∷ xs) h = (h.0, all_homes P xs h.1)

module _ (q : Request) (p : PlannedState) (groups : GroupsState) (G : AreGroups p groups) where
  abbrev j : Job
  j = job_for q p groups

  -- pages that fit after the turns
  apart_of : (at n : ℕ) → FitsPages (taken_after q.file q.reserves p) n at → IsApart j at n
  apart_of at n f =
      let free = f.free in
      let w = f.page.1 in
      let whole : at % 4096 ≡ 0 = omega (arith, w) in
      let a = free.above in
      let b = free.below in
      let misses = All-head (Misses at (n * 4096)) (extent_of p.private) (map code_extent p.built ++ taken_at_first q) free.misses in
      let rest = All-tail (Misses at (n * 4096)) (extent_of p.private) (map code_extent p.built ++ taken_at_first q) free.misses in
      record {
        whole = whole;
        low = a;
        high = omega (arith, b);
        private = private_side misses;
        pages = all_homes (λ page. (page + 4096 ≤ at) ⊎ (at + 4096 * n ≤ page)) groups.homes (all_contained (λ page. (page + 4096 ≤ at) ⊎ (at + 4096 * n ≤ page)) (pages groups.homes)
            (λ page c. page_side page c whole rest));
        new = λ x lo hi. nothing (image_of q.file x) (false_from_ne_true (is_some (image_of q.file x)) (λ k.
            free_untaken (map code_extent p.built ++ taken_at_first q) at (n * 4096) x rest lo (omega (arith, hi))
            (taken_right (map code_extent p.built) (taken_at_first q) x
            (taken_left (map (λ (s : Segment). turns.pages_of s.vaddr s.memsz) (loads (segments q.file))) (map whole_pages q.reserves) x
            (loaded_taken q.file (loads (segments q.file)) x k)))));
      }
    where
      private_side : Misses at (n * 4096) (extent_of p.private) → (at + 4096 * n ≤ p.private.lo) ⊎ (p.private.hi ≤ at)
      private_side (inl m) = inl (omega (arith, m))
      private_side (inr m) = inr m

      page_side : (page : ℕ) → Contains (pages groups.homes) page → at % 4096 ≡ 0 → All (Misses at (n * 4096)) (map code_extent p.built ++ taken_at_first q)
          → (page + 4096 ≤ at) ⊎ (at + 4096 * n ≤ page)
      page_side page c whole rest = by_side (side at (at + 4096 * n) x)
        where
          m : (x : ℕ) × (is_covered groups.pieces x ≡ true) × (page_of x ≡ page)
          m = (G.1.listed.exact page).0 c

          x : ℕ
          x = m.0

          is_page : x / 4096 * 4096 ≡ page
          is_page = m.2

          by_side : ((at ≤ x) × (x < at + 4096 * n)) ⊎ ((x < at) ⊎ (at + 4096 * n ≤ x)) → (page + 4096 ≤ at) ⊎ (at + 4096 * n ≤ page)
          by_side (inl i) = absurd (free_untaken (map code_extent p.built ++ taken_at_first q) at (n * 4096) x rest i.0 (let u = i.1 in omega (arith, u))
              (taken_left (map code_extent p.built) (taken_at_first q) x (code_taken p.built x (ap (λ ps. is_covered ps x) (sym G.0) ∙ m.1))))
          by_side (inr (inl i)) = inl (omega (arith, i, is_page, whole))
          by_side (inr (inr i)) = inr (omega (arith, i, is_page, whole))

  -- stub and save page at the least free pages meet nothing of the job, and the stub has room
  pub is_laid : (l : LoaderState) → IsLoader (taken_after q.file q.reserves p) (run_count groups) l → IsLaid j (laid_of l)
  is_laid l h =
      let n = run_count groups in
      let taken = taken_after q.file q.reserves p in
      let few = h.few in
      let e : stub_count l.runs ≡ stub_count n = ap stub_count h.runs in
      let long = stub_length (stub_of j (laid_of l)) in
      let same : length (stub_of j (laid_of l)).runs ≡ n = length-map (runs_of j.pages) _ in
      let s = h.save.good in
      let m = All-head (Misses l.save.lo (1 * 4096)) (extent_of l.stub) taken s.free.misses in
      let enough : 4112 + 16 * n ≤ div_ceil (4112 + 16 * n) 4096 * 4096 = up (4112 + 16 * n) in
      let least : div_ceil (4112 + 16 * n) 4096 ≤ 257 = bound n few in
      record {
        stub = apart_of l.stub.lo (stub_count l.runs) (subst (λ (k : ℕ). FitsPages taken k l.stub.lo) (sym e) h.stub.good);
        save = apart_of l.save.lo 1 (record {
          page = s.page;
          free = record { above = s.free.above; below = s.free.below; misses = All-tail (Misses l.save.lo (1 * 4096)) (extent_of l.stub) taken s.free.misses };
        });
        apart = by_side e m;
        room = omega (arith, long, same, e, enough);
        some = omega (arith, e, enough);
        few = omega (arith, e, least);
      }
    where
      up : (k : ℕ) → k ≤ div_ceil k 4096 * 4096
      up k = omega arith

      bound : (k : ℕ) → k ≤ 65535 → div_ceil (4112 + 16 * k) 4096 ≤ 257
      bound k b = omega (arith, b)

      by_side : stub_count l.runs ≡ stub_count (run_count groups) → Misses l.save.lo (1 * 4096) (extent_of l.stub)
          → (l.stub.lo + 4096 * stub_count l.runs ≤ l.save.lo) ⊎ (l.save.lo + 4096 ≤ l.stub.lo)
      by_side e (inl i) = inr (omega (arith, i))
      by_side e (inr i) = inl (let z = h.stub_size in omega (arith, i, e, z))

-- stub and save page laid at the least free pages after the turns meet nothing of the job
pub laid_for : LaidForIsLaid
laid_for q p groups l G h = is_laid q p groups G l h

-- the code of what was planned has bytes, and ends among addresses of 32 bits
pub planned_ends_low : PlannedEndsLow
planned_ends_low q t p a h = fitting_end_low p.built (built_fits q t p a h)
