-- The runs of a job's pages are parts of its file.
use Rattle.std.proofs.Common.{◌≡◌, ℕ, suc, ◌+◌, ◌*◌, ◌^◌, ◌<◌, ◌≤◌, ◌==◌, ◌⊎◌, inl, inr, Bool, true, false, cond, ◌&&◌, nat_lt, nat_le, List, [], ◌∷◌, length, map, Option, None, unwrap_or, refl, ap, ◌∙◌, arith, eqb-true}
use Rattle.std.specs.List.{AllByRecursion, list_any}
use Rattle.std.proofs.lemmas.Bool.{and_parts, cases_lt, or_right, or_left}
use Rattle.std.proofs.lemmas.Bool.Decides.{nat_tests}
use Rattle.std.proofs.lemmas.List.{length-map}
use Rattle.std.proofs.lemmas.Simd.{map-map}
use Rattle.elf_read.specs.Image.{Chunk, image, image_of}
use Rattle.elf_emit.specs.declared.runs.Page.{Page}
use Rattle.elf_emit.specs.declared.runs.Run.{Run}
use Rattle.elf_emit.specs.Job.{BytesAt, Job, Part}
use Rattle.elf_emit.specs.Frames.{others, olds}
use Rattle.elf_emit.specs.Layout.{part_of, frame_of, runs_of, join_page, group_pages, count}
use Rattle.elf_emit.specs.FrameLaws.{PairsByRecursion, IsPart, PartsApart, IsNew, IsFrame, part_chunk}
use Rattle.elf_emit.specs.Laws.{IsPage, IsJob, PagesApart, is_on, pages_image}
use Rattle.elf_emit.proofs.StayingSegments.{all_map, all_both}
use Rattle.elf_emit.proofs.WrittenTable.{all_mapped, all_joined, IsRun, runs_are}
use Rattle.elf_emit.proofs.DisjointLoads.{pairs_mapped, pairs_map}
use Rattle.elf_emit.proofs.GroupPages.{pages_shown, length_group_pages}

-- each page is one of them
on_any : (ps : List Page) → AllByRecursion (λ p. (a : ℕ) → is_on p a ≡ true → list_any (λ q. is_on q a) ps ≡ true) ps
on_any [] = tt
on_any (p ∷ ps) = (
  λ a e. or_left (is_on p a) (list_any (λ q. is_on q a) ps) e,
  all_map (λ q. (a : ℕ) → is_on q a ≡ true → list_any (λ r. is_on r a) ps ≡ true) (λ q. (a : ℕ) → is_on q a ≡ true → list_any (λ r. is_on r a) (p ∷ ps) ≡ true) ps
      (λ q h a e. or_right (is_on p a) (list_any (λ r. is_on r a) ps) (h a e)) (on_any ps),
)

is_on_at : (p : Page) (a : ℕ) → p.addr ≤ a → a < p.addr + 4096 → is_on p a ≡ true
is_on_at p a l m = grind (arith, nat_tests)

-- a run apart from a range
abbrev pub ClearRun : ℕ → ℕ → Run → Type 0
ClearRun lo hi r = (r.addr + 4096 * r.count ≤ lo) ⊎ (hi ≤ r.addr)

-- a page apart from a range
abbrev pub ClearPage : ℕ → ℕ → Page → Type 0
ClearPage lo hi p = (p.addr + 4096 ≤ lo) ⊎ (hi ≤ p.addr)

more_clear : (lo hi : ℕ) (p : Page) (r : Run) → lo < hi → ClearPage lo hi p → ClearRun lo hi r → p.addr + 4096 ≡ r.addr → ClearRun lo hi (record { addr = p.addr; first = p.group; count = suc r.count })
more_clear lo hi p r l (inl a) (inl b) e = inl (omega arith)
more_clear lo hi p r l (inl a) (inr b) e = absurd (omega arith)
more_clear lo hi p r l (inr a) (inl b) e = absurd (omega arith)
more_clear lo hi p r l (inr a) (inr b) e = inr a

-- runs of pages apart from a range are apart from it
pub runs_clear : (lo hi : ℕ) (ps : List Page) → lo < hi → AllByRecursion (ClearPage lo hi) ps → AllByRecursion (ClearRun lo hi) (runs_of ps)
runs_clear lo hi [] l h = tt
runs_clear lo hi (p ∷ ps) l h = all_joined (ClearRun lo hi) p (runs_of ps) h.0 (λ r k e d. more_clear lo hi p r l h.0 k e) (runs_clear lo hi ps l h.1)

-- runs ascend
runs_above : (c : ℕ) (ps : List Page) → AllByRecursion (λ p. c ≤ p.addr) ps → AllByRecursion (λ r. c ≤ r.addr) (runs_of ps)
runs_above c [] h = tt
runs_above c (p ∷ ps) h = all_joined (λ r. c ≤ r.addr) p (runs_of ps) h.0 (λ r k e d. h.0) (runs_above c ps h.1)

-- a run ends before the other begins
abbrev pub RunsAscend : Run → Run → Type 0
RunsAscend r q = r.addr + 4096 * r.count ≤ q.addr

join_pairs : (p : Page) (rs : List Run) → AllByRecursion (λ r. p.addr + 4096 ≤ r.addr) rs → PairsByRecursion RunsAscend rs → PairsByRecursion RunsAscend (join_page p rs)
join_pairs p [] a h = (tt, tt)
join_pairs p (r ∷ rs) a h = step ((p.addr + 4096 == r.addr) && (p.group + 1 == r.first)) refl
  where
    step : (b : Bool) → ((p.addr + 4096 == r.addr) && (p.group + 1 == r.first)) ≡ b → PairsByRecursion RunsAscend (cond b (record { addr = p.addr; first = p.group; count = suc r.count } ∷ rs) (record { addr = p.addr; first = p.group; count = 1 } ∷ r ∷ rs))
    step true e =
        let k = eqb-true _ _ (and_parts (p.addr + 4096 == r.addr) (p.group + 1 == r.first) e).0 in
        (all_map (RunsAscend r) (RunsAscend (record { addr = p.addr; first = p.group; count = suc r.count })) rs (λ q l. omega arith) h.0, h.1)
    step false e = (a, h)

-- the runs of pages that don't meet ascend
pub runs_pairs : (pieces : List BytesAt) (ps : List Page) → PairsByRecursion (PagesApart pieces) ps → PairsByRecursion RunsAscend (runs_of ps)
runs_pairs pieces [] h = tt
runs_pairs pieces (p ∷ ps) h =
    join_pairs p (runs_of ps) (runs_above (p.addr + 4096) ps (all_map (PagesApart pieces p) (λ q. p.addr + 4096 ≤ q.addr) ps (λ q k. k.ascend) h.0)) (runs_pairs pieces ps h.1)

-- the runs of a job's pages are whole pages among a program's addresses, shown by group pages that there are
pub job_runs : (j : Job) → IsJob j → AllByRecursion (IsRun j.groups) (runs_of j.pages)
job_runs j h = runs_are j.private_lo j.private_hi j.groups j.pages h.pages

-- no original byte at a page, and so at a run
abbrev NewPage : List ℕ → Page → Type 0
NewPage orig p = (a : ℕ) → p.addr ≤ a → a < p.addr + 4096 → image_of orig a ≡ None

runs_new : (orig : List ℕ) (ps : List Page) → AllByRecursion (NewPage orig) ps → AllByRecursion (λ r. IsNew orig (part_of r)) (runs_of ps)
runs_new orig [] h = tt
runs_new orig (p ∷ ps) h = all_joined (λ r. IsNew orig (part_of r)) p (runs_of ps) (λ a l m. h.0 a l (omega (arith, m))) more (runs_new orig ps h.1)
  where
    more : (r : Run) → IsNew orig (part_of r) → p.addr + 4096 ≡ r.addr → p.group + 1 ≡ r.first
        → IsNew orig (part_of (record { addr = p.addr; first = p.group; count = suc r.count }))
    more r k e d a l m = elim (cases_lt a (p.addr + 4096)) [
      | inl x ↦ h.0 a l x
      | inr x ↦ k a (omega (arith, e, x)) (omega (arith, e, m))
    ]

pages_new : (j : Job) → IsJob j → AllByRecursion (NewPage j.orig) j.pages
pages_new j h =
    all_map (λ p. (a : ℕ) → is_on p a ≡ true → list_any (λ q. is_on q a) j.pages ≡ true) (NewPage j.orig) j.pages
    (λ p g a l m. h.new a (or_right (nat_le j.private_lo a && nat_lt a j.private_hi) (list_any (λ q2. is_on q2 a) j.pages) (g a (is_on_at p a l m)))) (on_any j.pages)

in_range : (lo hi a : ℕ) → lo ≤ a → a < hi → (nat_le lo a && nat_lt a hi) ≡ true
in_range lo hi a l m = grind (arith, nat_tests)

-- a job's file with whatever pages behind the private range meets the conditions on a written file where those pages do
pub framed_with : (j : Job) → IsJob j → (body : List ℕ) (files : ℕ) (parts : List Part) (entry : Option ℕ) → length body ≡ 4096 * files
    → files < 2 ^ 33 → AllByRecursion (IsPart j.private_lo j.private_hi files) parts → PairsByRecursion PartsApart parts → AllByRecursion (IsNew j.orig) parts
    → unwrap_or entry 0 < 2 ^ 64 → IsFrame (record (frame_of j) { body = body; files = files; parts = parts; entry = entry })
framed_with j h body files parts entry long few are apart new starts = record {
  bytes = h.bytes;
  size = h.size;
  accepted = h.accepted;
  backed = h.backed;
  private_whole = h.private_whole;
  private_some = h.private_some;
  private_low = h.private_low;
  private_high = h.private_high;
  private_new = λ a l m. h.new a (or_left (nat_le j.private_lo a && nat_lt a j.private_hi) (list_any (λ q. is_on q a) j.pages) (in_range j.private_lo j.private_hi a l m));
  long = long;
  few_files = few;
  parts = are;
  parts_apart = apart;
  new = new;
  starts = starts;
}

-- a job's file meets the conditions on a written file
pub job_frame : (j : Job) → IsJob j → IsFrame (frame_of j)
job_frame j h =
    framed_with j h (group_pages j.pieces j.pages 0 j.groups) j.groups (map part_of (runs_of j.pages)) None (length_group_pages j 0 j.groups)
    (let q = h.few_groups in omega (arith, q))
    (all_mapped (IsPart j.private_lo j.private_hi j.groups) part_of (runs_of j.pages)
    (all_map (λ r. IsRun j.groups r × ClearRun j.private_lo j.private_hi r) (λ r. IsPart j.private_lo j.private_hi j.groups (part_of r)) (runs_of j.pages)
    (λ r k. record { low = k.0.low; high = k.0.high; whole = k.0.whole; some = k.0.some; shown = k.0.shown; perms = omega arith; apart = k.1 })
    (all_both (IsRun j.groups) (ClearRun j.private_lo j.private_hi) (runs_of j.pages) (job_runs j h)
    (runs_clear j.private_lo j.private_hi j.pages h.private_some
    (all_map (IsPage j.private_lo j.private_hi j.groups) (ClearPage j.private_lo j.private_hi) j.pages (λ p k. k.apart) h.pages)))))
    (pairs_mapped PartsApart part_of (runs_of j.pages)
    (pairs_map RunsAscend (λ r q. PartsApart (part_of r) (part_of q)) (runs_of j.pages) (λ r q l. inl l) (runs_pairs j.pieces j.pages h.pages_apart)))
    (all_mapped (IsNew j.orig) part_of (runs_of j.pages) (runs_new j.orig j.pages (pages_new j h))) (omega arith)

-- the table of a job's file has an entry for each run, for each old segment, for each that isn't PT_LOAD, and two more
pub count_of : (j : Job) → count j ≡ length (others (frame_of j)) + (2 + (length (runs_of j.pages) + length (olds (frame_of j))))
count_of j = ap (λ (n : ℕ). length (others (frame_of j)) + (2 + (n + length (olds (frame_of j))))) (length-map (runs_of j.pages) part_of)

-- the parts of a job's file show its pages for code
pub parts_shown : (j : Job) → IsJob j → (a : ℕ) → image (map (part_chunk (group_pages j.pieces j.pages 0 j.groups)) (map part_of (runs_of j.pages))) a ≡ pages_image j a
parts_shown j h a =
    let body : List ℕ = group_pages j.pieces j.pages 0 j.groups in
    ap (λ (cs : List Chunk). image cs a) (map-map (part_chunk body) part_of (runs_of j.pages)) ∙ pages_shown j h a
