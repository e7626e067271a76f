-- The loader form's memory in parts, and its theorem.
use Rattle.std.proofs.Common.{◌≡◌, ◌⊎◌, inl, inr, ℕ, ◌+◌, ◌-◌, ◌*◌, ◌<◌, ◌≤◌, Bool, true, false, nat_le, nat_lt, ◌&&◌, List, [], ◌∷◌, ◌++◌, length, map, take, replicate, Option, Some, None, refl, sym, ap, ◌∙◌, subst, arith}
use Rattle.std.proofs.Math.Path.{fun_ext}
use Rattle.std.specs.Prelude.{slice_index}
use Rattle.std.specs.Option.{option_map}
use Rattle.std.specs.List.{AllByRecursion, list_any}
use Rattle.std.proofs.lemmas.Bool.{cond-true, cond-false, or_right, and_parts, leb-true, ltb-true}
use Rattle.std.proofs.lemmas.Bool.Decides.{nat_tests}
use Rattle.std.proofs.lemmas.List.{length-map}
use Rattle.pun_base.specs.Memory.{Cell, Bytes, or_else, joined}
use Rattle.pun_base.specs.Ranges.{is_within}
use Rattle.insn_form.specs.Machine.{Machine}
use Rattle.elf_read.specs.Entries.{entry_of}
use Rattle.elf_read.specs.Image.{cell_in, image, image_of}
use Rattle.elf_read.proofs.FileSlices.{slice_within}
use Rattle.elf_emit.specs.declared.runs.Page.{Page}
use Rattle.elf_emit.specs.declared.runs.Run.{Run as FileRun}
use Rattle.elf_emit.specs.Job.{Frame, Job}
use Rattle.elf_emit.specs.Layout.{written_at, runs_of, group_pages}
use Rattle.elf_emit.specs.Frames as frames
use Rattle.elf_emit.specs.Laws.{PairsByRecursion, IsJob, IsPage, is_on, with_writes, pages_image, bare_image}
use Rattle.elf_emit.specs.FrameLaws.{table_image, private_image, part_chunk}
use Rattle.elf_emit.proofs.StayingSegments.{all_map, all_both}
use Rattle.elf_emit.proofs.OriginalFacts.{Facts, facts_of}
use Rattle.elf_emit.proofs.WrittenTable.{IsRun}
use Rattle.elf_emit.proofs.LoadedImage.{pages_part}
use Rattle.elf_emit.proofs.JobImageParts.{old_low, no_pages}
use Rattle.elf_emit.proofs.PageRuns.{RunsAscend, runs_pairs, job_runs}
use Rattle.elf_emit.proofs.GroupPages.{slice_at, run_chunk, pages_shown, length_group_pages, any_elim}
use Rattle.scheme_search.proofs.OneJumpBytes.{within_true, within_false}
use Rattle.image_runs.specs.Quiet.{IsStartPair}
use Rattle.image_runs.proofs.MemorySoFar.{else_none}
use Rattle.loader_form.specs.Kernel.{mapped}
use Rattle.loader_form.specs.Running.{all_mapped, AreGiven}
use Rattle.loader_form.specs.Continuing.{nothing, pages_of, whole_image, HasParts, IsLedOn, GoesOn}
use Rattle.loader_form.specs.Laid.{Laid, stub_part, save_part, bare_frame, run_of, stub_of, stub_pages, loader_frame, file_of, IsLaid}
use Rattle.loader_form.specs.Starting.{AreFree, IsLaidStart, LaidStarts}
use Rattle.loader_form.specs.Parting.{base_of, rest_of, RunsShowPages, LaidHasParts, LeadsOn, LoaderFormLeadsOn, LoaderFormIsFollowed}
use Rattle.loader_form.proofs.StubLengths.{side}
use Rattle.loader_form.proofs.MemoryAtEntry.{all_parts, loader_leads, led_with, goes_on}
use Rattle.loader_form.proofs.LaidFile.{laid_frame, loader_loads}
use Rattle.loader_form.proofs.LoadedBytes.{mapped_outside}
use Rattle.loader_form.proofs.StartMemory.{starts, no_table, no_private}
use Rattle.loader_form.proofs.StubFailures.{stub_stops}
use Rattle.loader_form.proofs.WholeStubRuns.{stub_runs}

-- an address in a range, or not
split_within : (lo n x : ℕ) → ((lo ≤ x) × (x < lo + n)) ⊎ (is_within lo n x ≡ false)
split_within lo n x = by_side (side lo (lo + n) x)
  where
    by_side : ((lo ≤ x) × (x < lo + n)) ⊎ ((x < lo) ⊎ (lo + n ≤ x)) → ((lo ≤ x) × (x < lo + n)) ⊎ (is_within lo n x ≡ false)
    by_side (inl p) = inl p
    by_side (inr o) = inr (within_false lo n x o)

module _ (j : Job) (l : Laid) (h : IsJob j) (k : IsLaid j l) (few : frames.count (loader_frame j l) ≤ 1024) where
  abbrev f : Frame
  f = loader_frame j l

  abbrev at : ℕ
  at = frames.pages_at (bare_frame j l)

  abbrev g : List ℕ
  g = group_pages j.pieces j.pages 0 j.groups

  abbrev file : List ℕ
  file = file_of j l

  -- the file of the loader form meets the facts of a written file
  facts : Facts f
  facts = facts_of f (laid_frame j l h k) few

  -- later runs don't hold an address of an earlier one
  later_none : (r : FileRun) (rs : List FileRun) (x : ℕ) → r.addr ≤ x → x < r.addr + 4096 * r.count → AllByRecursion (RunsAscend r) rs → image (map (run_chunk g) rs) x ≡ None
  later_none r [] x p q h2 = refl
  later_none r (s ∷ rs) x p q h2 =
      let a = h2.0 in
      cond-false (is_within s.addr (4096 * s.count) x) (Some (cell_in (run_chunk g s) x)) (image (map (run_chunk g) rs) x) (within_false s.addr (4096 * s.count) x (inl (omega (arith, a, q))))
      ∙ later_none r rs x p q h2.1

  -- the byte of the file that a run shows
  same_byte : (r : FileRun) (i : ℕ) → IsRun j.groups r → i < 4096 * r.count
      → slice_index file (at + 4096 * r.first + i) ≡ slice_index (frames.slice (4096 * r.count) (4096 * r.first) g) i
  same_byte r i w m =
      let n = 4096 * r.count in
      let o = 4096 * r.first in
      let gl = length_group_pages j 0 j.groups in
      let sh = w.shown in
      sym (slice_at n (at + o) i file m)
      ∙ ap (λ (z : List ℕ). slice_index z i) (pages_part n o f facts ∙ slice_within n o g (stub_pages j l ++ replicate 4096 0) (omega (arith, gl, sh)))

  -- mapping runs one by one shows what an image of all of them has
  runs_are : (rs : List FileRun) → AllByRecursion (IsRun j.groups) rs → PairsByRecursion RunsAscend rs → (x : ℕ)
      → all_mapped file (map (run_of at) rs) nothing x ≡ image (map (run_chunk g) rs) x
  runs_are [] i c x = refl
  runs_are (r ∷ rs) i c x =
      all_parts file (map (run_of at) rs) (mapped file r.addr (4096 * r.count) (at + 4096 * r.first) nothing) x
      ∙ ap (λ z. or_else z (mapped file r.addr (4096 * r.count) (at + 4096 * r.first) nothing x)) (runs_are rs i.1 c.1 x)
      ∙ by_side (side r.addr (r.addr + 4096 * r.count) x)
    where
      by_side : ((r.addr ≤ x) × (x < r.addr + 4096 * r.count)) ⊎ ((x < r.addr) ⊎ (r.addr + 4096 * r.count ≤ x))
          → or_else (image (map (run_chunk g) rs) x) (mapped file r.addr (4096 * r.count) (at + 4096 * r.first) nothing x) ≡ image (map (run_chunk g) (r ∷ rs)) x
      by_side (inl p) =
          ap (λ z. or_else z (mapped file r.addr (4096 * r.count) (at + 4096 * r.first) nothing x)) (later_none r rs x p.0 p.1 c.0)
          ∙ cond-true (nat_le r.addr x && nat_lt x (r.addr + 4096 * r.count)) (Some (record { byte = slice_index file (at + 4096 * r.first + (x - r.addr)); perms = 5 })) None (both r.addr (r.addr + 4096 * r.count) x p.0 p.1)
          ∙ (let e = same_byte r (x - r.addr) i.0 (let p0 = p.0 in let p1 = p.1 in omega (arith, p0, p1)) in λ z. Some (record { byte = e z; perms = 5 }))
          ∙ sym (cond-true (is_within r.addr (4096 * r.count) x) (Some (cell_in (run_chunk g r) x)) (image (map (run_chunk g) rs) x) (within_true r.addr (4096 * r.count) x p.0 p.1))
        where
          both : (lo hi y : ℕ) → lo ≤ y → y < hi → (nat_le lo y && nat_lt y hi) ≡ true
          both lo hi y a b2 = grind (arith, nat_tests)
      by_side (inr o) =
          ap (or_else (image (map (run_chunk g) rs) x)) (cond-false (nat_le r.addr x && nat_lt x (r.addr + 4096 * r.count)) (Some (record { byte = slice_index file (at + 4096 * r.first + (x - r.addr)); perms = 5 })) None (neither r.addr (r.addr + 4096 * r.count) x o))
          ∙ else_none (image (map (run_chunk g) rs) x)
          ∙ sym (cond-false (is_within r.addr (4096 * r.count) x) (Some (cell_in (run_chunk g r) x)) (image (map (run_chunk g) rs) x) (within_false r.addr (4096 * r.count) x o))
        where
          neither : (lo hi y : ℕ) → (y < lo) ⊎ (hi ≤ y) → (nat_le lo y && nat_lt y hi) ≡ false
          neither lo hi y (inl a) = grind (arith, nat_tests)
          neither lo hi y (inr a) = grind (arith, nat_tests)

  -- the runs show the pages for code
  pages_are : (x : ℕ) → pages_of file (stub_of j l) x ≡ pages_image j x
  pages_are x = runs_are (runs_of j.pages) (job_runs j h) (runs_pairs j.pieces j.pages h.pages_apart) x ∙ pages_shown j h x

  -- the original's bytes with what is written
  abbrev old : Bytes
  old = with_writes j.writes (image_of j.orig)

  -- where the original has no byte, none of it is written
  old_none : (x : ℕ) → image_of j.orig x ≡ None → old x ≡ None
  old_none x e = ap (option_map _) e

  abbrev stubs : Bytes
  stubs = image (part_chunk f.body (stub_part j l) ∷ part_chunk f.body (save_part j l) ∷ [])

  -- outside stub and save page their parts load nothing
  no_stubs : (x : ℕ) → is_within l.at (4096 * l.pages) x ≡ false → is_within l.save (4096 * 1) x ≡ false → stubs x ≡ None
  no_stubs x a b2 = cond-false (is_within l.at (4096 * l.pages) x) _ _ a ∙ cond-false (is_within l.save (4096 * 1) x) _ None b2

  -- pages for code hold no byte of the original
  pages_new : (x : ℕ) → (pages_image j x ≡ None) ⊎ (old x ≡ None)
  pages_new x = by_test (list_any (λ p. is_on p x) j.pages) refl
    where
      by_test : (t : Bool) → list_any (λ p. is_on p x) j.pages ≡ t → (pages_image j x ≡ None) ⊎ (old x ≡ None)
      by_test false e = inl (no_pages j x e)
      by_test true e = inr (old_none x (h.new x (or_right (nat_le j.private_lo x && nat_lt x j.private_hi) (list_any (λ q. is_on q x) j.pages) e)))

  -- of three cells the last two can be joined in either order where they don't meet
  other_order : (p q o : Option Cell) → (q ≡ None) ⊎ (o ≡ None) → or_else p (or_else q o) ≡ or_else (or_else p o) q
  other_order (Some p) q o a = refl
  other_order None q o (inl e) = ap (λ z. or_else z o) e ∙ sym (ap (or_else o) e ∙ else_none o)
  other_order None q o (inr e) = ap (or_else q) e ∙ else_none q ∙ sym (ap (λ z. or_else z q) e)

  -- the image without a table is the base and what the runs show
  bare_is : (x : ℕ) → bare_image j x ≡ or_else (base_of j l x) (pages_of file (stub_of j l) x)
  bare_is x = other_order (private_image f x) (pages_image j x) (old x) (pages_new x) ∙ ap (or_else (base_of j l x)) (sym (pages_are x))

  -- stub and save page hold no byte of the original
  stubs_new : (x : ℕ) → (stubs x ≡ None) ⊎ (old x ≡ None)
  stubs_new x = by_stub (split_within l.at (4096 * l.pages) x) (split_within l.save (4096 * 1) x)
    where
      by_stub : ((l.at ≤ x) × (x < l.at + 4096 * l.pages)) ⊎ (is_within l.at (4096 * l.pages) x ≡ false)
          → ((l.save ≤ x) × (x < l.save + 4096 * 1)) ⊎ (is_within l.save (4096 * 1) x ≡ false) → (stubs x ≡ None) ⊎ (old x ≡ None)
      by_stub (inl p) q = inr (old_none x (k.stub.new x p.0 p.1))
      by_stub (inr p) (inl q) = inr (old_none x (k.save.new x q.0 q.1))
      by_stub (inr p) (inr q) = inl (no_stubs x p q)

  -- the original has no byte below 0x20000
  low_old : (o : Option Cell) (x : ℕ) → x < 0x20000 → image_of j.orig x ≡ o → image_of j.orig x ≡ None
  low_old None x m e = e
  low_old (Some c) x m e = absurd (let q = old_low j facts.placed x c e in omega (arith, m, q))

  module _ (further : Bytes) (s : Machine) (st : IsLaidStart j l further s) where
    -- the table meets neither the private range nor the original
    table_new : (x : ℕ) → (table_image f x ≡ None) ⊎ ((private_image f x ≡ None) × (old x ≡ None))
    table_new x = by_side (side 0 0x20000 x)
      where
        by_side : ((0 ≤ x) × (x < 0x20000)) ⊎ ((x < 0) ⊎ (0x20000 ≤ x)) → (table_image f x ≡ None) ⊎ ((private_image f x ≡ None) × (old x ≡ None))
        by_side (inl p) = inr (no_private j l further s h k few st x (inl (let w = h.private_low in let q = p.1 in omega (arith, w, q))), old_none x (low_old (image_of j.orig x) x p.1 refl))
        by_side (inr (inl p)) = absurd (omega (arith, p))
        by_side (inr (inr p)) = inl (no_table j l further s h k few st x p)

    -- the parts of the file can be joined as base and rest, where none of them meet
    arrange : (t p q o u : Option Cell) → (t ≡ None) ⊎ ((p ≡ None) × (o ≡ None)) → (q ≡ None) ⊎ (o ≡ None)
        → or_else (or_else t (or_else p (or_else q o))) u ≡ or_else (or_else p o) (or_else (or_else t q) u)
    arrange (Some t) p q o u (inl e) b2 = absurd cc
    arrange (Some t) p q o u (inr e) b2 = sym ((λ i. or_else (or_else (e.0 i) (e.1 i)) (Some t)))
    arrange None (Some p) q o u a b2 = refl
    arrange None None (Some q) o u a (inl e) = absurd cc
    arrange None None (Some q) o u a (inr e) = sym (ap (λ z. or_else z (Some q)) e)
    arrange None None None o u a b2 = refl

    -- memory at the start is the base, the rest and further memory
    parts : (x : ℕ) → s.mem x ≡ joined (base_of j l) (joined (rest_of j l) further) x
    parts x =
        st.memory x ∙ ap (λ z. or_else z (further x)) ((loader_loads j l h k few).image x)
        ∙ arrange (table_image f x) (private_image f x) (stubs x) (old x) (further x) (table_new x) (stubs_new x)

    -- nothing stands where a page for code will
    page_bare : (p : Page) (x : ℕ) → IsPage j.private_lo j.private_hi j.groups p → (p.addr + 4096 ≤ l.at) ⊎ (l.at + 4096 * l.pages ≤ p.addr)
        → (p.addr + 4096 ≤ l.save) ⊎ (l.save + 4096 * 1 ≤ p.addr) → list_any (λ q. is_on q x) j.pages ≡ true → is_on p x ≡ true → s.mem x ≡ None
    page_bare p x w a c any on =
        let r = and_parts (nat_le p.addr x) (nat_lt (x - p.addr) 4096) on in
        let lo = leb-true p.addr x r.0 in
        let hi = ltb-true (x - p.addr) 4096 r.1 in
        let lw = w.low in
        let o = old_none x (h.new x (or_right (nat_le j.private_lo x && nat_lt x j.private_hi) (list_any (λ q. is_on q x) j.pages) any)) in
        let t = no_table j l further s h k few st x (omega (arith, lw, lo)) in
        let pv = no_private j l further s h k few st x (private_side lo hi w.apart) in
        let sb = no_stubs x (within_false l.at (4096 * l.pages) x (stub_side lo hi a)) (within_false l.save (4096 * 1) x (save_side lo hi c)) in
        st.memory x ∙ (λ i. or_else (((loader_loads j l h k few).image x ∙ (λ z. or_else (t z) (or_else (pv z) (or_else (sb z) (o z))))) i) (st.pages x any i))
      where
        private_side : p.addr ≤ x → x - p.addr < 4096 → (p.addr + 4096 ≤ j.private_lo) ⊎ (j.private_hi ≤ p.addr) → (x < j.private_lo) ⊎ (j.private_hi ≤ x)
        private_side lo hi (inl q) = inl (omega (arith, lo, hi, q))
        private_side lo hi (inr q) = inr (omega (arith, lo, hi, q))

        stub_side : p.addr ≤ x → x - p.addr < 4096 → (p.addr + 4096 ≤ l.at) ⊎ (l.at + 4096 * l.pages ≤ p.addr) → (x < l.at) ⊎ (l.at + 4096 * l.pages ≤ x)
        stub_side lo hi (inl q) = inl (omega (arith, lo, hi, q))
        stub_side lo hi (inr q) = inr (omega (arith, lo, hi, q))

        save_side : p.addr ≤ x → x - p.addr < 4096 → (p.addr + 4096 ≤ l.save) ⊎ (l.save + 4096 * 1 ≤ p.addr) → (x < l.save) ⊎ (l.save + 4096 * 1 ≤ x)
        save_side lo hi (inl q) = inl (omega (arith, lo, hi, q))
        save_side lo hi (inr q) = inr (omega (arith, lo, hi, q))

    -- no byte of a run is held at the start
    bare : (x : ℕ) → (pages_of file (stub_of j l) x ≡ None) ⊎ (s.mem x ≡ None)
    bare x = by_test (list_any (λ p. is_on p x) j.pages) refl
      where
        by_test : (t : Bool) → list_any (λ p. is_on p x) j.pages ≡ t → (pages_of file (stub_of j l) x ≡ None) ⊎ (s.mem x ≡ None)
        by_test false e = inl (pages_are x ∙ no_pages j x e)
        by_test true e = inr (any_elim {Q = s.mem x ≡ None} (λ p. is_on p x) j.pages e
            (all_map (λ p. IsPage j.private_lo j.private_hi j.groups p × (((p.addr + 4096 ≤ l.at) ⊎ (l.at + 4096 * l.pages ≤ p.addr)) × ((p.addr + 4096 ≤ l.save) ⊎ (l.save + 4096 * 1 ≤ p.addr))))
            (λ p. is_on p x ≡ true → s.mem x ≡ None) j.pages (λ p w on. page_bare p x w.0 w.1.0 w.1.1 e on)
            (all_both (IsPage j.private_lo j.private_hi j.groups) (λ p. ((p.addr + 4096 ≤ l.at) ⊎ (l.at + 4096 * l.pages ≤ p.addr)) × ((p.addr + 4096 ≤ l.save) ⊎ (l.save + 4096 * 1 ≤ p.addr))) j.pages h.pages
            (all_both (λ p. (p.addr + 4096 ≤ l.at) ⊎ (l.at + 4096 * l.pages ≤ p.addr)) (λ p. (p.addr + 4096 ≤ l.save) ⊎ (l.save + 4096 * 1 ≤ p.addr)) j.pages k.stub.pages k.save.pages))))

    -- each run's addresses are free when it is mapped
    free_runs : (rs : List FileRun) (m : Bytes) → PairsByRecursion RunsAscend rs → ((x : ℕ) → (image (map (run_chunk g) rs) x ≡ None) ⊎ (m x ≡ None))
        → AreFree file m (map (run_of at) rs)
    free_runs [] m c bare = tt
    free_runs (r ∷ rs) m c bare = (
      λ x p q. here x p q (bare x),
      free_runs rs (mapped file r.addr (4096 * r.count) (at + 4096 * r.first) m) c.1 (λ x. next x (side r.addr (r.addr + 4096 * r.count) x)),
    )
      where
        here : (x : ℕ) → r.addr ≤ x → x < r.addr + 4096 * r.count → (image (map (run_chunk g) (r ∷ rs)) x ≡ None) ⊎ (m x ≡ None) → m x ≡ None
        here x p q (inl e) = absurd (let w = sym (cond-true (is_within r.addr (4096 * r.count) x) (Some (cell_in (run_chunk g r) x)) (image (map (run_chunk g) rs) x) (within_true r.addr (4096 * r.count) x p q)) ∙ e in cc)
        here x p q (inr e) = e

        out : (x : ℕ) → (x < r.addr) ⊎ (r.addr + 4096 * r.count ≤ x) → r.addr ≤ x → x < r.addr + 4096 * r.count → ⊥
        out x (inl o) p q = omega (arith, o, p)
        out x (inr o) p q = omega (arith, o, q)

        by_out : (x : ℕ) → (x < r.addr) ⊎ (r.addr + 4096 * r.count ≤ x) → (image (map (run_chunk g) (r ∷ rs)) x ≡ None) ⊎ (m x ≡ None)
            → (image (map (run_chunk g) rs) x ≡ None) ⊎ (mapped file r.addr (4096 * r.count) (at + 4096 * r.first) m x ≡ None)
        by_out x o (inl e) = inl (sym (cond-false (is_within r.addr (4096 * r.count) x) (Some (cell_in (run_chunk g r) x)) (image (map (run_chunk g) rs) x) (within_false r.addr (4096 * r.count) x o)) ∙ e)
        by_out x o (inr e) = inr (mapped_outside file r.addr (4096 * r.count) (at + 4096 * r.first) m x (λ p q. out x o p q) ∙ e)

        next : (x : ℕ) → ((r.addr ≤ x) × (x < r.addr + 4096 * r.count)) ⊎ ((x < r.addr) ⊎ (r.addr + 4096 * r.count ≤ x))
            → (image (map (run_chunk g) rs) x ≡ None) ⊎ (mapped file r.addr (4096 * r.count) (at + 4096 * r.first) m x ≡ None)
        next x (inl p) = inl (later_none r rs x p.0 p.1 c.0)
        next x (inr o) = by_out x o (bare x)

    -- each run is free when it is mapped
    all_free : AreFree file s.mem (stub_of j l).runs
    all_free = free_runs (runs_of j.pages) s.mem (runs_pairs j.pieces j.pages h.pages_apart) (λ x. turned x (bare x))
      where
        turned : (x : ℕ) → (pages_of file (stub_of j l) x ≡ None) ⊎ (s.mem x ≡ None) → (image (map (run_chunk g) (runs_of j.pages)) x ≡ None) ⊎ (s.mem x ≡ None)
        turned x (inl e) = inl (sym (runs_are (runs_of j.pages) (job_runs j h) (runs_pairs j.pieces j.pages h.pages_apart) x) ∙ e)
        turned x (inr e) = inr e

    -- where the base has no byte, the original has none
    base_within : (o : Option Cell) (x : ℕ) → image_of j.orig x ≡ o → base_of j l x ≡ None → image_of j.orig x ≡ None
    base_within None x e b2 = e
    base_within (Some c) x e b2 = absurd (held (private_image f x) _ (sym (ap (λ z. or_else (private_image f x) (option_map (λ (y : Cell). record { byte = written_at j.writes x y.byte; perms = y.perms }) z)) e) ∙ b2))
      where
        held : (p : Option Cell) (d : Cell) → or_else p (Some d) ≡ None → ⊥
        held None d w = absurd cc
        held (Some y) d w = absurd cc

    -- a start state of the file falls into the parts of the stub's theorem
    has_parts : HasParts file (stub_of j l) (image_of j.orig) (base_of j l) (rest_of j l) further s
    has_parts = record {
      parts = parts;
      bare = bare;
      save = λ x p q. (λ i. or_else (no_private j l further s h k few st x (save_side x p q k.save.private) i) (old_none x (k.save.new x p (omega (arith, q))) i));
      within = λ x e. base_within (image_of j.orig x) x refl e;
    }
      where
        save_side : (x : ℕ) → l.save ≤ x → x < l.save + 4096 → (l.save + 4096 * 1 ≤ j.private_lo) ⊎ (j.private_hi ≤ l.save) → (x < j.private_lo) ⊎ (j.private_hi ≤ x)
        save_side x p q (inl y) = inl (omega (arith, q, y))
        save_side x p q (inr y) = inr (omega (arith, p, y))

-- the runs show the pages for code
pub runs_show_pages : RunsShowPages
runs_show_pages j l h k few x = pages_are j l h k few x

-- a start state of the loader form's file is in parts, none of which stands where a run will
pub laid_parts : LaidHasParts
laid_parts j l further s h k few st = has_parts j l h k few further s st

-- a start state of the loader form's file is one of the stub
pub laid_starts : LaidStarts
laid_starts j l further s h k few e st = starts j l further s h k few st e (all_free j l h k few further s st)

-- each start state of the loader form's file leads to a start pair of the original and the image without a table
pub loader_form_leads : LoaderFormLeadsOn
loader_form_leads j l further s h k few low st =
    let n : length (stub_of j l).runs ≡ length (runs_of j.pages) = length-map (runs_of j.pages) (run_of (frames.pages_at (bare_frame j l))) in
    let start = laid_starts j l further s h k few low st in
    let parts = laid_parts j l further s h k few st in
    let whole : bare_image j ≡ whole_image (file_of j l) (stub_of j l) (base_of j l) = fun_ext (λ x. bare_is j l h k few x) in
    record {
      ends = λ replies ok. stub_runs (file_of j l) (stub_of j l) s replies start ok;
      stops = λ given e y ok good short fails. stub_stops (file_of j l) (stub_of j l) s given e y start ok good (omega (arith, n, short)) fails;
      follows = λ replies ok long given.
          led_with (file_of j l) (stub_of j l) (image_of j.orig) (base_of j l)
          (IsStartPair (image_of j.orig) (whole_image (file_of j l) (stub_of j l) (base_of j l)) (entry_of j.orig))
          (IsStartPair (image_of j.orig) (bare_image j) (entry_of j.orig)) s
          (λ a u p. subst (λ (z : Bytes). IsStartPair (image_of j.orig) z (entry_of j.orig) a u) (sym whole) p)
          (loader_leads (file_of j l) (stub_of j l) (image_of j.orig) (base_of j l) (rest_of j l) further s replies start st.processor parts ok
          (omega (arith, n, long)) (subst (λ (z : ℕ). AreGiven (take (z + 1) replies)) (sym n) given));
    }

-- what follows from what holds at the entry is that to which a start state leads
pub leads_with : (j : Job) (l : Laid) (runs : ℕ) (original : Bytes) (P Q : Machine → Machine → Type 0) (s : Machine)
    → ((a u : Machine) → P a u → Q a u) → LeadsOn j l runs original P s → LeadsOn j l runs original Q s
leads_with j l runs original P Q s f h = record {
  ends = h.ends;
  stops = h.stops;
  follows = λ replies ok long given. led_with (file_of j l) (stub_of j l) original (base_of j l) P Q s f (h.follows replies ok long given);
}

-- where no open and no mmap fails, the headline of an image without a table holds from the stub's last state on
pub loader_form_followed : LoaderFormIsFollowed
loader_form_followed j l further r s replies h k few low st same patched entry head ok long given =
    let led = (loader_form_leads j l further s h k few low st).follows replies ok long given in
    led_with (file_of j l) (stub_of j l) r.original (base_of j l) (IsStartPair r.original (bare_image j) (entry_of j.orig)) (GoesOn r) s
    (goes_on r (bare_image j) (entry_of j.orig) patched entry head)
    (subst (λ (z : Bytes). IsLedOn (file_of j l) (stub_of j l) z (base_of j l) (IsStartPair z (bare_image j) (entry_of j.orig)) s) (sym same) led)
