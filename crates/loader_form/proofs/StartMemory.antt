-- What stands in memory where the loader form's file starts.
use Rattle.std.proofs.Common.{◌≡◌, ◌⊎◌, inl, inr, ℕ, suc, ◌+◌, ◌-◌, ◌*◌, ◌^◌, ◌<◌, ◌≤◌, List, [], ◌∷◌, ◌++◌, length, length-append, map, replicate, Some, None, ap, ◌∙◌, subst, arith}
use Rattle.std.specs.Prelude.{slice_index}
use Rattle.std.specs.List.{AllByRecursion}
use Rattle.std.proofs.lemmas.Bool.{cond-true, cond-false}
use Rattle.std.proofs.lemmas.List.{length-replicate}
use Rattle.pun_base.specs.Memory.{Bytes, or_else}
use Rattle.pun_base.specs.Ranges.{is_within}
use Rattle.cpu_state.specs.Bytes.{allows}
use Rattle.insn_form.specs.Machine.{Machine}
use Rattle.elf_read.specs.Entries.{entry_of}
use Rattle.elf_read.specs.Image.{image, image_of}
use Rattle.elf_read.proofs.FileSlices.{slice_middle}
use Rattle.elf_emit.specs.declared.runs.Run.{Run as FileRun}
use Rattle.elf_emit.specs.Job.{Frame, Job}
use Rattle.elf_emit.specs.Layout.{runs_of, group_pages}
use Rattle.elf_emit.specs.Frames as frames
use Rattle.elf_emit.specs.Laws.{IsJob, with_writes}
use Rattle.elf_emit.specs.FrameLaws.{table_image, private_image, part_chunk}
use Rattle.elf_emit.proofs.OriginalFacts.{facts_of}
use Rattle.elf_emit.proofs.WrittenTable.{IsRun, pages_low}
use Rattle.elf_emit.proofs.PagesOfLayout.{length_layout}
use Rattle.elf_emit.proofs.PageRuns.{ClearRun, runs_clear, job_runs}
use Rattle.elf_emit.proofs.GroupPages.{length_group_pages}
use Rattle.scheme_search.proofs.OneJumpBytes.{within_true, within_false}
use Rattle.loader_form.specs.Stub.{Stub, path, records_of, end_of, stub_code}
use Rattle.loader_form.specs.Laid.{Laid, stub_part, save_part, bare_frame, run_of, stub_of, stub_bytes, stub_pages, loader_frame, file_of, IsApart, IsLaid, LaidLoads}
use Rattle.loader_form.specs.Starting.{IsLoaded, IsRunOf, AreRunsOf, AreFree, IsStart, IsLaidStart}
use Rattle.loader_form.proofs.StubLengths.{stub_length, loaded_front, loaded_back}
use Rattle.loader_form.proofs.LaidFile.{laid_frame, loader_loads}

-- bytes that are held one by one, to be read and executed, are loaded from an address on
loaded_from : (m : Bytes) (a : ℕ) (bs : List ℕ) → ((i : ℕ) → i < length bs → m (a + i) ≡ Some (record { byte = slice_index bs i; perms = 5 })) → IsLoaded m a bs
loaded_from m a [] h = tt
loaded_from m a (b ∷ bs) h =
    let e : a + 0 ≡ a = omega arith in (
      subst (λ (z : ℕ). m z ≡ Some (record { byte = b; perms = 5 })) e (h 0 (omega arith)),
      loaded_from m (a + 1) bs (λ i l. let q : a + suc i ≡ a + 1 + i = omega arith in subst (λ (z : ℕ). m z ≡ Some (record { byte = slice_index bs i; perms = 5 })) q (h (suc i) (omega (arith, l)))),
    )

module _ (j : Job) (l : Laid) (further : Bytes) (s : Machine) (h : IsJob j) (k : IsLaid j l) (few : frames.count (loader_frame j l) ≤ 1024)
    (st : IsLaidStart j l further s) where
  abbrev f : Frame
  f = loader_frame j l

  abbrev b : Stub
  b = stub_of j l

  -- the loader form's file loads its parts
  loads : LaidLoads j l
  loads = loader_loads j l h k few

  -- from 0x20000 on no byte is the table's
  pub no_table : (x : ℕ) → 0x20000 ≤ x → table_image f x ≡ None
  no_table x l2 = cond-false (is_within 0x10000 (56 * frames.count f) x) _ None (within_false 0x10000 (56 * frames.count f) x (inr (omega (arith, few, l2))))

  -- outside the private range no byte is one of it
  pub no_private : (x : ℕ) → (x < j.private_lo) ⊎ (j.private_hi ≤ x) → private_image f x ≡ None
  no_private x o = cond-false (is_within j.private_lo (j.private_hi - j.private_lo) x) _ None (within_false j.private_lo (j.private_hi - j.private_lo) x (by_side o))
    where
      by_side : (x < j.private_lo) ⊎ (j.private_hi ≤ x) → (x < j.private_lo) ⊎ (j.private_lo + (j.private_hi - j.private_lo) ≤ x)
      by_side (inl p) = inl p
      by_side (inr p) = inr (let q = h.private_some in omega (arith, p, q))

  -- an address of whole pages that are apart
  clear : (at n x : ℕ) → IsApart j at n → at ≤ x → x < at + 4096 * n → (table_image f x ≡ None) × (private_image f x ≡ None)
  clear at n x a p q = let w = a.low in (no_table x (omega (arith, w, p)), no_private x (by_side a.private))
    where
      by_side : (at + 4096 * n ≤ j.private_lo) ⊎ (j.private_hi ≤ at) → (x < j.private_lo) ⊎ (j.private_hi ≤ x)
      by_side (inl r) = inl (omega (arith, q, r))
      by_side (inr r) = inr (omega (arith, p, r))

  -- the stub's pages have their length
  pages_length : length (stub_pages j l) ≡ 4096 * l.pages
  pages_length =
      let sb = stub_bytes (stub_of j l) in
      let e = length-replicate {A = ℕ} (4096 * l.pages - length sb) 0 in
      let r = k.room in
      length-append sb (replicate (4096 * l.pages - length sb) 0) ∙ omega (arith, e, r)

  -- the file's body has the stub's pages after the group pages
  stub_shown : frames.slice (4096 * l.pages) (4096 * j.groups) f.body ≡ stub_pages j l
  stub_shown = slice_middle (4096 * l.pages) (4096 * j.groups) (group_pages j.pieces j.pages 0 j.groups) (stub_pages j l) (replicate 4096 0)
      (length_group_pages j 0 j.groups) pages_length

  -- the stub's pages are loaded, R-X
  stub_at : (i : ℕ) → i < 4096 * l.pages → s.mem (l.at + i) ≡ Some (record { byte = slice_index (stub_pages j l) i; perms = 5 })
  stub_at i p =
      let x = l.at + i in
      let c = clear l.at l.pages x k.stub (omega arith) (omega (arith, p)) in
      let e : l.at + i - l.at ≡ i = omega arith in
      let shown : image (part_chunk f.body (stub_part j l) ∷ part_chunk f.body (save_part j l) ∷ []) x ≡ Some (record { byte = slice_index (stub_pages j l) i; perms = 5 }) =
      cond-true (is_within l.at (4096 * l.pages) x) _ _ (within_true l.at (4096 * l.pages) x (omega arith) (omega (arith, p)))
      ∙ (λ z. Some (record { byte = slice_index (stub_shown z) (e z); perms = 5 })) in
      st.memory x ∙ ap (λ z. or_else z (further x)) (loads.image x
      ∙ (λ z. or_else (c.0 z) (or_else (c.1 z) (or_else (shown z) (with_writes j.writes (image_of j.orig) x)))))

  -- the save page is loaded, RW
  save_at : (x : ℕ) → l.save ≤ x → x < l.save + 4096 → (n : ℕ) × (s.mem x ≡ Some (record { byte = n; perms = 6 }))
  save_at x p q =
      let c = clear l.save 1 x k.save p (omega (arith, q)) in
      let shown = cond-false (is_within l.at (4096 * l.pages) x) (Some (record { byte = slice_index (frames.slice (4096 * l.pages) (4096 * j.groups) f.body) (x - l.at); perms = 5 }))
      (image (part_chunk f.body (save_part j l) ∷ []) x) (within_false l.at (4096 * l.pages) x (by_side k.apart))
      ∙ cond-true (is_within l.save (4096 * 1) x) (Some (record { byte = slice_index (frames.slice (4096 * 1) (4096 * (j.groups + l.pages)) f.body) (x - l.save); perms = 6 })) None
      (within_true l.save (4096 * 1) x p (omega (arith, q))) in (
        slice_index (frames.slice (4096 * 1) (4096 * (j.groups + l.pages)) f.body) (x - l.save),
        st.memory x ∙ ap (λ z. or_else z (further x)) (loads.image x
            ∙ (λ z. or_else (c.0 z) (or_else (c.1 z) (or_else (shown z) (with_writes j.writes (image_of j.orig) x))))),
      )
    where
      by_side : (l.at + 4096 * l.pages ≤ l.save) ⊎ (l.save + 4096 ≤ l.at) → (x < l.at) ⊎ (l.at + 4096 * l.pages ≤ x)
      by_side (inl r) = inr (omega (arith, p, r))
      by_side (inr r) = inl (omega (arith, q, r))

  -- the stub's parts
  all_loaded : IsLoaded s.mem l.at (stub_bytes b)
  all_loaded = loaded_front s.mem l.at (stub_bytes b) (replicate (4096 * l.pages - length (stub_bytes b)) 0)
      (loaded_from s.mem l.at (stub_pages j l) (λ i p. stub_at i (let e = pages_length in omega (arith, p, e))))

  abbrev gap : List ℕ
  gap = replicate (4096 - 276) 0

  -- what follows the stub's code is loaded
  behind_code : IsLoaded s.mem (l.at + 276) (gap ++ (path ++ records_of b.runs))
  behind_code = loaded_back s.mem l.at (stub_code b) (gap ++ (path ++ records_of b.runs)) all_loaded

  -- the path and the records are loaded
  from_path : IsLoaded s.mem (l.at + 4096) (path ++ records_of b.runs)
  from_path =
      let n = length-replicate {A = ℕ} (4096 - 276) 0 in
      let e : l.at + 276 + length gap ≡ l.at + 4096 = omega (arith, n) in
      subst (λ (z : ℕ). IsLoaded s.mem z (path ++ records_of b.runs)) e (loaded_back s.mem (l.at + 276) gap (path ++ records_of b.runs) behind_code)

  -- the records are loaded
  from_records : IsLoaded s.mem (l.at + 4112) (records_of b.runs)
  from_records =
      let e : l.at + 4096 + 16 ≡ l.at + 4112 = omega arith in
      subst (λ (z : ℕ). IsLoaded s.mem z (records_of b.runs)) e (loaded_back s.mem (l.at + 4096) path (records_of b.runs) from_path)

  -- the records end within the stub's pages
  end_inside : end_of b ≤ l.at + 4096 * l.pages
  end_inside = let r = k.room in let e = stub_length b in omega (arith, r, e)

  -- the runs
  one_run : (r : FileRun) → IsRun j.groups r → ClearRun l.at (l.at + 4096 * l.pages) r → ClearRun l.save (l.save + 4096 * 1) r
      → IsRunOf (file_of j l) b (run_of (frames.pages_at (bare_frame j l)) r)
  one_run r i c d =
      let fr = laid_frame j l h k in
      let facts = facts_of f fr few in
      let n = length_layout f fr facts in
      let q = pages_low f facts fr in
      let sh = i.shown in let g = h.few_groups in
      record {
        low = i.high;
        inside = omega (arith, n, sh);
        small = omega (arith, q, sh, g);
        apart = λ x lo hi. (stub_side x lo hi c, save_side x lo hi d);
      }
    where
      stub_side : (x : ℕ) → r.addr ≤ x → x < r.addr + 4096 * r.count → ClearRun l.at (l.at + 4096 * l.pages) r → (x < l.at) ⊎ (end_of b ≤ x)
      stub_side x lo hi (inl y) = inl (omega (arith, hi, y))
      stub_side x lo hi (inr y) = inr (let e = end_inside in omega (arith, lo, y, e))

      save_side : (x : ℕ) → r.addr ≤ x → x < r.addr + 4096 * r.count → ClearRun l.save (l.save + 4096 * 1) r → (x < l.save) ⊎ (l.save + 4096 ≤ x)
      save_side x lo hi (inl y) = inl (omega (arith, hi, y))
      save_side x lo hi (inr y) = inr (omega (arith, lo, y))

  -- each run lies in the file and meets neither stub nor save page
  all_runs : (rs : List FileRun) → AllByRecursion (IsRun j.groups) rs → AllByRecursion (ClearRun l.at (l.at + 4096 * l.pages)) rs
      → AllByRecursion (ClearRun l.save (l.save + 4096 * 1)) rs → AreRunsOf (file_of j l) b (map (run_of (frames.pages_at (bare_frame j l))) rs)
  all_runs [] i c d = tt
  all_runs (r ∷ rs) i c d = (one_run r i.0 c.0 d.0, all_runs rs i.1 c.1 d.1)

  -- the stub starts where the runs are free
  pub starts : entry_of j.orig < 2 ^ 64 → AreFree (file_of j l) s.mem b.runs → IsStart (file_of j l) b s
  starts e free =
      let a = k.stub.high in
      let v = k.save.high in
      record {
        processor = st.processor.core;
        there = st.there ∙ loads.entry;
        code = loaded_front s.mem l.at (stub_code b) (gap ++ (path ++ records_of b.runs)) all_loaded;
        path = loaded_front s.mem (l.at + 4096) path (records_of b.runs) from_path;
        records = from_records;
        low = (let q = end_inside in omega (arith, a, q));
        read = λ x p q. ap (allows 4) (save_at x p q).1;
        written = λ x p q. ap (allows 2) (save_at x p q).1;
        low_save = omega (arith, v);
        apart = by_side k.apart;
        entry = e;
        runs = all_runs (runs_of j.pages) (job_runs j h)
            (runs_clear l.at (l.at + 4096 * l.pages) j.pages (let q = k.some in omega (arith, q)) k.stub.pages)
            (runs_clear l.save (l.save + 4096 * 1) j.pages (omega arith) k.save.pages);
        free = free;
      }
    where
      by_side : (l.at + 4096 * l.pages ≤ l.save) ⊎ (l.save + 4096 ≤ l.at) → (end_of b ≤ l.save) ⊎ (l.save + 4096 ≤ l.at)
      by_side (inl r) = inl (let q = end_inside in omega (arith, r, q))
      by_side (inr r) = inr r
