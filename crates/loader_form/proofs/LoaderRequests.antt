-- What `emit_loader` is asked gives what it hands on.
use Rattle.std.proofs.Common.{◌≡◌, inl, ℕ, ◌+◌, ◌-◌, ◌*◌, ◌/◌, ◌^◌, ◌<◌, ◌≤◌, List, [], ◌∷◌, ◌++◌, length, length-append, map, replicate, Some, Result, Ok, Err, refl, sym, ap, ◌∙◌, subst, arith, append_assoc}
use Rattle.std.specs.Prelude.{IfOk, OnOk}
use Rattle.std.specs.List.{AllByRecursion}
use Rattle.std.proofs.lemmas.List.{length-replicate, length-map, replicate-append-replicate}
use Rattle.pun_base.specs.Shown.{DeskState}
use Rattle.pun_base.specs.declared.plan.Write.{Write}
use Rattle.pun_base.specs.declared.range.Range.{Range}
use Rattle.page_group.specs.Grouping.{GroupsState, group_count}
use Rattle.page_group.proofs.Groupings.{groups_are_few}
use Rattle.elf_read.specs.Entries.{entry_of}
use Rattle.elf_emit.specs.declared.emit.EmitError.{EmitError}
use Rattle.elf_emit.specs.declared.emit.EmitError.TheVariants as emit
use Rattle.elf_emit.specs.declared.runs.Run.{Run as FileRun}
use Rattle.elf_emit.specs.declared.runs.Part.{Part}
use Rattle.elf_emit.specs.Job.{Frame, Job}
use Rattle.elf_emit.specs.Frames as frames
use Rattle.elf_emit.specs.FrameLaws.{IsFrame}
use Rattle.elf_emit.specs.Layout.{runs_of, group_pages}
use Rattle.elf_emit.specs.Laws.{IsJob}
use Rattle.elf_emit.specs.declared.built.Built.{Built}
use Rattle.elf_emit.specs.Emits.{page_of_home, pages_of, emit_job, EmitsFrame, Places, IsFrameOf}
use Rattle.elf_emit.specs.Views.{tailed, pieces_of}
use Rattle.elf_emit.proofs.StayingSegments.{all_map}
use Rattle.elf_emit.proofs.OriginalFacts.{facts_of}
use Rattle.elf_emit.proofs.WrittenTable.{IsRun, pages_low}
use Rattle.elf_emit.proofs.PageRuns.{job_runs}
use Rattle.elf_emit.proofs.JobConditions.{few_pages}
use Rattle.site_turns.specs.PlannedState.{PlannedState}
use Rattle.site_turns.specs.Planning.{Request}
use Rattle.site_turns.specs.PlanLaws.{writes_of}
use Rattle.site_turns.proofs.PlannedJobs.{writing_is_job}
use Rattle.loader_form.specs.Stub.{Stub}
use Rattle.loader_form.specs.LoaderState.{LoaderState}
use Rattle.loader_form.specs.Laid.{Laid, stub_part, save_part, bare_frame, run_of, RecordFits, stub_of, stub_bytes, stub_pages, loader_frame, IsLaid, LaidLoads}
use Rattle.loader_form.specs.Lay.{stub_count, laid_of}
use Rattle.loader_form.specs.Loading.{load_job, IsLoading}
use Rattle.loader_form.proofs.StubLengths.{stub_length}
use Rattle.loader_form.proofs.LaidFile.{laid_frame, loader_loads}
use Rattle.loader_form.proofs.LaidPages.{laid_for}

-- zeros in two parts
more_zeros : (xs : List ℕ) (a b n : ℕ) → n ≡ a + b → xs ++ replicate n 0 ≡ (xs ++ replicate a 0) ++ replicate b 0
more_zeros xs a b n e =
    ap (λ (k : ℕ). xs ++ replicate k 0) e ∙ ap (λ (z : List ℕ). xs ++ z) (sym (replicate-append-replicate {A = ℕ} a b 0))
    ∙ sym (append_assoc xs (replicate a 0) (replicate b 0))

module _ {file : List ℕ} {p : PlannedState} {groups : GroupsState} {l : LoaderState} {q : Request} (w : IsLoading file p groups l q) (size : length file < 2 ^ 63) where
  abbrev pub j : Job
  j = load_job file p groups

  abbrev pub d : Laid
  d = laid_of l

  -- what is to be loaded is a job
  pub is_job : IsJob j
  is_job = subst (λ (z : List ℕ). IsJob (load_job z p groups)) w.file_is
      (writing_is_job q p groups w.asked w.can w.groups_are (subst (λ (z : List ℕ). length z < 2 ^ 63) (sym w.file_is) size))

  -- stub and save page are laid for that job
  pub is_laid : IsLaid j d
  is_laid = subst (λ (z : List ℕ). IsLaid (load_job z p groups) d) w.file_is (laid_for q p groups l w.groups_are w.laid)

  -- the file of the loader form keeps the conditions of a written file
  pub is_frame : IsFrame (loader_frame j d)
  is_frame = laid_frame j d is_job is_laid

  -- what is handed on after n group pages
  abbrev pub parts_at : ℕ → List Part
  parts_at n =
      record { addr = l.stub.lo; first = n; count = stub_count l.runs; perms = 5 }
      ∷ record { addr = l.save.lo; first = n + stub_count l.runs; count = 1; perms = 6 } ∷ []

  -- that file is made of the parts and the private range that are handed to what tells where its pages begin
  pub frame_is_of : (n : ℕ) (parts : List Part) (private : Range) → n ≡ j.groups → parts ≡ parts_at n → private ≡ p.private
      → IsFrameOf file parts private.lo private.hi (loader_frame j d)
  frame_is_of n parts private k e h = record {
    frame = is_frame;
    orig = refl;
    parts = sym (e ∙ ap parts_at k);
    lo = ap (λ (r : Range). r.lo) (sym h);
    hi = ap (λ (r : Range). r.hi) (sym h);
  }

  -- there are at most 65535 runs
  pub few_runs : l.runs ≤ 65535
  few_runs = let a = w.laid.runs in let b = w.laid.few in omega (arith, a, b)

  -- group pages and the stub's pages are fewer than 2^32
  pub few_groups : group_count groups.homes + stub_count l.runs < 2 ^ 32
  few_groups =
      let a = groups_are_few groups.pieces groups.homes w.groups_are.1 in
      let b = few_pages p.private.lo p.private.hi (group_count groups.homes) (pages_of groups.homes) (pieces_of p.built) is_job.pages is_job.pages_apart in
      let m = length-map groups.homes page_of_home in
      let n = length-map groups.homes (λ (x : ℕ × ℕ). x.0) in
      let f = is_laid.few in
      omega (arith, a, b, m, n, f)

  -- the stub's pages have room for its code, its path and a record of each run
  pub room : 4112 + 16 * length (runs_of j.pages) ≤ 4096 * stub_count l.runs
  room = let r = is_laid.room in let n = stub_length (stub_of j d) in let m = length-map (runs_of j.pages) (run_of (frames.pages_at (bare_frame j d))) in omega (arith, r, n, m)

  -- where the table isn't too long, the numbers of each run's record fit
  pub records_fit : (at : ℕ) → frames.count (loader_frame j d) ≤ 1024 → at ≡ frames.pages_at (bare_frame j d) → AllByRecursion (RecordFits at) (runs_of j.pages)
  records_fit at few e =
      let low = pages_low (loader_frame j d) (facts_of (loader_frame j d) is_frame few) is_frame in
      let g = is_job.few_groups in
      all_map (IsRun j.groups) (RecordFits at) (runs_of j.pages) (λ r k. let h = k.high in let s = k.shown in (omega (arith, h), omega (arith, low, e, s, g))) (job_runs j is_job)

  -- the stub's bytes, and zeros up to the length handed on, are the stub's pages and the save page
  pub tail_is : (at len : ℕ) (runs : List FileRun) (bytes : List ℕ) → at ≡ frames.pages_at (bare_frame j d) → runs ≡ runs_of j.pages → len ≡ (stub_count l.runs + 1) * 4096
      → ((b : Stub) → b.at ≡ l.stub.lo → b.save ≡ l.save.lo → b.entry ≡ entry_of file → b.runs ≡ map (run_of at) runs
      → bytes ≡ stub_bytes b ++ replicate (len - length (stub_bytes b)) 0)
      → bytes ≡ stub_pages j d ++ replicate 4096 0
  tail_is at len runs bytes a e n h =
      let b : Stub = stub_of j d in
      let r = is_laid.room in
      h b refl refl refl (λ i. map (run_of (sym a i)) (sym e i))
      ∙ more_zeros (stub_bytes b) (4096 * stub_count l.runs - length (stub_bytes b)) 4096 (len - length (stub_bytes b)) (omega (arith, r, n))

  -- the bytes that a call has made are the stub's pages and the save page
  pub tail_made : {V E : Type 0} (r : Result V E) (items : V → List ℕ) (at len a s e : ℕ) (runs : List FileRun) → at ≡ frames.pages_at (bare_frame j d) → runs ≡ runs_of j.pages
      → len ≡ (stub_count l.runs + 1) * 4096 → a ≡ l.stub.lo → s ≡ l.save.lo → e ≡ entry_of file
      → IfOk r (λ v. (b : Stub) → b.at ≡ a → b.save ≡ s → b.entry ≡ e → b.runs ≡ map (run_of at) runs → items v ≡ stub_bytes b ++ replicate (len - length (stub_bytes b)) 0)
      → IfOk r (λ v. items v ≡ stub_pages j d ++ replicate 4096 0)
  tail_made (Ok v) items at len a s e runs p0 k n x y z h =
      tail_is at len runs (items v) p0 k n (λ b ea es ee er. h b (ea ∙ sym x) (es ∙ sym y) (ee ∙ sym z) er)
  tail_made (Err v) items at len a s e runs p0 k n x y z h = tt

  -- the stub's pages and the save page have their length
  pub tail_length : length (stub_pages j d ++ replicate 4096 0) ≡ 4096 * (stub_count l.runs + 1)
  tail_length =
      let sb = stub_bytes (stub_of j d) in
      let e = length-replicate {A = ℕ} (4096 * stub_count l.runs - length sb) 0 in
      let z = length-replicate {A = ℕ} 4096 0 in
      let r = is_laid.room in
      let m = length-append sb (replicate (4096 * stub_count l.runs - length sb) 0) in
      length-append (stub_pages j d) (replicate 4096 0) ∙ omega (arith, e, z, r, m)

  -- the job with these pages after it is the file of the loader form
  pub tailed_is : (bytes : List ℕ) (parts : List Part) → bytes ≡ stub_pages j d ++ replicate 4096 0 → parts ≡ stub_part j d ∷ save_part j d ∷ [] → tailed j bytes parts (Some l.stub.lo) ≡ loader_frame j d
  tailed_is bytes parts e k =
      let n = ap length e in
      let m = tail_length in
      let f : j.groups + length bytes / 4096 ≡ j.groups + (stub_count l.runs + 1) = omega (arith, n, m) in
      λ i. record {
        orig = j.orig;
        writes = j.writes;
        private_lo = j.private_lo;
        private_hi = j.private_hi;
        body = group_pages j.pieces j.pages 0 j.groups ++ e i;
        files = f i;
        parts = k i;
        entry = Some l.stub.lo;
      }

  -- the job is the loader form's with the writes, the code and the private range as they are handed on
  pub all_handed : (ws : List Write) (bs : List Built) (private : Range) (bytes : List ℕ) (n : ℕ) (parts : List Part) (start : ℕ) → ws ≡ writes_of p.rows → bs ≡ p.built
      → private ≡ p.private → bytes ≡ stub_pages j d ++ replicate 4096 0 → n ≡ j.groups → parts ≡ parts_at n → start ≡ l.stub.lo
      → tailed (emit_job file ws bs groups private.lo private.hi) bytes parts (Some start) ≡ loader_frame j d
  all_handed ws bs private bytes n parts start a b c e m k h =
      (λ i. tailed (emit_job file (a i) (b i) groups (c i).lo (c i).hi) bytes parts (Some (h i))) ∙ tailed_is bytes parts e (k ∙ ap parts_at m)

  -- where the file was written whole, it loads what is laid
  pub loads_when : (name : List ℕ) (s t : DeskState) (r : Result (Unit {0}) EmitError) → EmitsFrame (loader_frame j d) name s t r → OnOk r (LaidLoads j d)
  loads_when name s t (Ok u) h = loader_loads j d is_job is_laid h.0
  loads_when name s t (Err x) h = tt

-- where there is no place for the pages, nothing is written
pub unplaced : (f : Frame) (name : List ℕ) (s : DeskState) (error : EmitError) → Places f (Err error) → EmitsFrame f name s s (Err error)
unplaced f name s (emit.TooManySegments n) h = (h.0, h.1, refl)
unplaced f name s emit.WriteFault h = absurd h
unplaced f name s emit.Memory h = inl refl
