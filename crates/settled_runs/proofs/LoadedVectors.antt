-- The loader form's stub leaves the vector as a kernel left it.
use Rattle.std.proofs.Common.{◌≡◌, ◌⊎◌, inl, inr, ℕ, ◌+◌, ◌*◌, ◌<◌, ◌≤◌, Bool, true, false, cond, List, map, Option, Some, None, refl, sym, ap, ◌∙◌, subst}
use Rattle.std.proofs.Math.Path.{fun_ext}
use Rattle.std.proofs.lemmas.Bool.{true≢false}
use Rattle.pun_base.specs.Memory.{Cell, Bytes, or_else, joined}
use Rattle.pun_base.specs.Ranges.{is_within}
use Rattle.cpu_state.specs.declared.state.Core.{Core}
use Rattle.insn_form.specs.Machine.{Machine}
use Rattle.insn_form.specs.Operands.{reg}
use Rattle.image_runs.specs.Quiet.{IsStartPair}
use Rattle.image_runs.proofs.MemorySoFar.{else_none}
use Rattle.elf_read.specs.Entries.{entry_of}
use Rattle.elf_read.specs.Image.{image, image_of}
use Rattle.elf_emit.specs.Job.{Job}
use Rattle.elf_emit.specs.Frames as frames
use Rattle.elf_emit.specs.Laws.{IsJob, with_writes, bare_image}
use Rattle.elf_emit.specs.FrameLaws.{table_image, private_image, part_chunk}
use Rattle.scheme_search.proofs.OneJumpBytes.{within_true}
use Rattle.site_turns.specs.PlanLaws.{job_for}
use Rattle.site_turns.proofs.PlannedJobs.{writing_is_job}
use Rattle.loader_form.specs.Laid.{Laid, stub_of, loader_frame, file_of, IsLaid}
use Rattle.loader_form.specs.Lay.{run_count, laid_of}
use Rattle.loader_form.specs.Starting.{IsLaidStart}
use Rattle.loader_form.specs.Kernel.{last_state}
use Rattle.loader_form.specs.Running.{IsAtEntry}
use Rattle.loader_form.specs.Continuing.{pages_of, whole_image, HasParts, or_not, original_start}
use Rattle.loader_form.specs.Continuing.{beside as left_of}
use Rattle.loader_form.specs.Parting.{base_of, rest_of}
use Rattle.loader_form.proofs.StubLengths.{side}
use Rattle.loader_form.proofs.LaidFile.{loader_loads}
use Rattle.loader_form.proofs.LaidPages.{laid_for}
use Rattle.loader_form.proofs.MemoryAtEntry.{keeps_further}
use Rattle.loader_form.proofs.MemoryParts.{laid_parts, leads_with}
use Rattle.loader_form.proofs.PlannedLoader.{written_leads}
use Rattle.settled_runs.specs.Vector.{variables_at, pairs_at, IsVector}
use Rattle.settled_runs.specs.Quiet.{GoesOnSettled}
use Rattle.settled_runs.specs.Started.{IsKernelPair}
use Rattle.settled_runs.specs.Loaded.{LoadersKeepVectors, SettledIsLoaded}
use Rattle.settled_runs.proofs.StartedFiles.{seen_word, seen_variables, seen_pairs}
use Rattle.settled_runs.proofs.StartedRewritings.{settled_is_started}

-- a memory that holds what another does is joined of what else it holds and the other
as_joined : (c d : Option Cell) → (c ≡ None) ⊎ (d ≡ c) → or_else (or_not c d) c ≡ d
as_joined None d h = else_none d
as_joined (Some c) d (inl e) = absurd cc
as_joined (Some c) d (inr e) = sym e

not_both : (c d : Option Cell) → (or_not c d ≡ None) ⊎ (c ≡ None)
not_both None d = inr refl
not_both (Some c) d = inl refl

-- so it holds the vector that the other holds
pub vector_kept : (m w : Bytes) (a n : ℕ) (vs ks : List ℕ) → ((x : ℕ) → (m x ≡ None) ⊎ (w x ≡ m x)) → IsVector m a n vs ks → IsVector w a n vs ks
vector_kept m w a n vs ks h v =
    let im : Bytes = left_of m w in
    let e : joined im m ≡ w = fun_ext (λ x. as_joined (m x) (w x) (h x)) in
    let apart : (x : ℕ) → (im x ≡ None) ⊎ (m x ≡ None) = λ x. not_both (m x) (w x) in
    let seen : IsVector (joined im m) a n vs ks = record {
      count = seen_word im m a n apart v.count;
      variables = seen_variables im vs m (variables_at a n) apart v.variables;
      pairs = seen_pairs im ks m (pairs_at a n vs) apart v.pairs;
      fits = v.fits;
    } in
    subst (λ (z : Bytes). IsVector z a n vs ks) e seen

-- where two cells joined are none, both are
neither : (c d : Option Cell) → or_else c d ≡ None → (c ≡ None) × (d ≡ None)
neither None d e = (refl, e)
neither (Some c) d e = absurd cc

-- the second of two parts has no cell where both have none
no_second : (t u : Bool) (c d : Cell) → cond t (Some c) (cond u (Some d) None) ≡ None → u ≡ false
no_second true u c d e = absurd cc
no_second false true c d e = absurd cc
no_second false false c d e = refl

outside : (lo n x : ℕ) → is_within lo n x ≡ false → (x < lo) ⊎ (lo + n ≤ x)
outside lo n x e = by_side (side lo (lo + n) x)
  where
    by_side : ((lo ≤ x) × (x < lo + n)) ⊎ ((x < lo) ⊎ (lo + n ≤ x)) → (x < lo) ⊎ (lo + n ≤ x)
    by_side (inl p) = absurd (true≢false (sym (within_true lo n x p.0 p.1) ∙ e))
    by_side (inr o) = o

module _ (j : Job) (l : Laid) (h : IsJob j) (k : IsLaid j l) (few : frames.count (loader_frame j l) ≤ 1024) (further : Bytes) (s : Machine) (st : IsLaidStart j l further s) where
  parts : HasParts (file_of j l) (stub_of j l) (image_of j.orig) (base_of j l) (rest_of j l) further s
  parts = laid_parts j l further s h k few st

  -- of a byte of further memory no part of the file has a byte, and none is mapped there
  record IsFurther (x : ℕ) : Type 0 where
    pub base : base_of j l x ≡ None
    pub rest : rest_of j l x ≡ None
    pub save : (x < l.save) ⊎ (l.save + 4096 ≤ x)
    pub pages : pages_of (file_of j l) (stub_of j l) x ≡ None

  no_page : (x : ℕ) (c : Cell) → (pages_of (file_of j l) (stub_of j l) x ≡ None) ⊎ (s.mem x ≡ None) → s.mem x ≡ Some c → pages_of (file_of j l) (stub_of j l) x ≡ None
  no_page x c (inl e) q = e
  no_page x c (inr e) q = absurd (let z : Some c ≡ None = sym q ∙ e in cc)

  is_further : (x : ℕ) (c : Cell) → further x ≡ Some c → image_of (file_of j l) x ≡ None → IsFurther x
  is_further x c q n =
      let f = loader_frame j l in
      let two = image (map (part_chunk f.body) f.parts) in
      let old = with_writes j.writes (image_of j.orig) in
      let e : or_else (table_image f x) (or_else (private_image f x) (or_else (two x) (old x))) ≡ None = sym ((loader_loads j l h k few).image x) ∙ n in
      let e1 = neither (table_image f x) (or_else (private_image f x) (or_else (two x) (old x))) e in
      let e2 = neither (private_image f x) (or_else (two x) (old x)) e1.1 in
      let e3 = neither (two x) (old x) e2.1 in
      let held : s.mem x ≡ Some c = st.memory x ∙ ap (λ z. or_else z (further x)) n ∙ q in
      record {
        base = λ i. or_else (e2.0 i) (e3.1 i);
        rest = λ i. or_else (e1.0 i) (e3.0 i);
        save = outside l.save 4096 x (no_second (is_within l.at (4096 * l.pages) x) (is_within l.save 4096 x) _ _ e3.0);
        pages = no_page x c (parts.bare x) held;
      }

  -- further memory is kept where the stub comes to the entry
  entry_keeps : (t : Machine) → IsAtEntry (file_of j l) (stub_of j l) s t → (x : ℕ) → IsFurther x → t.mem x ≡ further x
  entry_keeps t e x z = keeps_further (file_of j l) (stub_of j l) (image_of j.orig) (base_of j l) (rest_of j l) further s t parts e x z.save z.base z.rest z.pages

  -- so the start pair there has it
  pub pair_keeps : (t : Machine) (entry : ℕ) → IsAtEntry (file_of j l) (stub_of j l) s t
      → (p : IsStartPair (image_of j.orig) (bare_image j) entry (original_start (file_of j l) (stub_of j l) (image_of j.orig) (base_of j l) t) t)
      → (x : ℕ) → (further x ≡ None) ⊎ (p.further x ≡ further x)
  pair_keeps t entry e p x = by_held (further x) refl (st.apart x)
    where
      by_held : (c : Option Cell) → further x ≡ c → (image_of (file_of j l) x ≡ None) ⊎ (further x ≡ None) → (further x ≡ None) ⊎ (p.further x ≡ further x)
      by_held c q (inr n) = inl n
      by_held None q (inl n) = inl q
      by_held (Some c) q (inl n) =
          let z = is_further x c q n in
          let orig : image_of j.orig x ≡ None = parts.within x z.base in
          let whole : whole_image (file_of j l) (stub_of j l) (base_of j l) x ≡ None = λ i. or_else (z.base i) (z.pages i) in
          let same : or_else (image_of j.orig x) (or_not (whole_image (file_of j l) (stub_of j l) (base_of j l) x) (t.mem x)) ≡ or_else (image_of j.orig x) (p.further x) =
          ap (λ (m : Bytes). m x) p.original in
          inr (sym (ap (λ y. or_else y (p.further x)) orig) ∙ sym same ∙ (λ i. or_else (orig i) (or_not (whole i) (t.mem x))) ∙ entry_keeps t e x z)

-- from where a kernel starts the loader form's file its stub leads to where a kernel starts the original
pub loaders_keep_vectors : LoadersKeepVectors
loaders_keep_vectors q p groups l a can G size lay few further s n vs ks st kernel =
    let j = job_for q p groups in let d = laid_of l in
    let led = written_leads q p groups l a can G size lay few further s st in
    record {
      ends = led.ends;
      stops = led.stops;
      follows = λ replies ok long given.
          let x = led.follows replies ok long given in
          let t = last_state s x.moves in
          let keeps = pair_keeps j d (writing_is_job q p groups a can G size) (laid_for q p groups l G lay) few further s st t (entry_of q.file) x.reaches x.on in
          record {
            moves = x.moves;
            run = x.run;
            few = x.few;
            reaches = x.reaches;
            on = record {
              pair = x.on;
              rcx = ap (λ (c : Core). reg c 1) x.reaches.core ∙ kernel.rcx;
              rdi = ap (λ (c : Core). reg c 7) x.reaches.core ∙ kernel.rdi;
              vector =
                  vector_kept further x.on.further (reg t.core 4) n vs ks keeps
                  (subst (λ (c : Core). IsVector further (reg c 4) n vs ks) (sym x.reaches.core) kernel.vector);
            };
          };
    }

-- what is written of a settled file in the loader form follows the original at its base
pub settled_is_loaded : SettledIsLoaded
settled_is_loaded b file r readable h w q p groups l a can G size lay few e patched further s n vs ks st kernel =
    let j = job_for q p groups in let K = λ (m o : Bytes) (x : ℕ) (u v : Machine). IsKernelPair m o x n vs ks u v in
    leads_with j (laid_of l) (run_count groups) (image_of q.file) (K (image_of q.file) (bare_image j) (entry_of q.file)) (GoesOnSettled b file r n vs ks) s
    (λ u v c.
    let original : image_of q.file ≡ r.original = ap image_of e ∙ sym w.original in
    let entry : entry_of q.file ≡ r.entry = ap entry_of e ∙ sym w.entry in
    let c1 : K r.original (bare_image j) (entry_of q.file) u v = subst (λ (z : Bytes). K z (bare_image j) (entry_of q.file) u v) original c in
    let c2 : K r.original r.patched (entry_of q.file) u v = subst (λ (z : Bytes). K r.original z (entry_of q.file) u v) (sym patched) c1 in
    let c3 : K r.original r.patched r.entry u v = subst (λ (z : ℕ). K r.original r.patched z u v) entry c2 in
    record { pair = c3.pair; follows = settled_is_started b file r readable h w u v n vs ks c3 })
    (loaders_keep_vectors q p groups l a can G size lay few further s n vs ks st kernel)
