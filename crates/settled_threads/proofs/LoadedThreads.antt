-- What is written of a settled file for threads in the loader form leads to where a kernel starts the settled file.
use Rattle.std.proofs.Common.{◌≡◌, ℕ, sym, ap, ◌∙◌, subst}
use Rattle.pun_base.specs.Memory.{Bytes}
use Rattle.insn_form.specs.Machine.{Machine}
use Rattle.elf_read.specs.Entries.{entry_of}
use Rattle.elf_read.specs.Image.{image_of}
use Rattle.elf_emit.specs.Laws.{bare_image}
use Rattle.site_turns.specs.PlanLaws.{job_for}
use Rattle.loader_form.specs.Lay.{run_count, laid_of}
use Rattle.loader_form.proofs.MemoryParts.{leads_with}
use Rattle.settled_runs.specs.Started.{IsKernelPair}
use Rattle.settled_runs.proofs.LoadedVectors.{loaders_keep_vectors}
use Rattle.settled_threads.specs.Loaded.{GoesOnInThreads, SettledThreadsLoad}
use Rattle.settled_threads.proofs.FollowedThreads.{settled_threads_follow}

pub settled_threads_load : SettledThreadsLoad
settled_threads_load b file r readable h w q p groups l a can G size lay few e patched further s n vs ks st kernel =
    let j = job_for q p groups in let K = λ (m o : Bytes) (x : ℕ) (u v : Machine). IsKernelPair m o x n vs ks u v in
    leads_with j (laid_of l) (run_count groups) (image_of q.file) (K (image_of q.file) (bare_image j) (entry_of q.file)) (GoesOnInThreads b file r n vs ks) s
    (λ u v c.
    let original : image_of q.file ≡ r.original = ap image_of e ∙ sym w.original in
    let entry : entry_of q.file ≡ r.entry = ap entry_of e ∙ sym w.entry in
    let c1 : K r.original (bare_image j) (entry_of q.file) u v = subst (λ (z : Bytes). K z (bare_image j) (entry_of q.file) u v) original c in
    let c2 : K r.original r.patched (entry_of q.file) u v = subst (λ (z : Bytes). K r.original z (entry_of q.file) u v) (sym patched) c1 in
    let c3 : K r.original r.patched r.entry u v = subst (λ (z : ℕ). K r.original r.patched z u v) entry c2 in
    record { start = c3; follows = settled_threads_follow b file r readable h w u v n vs ks c3 })
    (loaders_keep_vectors q p groups l a can G size lay few further s n vs ks st kernel)
