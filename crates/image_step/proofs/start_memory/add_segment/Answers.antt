use Rattle.std.proofs.Common.{◌≡◌, ℕ, ◌+◌, ◌-◌, take, drop, ap, sym, subst, ◌∙◌, arith}
use Rattle.std.proofs.lemmas.Result.{on_ok_weaker}
use Rattle.pun_base.specs.Memory.{joined}
use Rattle.cpu_state.specs.Adding.{IsFree}
use Rattle.cpu_state.specs.Regions.{cell_at}
use Rattle.image_runs.proofs.MemorySoFar.{segment_laid, segment_size}
use Rattle.image_step.proofs.start_memory.add_segment.Goals as goal

pub returns : goal.returns
returns c =
    let s = c.args.segment.now in
    let file = c.args.file.now in
    let n : s.offset + s.filesz - s.offset ≡ s.filesz = omega arith in
    let e = segment_laid file (take (s.offset + s.filesz - s.offset) (drop s.offset file)) s c.requires.placed (ap (λ (k : ℕ). take k (drop s.offset file)) n) in
    on_ok_weaker c.add.result (λ d. d ∙ ap (joined (cell_at c.args.memory.now)) e) c.add.ensures

pub add-requires-clause-free : goal.add-requires-clause-free
add-requires-clause-free c =
    let s = c.args.segment.now in
    let file = c.args.file.now in
    let n : s.offset + s.filesz - s.offset ≡ s.filesz = omega arith in
    let bytes = take (s.offset + s.filesz - s.offset) (drop s.offset file) in
    let m = segment_size file bytes s c.requires.placed (ap (λ (k : ℕ). take k (drop s.offset file)) n) in
    subst (λ (k : ℕ). IsFree (cell_at c.args.memory.now) s.vaddr (s.vaddr + k)) (sym m) c.requires.free
