use Rattle.std.proofs.Common.{◌≡◌, ◌∙◌, ap, sym, refl, ℕ, List, Some, get_or}
use Rattle.elf_read.specs.Code.{window, code_from}
use Rattle.elf_read.specs.Find.{segment_holding}
use Rattle.elf_read.proofs.SegmentSearch.{no_segment}
use Rattle.elf_read.proofs.HoldingSegments.{executed_at, inside_at, window_at, window_some}
use Rattle.elf_read.proofs.elf.Elf.window_near.Goals as goal

pub code_at-requires-clause-inside : goal.code_at-requires-clause-inside
code_at-requires-clause-inside c =
    let e = c.loads-loads.ensures in
    let bytes = c.args.self.now.bytes in
    let a = c.from-wide.result in
    inside_at bytes c.file.result.now a (segment_holding bytes a) (get_or c.loads-loads.result.now c.args.place.now no_segment) e.accepted c.file.ensures.value refl
    (executed_at bytes c.loads-loads.result.now a c.args.place.now no_segment e.accepted e.value c.if-at-loads.true (sym c.is_exec_at.ensures ∙ c.if-is_exec_at.true))

pub returns-then-is_exec_at : goal.returns-then-is_exec_at
returns-then-is_exec_at c =
    let e = c.loads-loads.ensures in
    let bytes = c.args.self.now.bytes in
    let a = c.from-wide.result in
    let s = get_or c.loads-loads.result.now c.args.place.now no_segment in
    let x = sym c.is_exec_at.ensures ∙ c.if-is_exec_at.true in
    let h : segment_holding bytes a ≡ Some s =
    executed_at bytes c.loads-loads.result.now a c.args.place.now no_segment e.accepted e.value c.if-at-loads.true x in
    c.code_at.ensures
    ∙ ap (λ (file : List ℕ). code_from file s a 15) c.file.ensures.value
    ∙ sym (window_at bytes a (segment_holding bytes a) (Some s) e.accepted refl h ∙ window_some bytes a s x)
    ∙ ap (λ (n : ℕ). window bytes n) c.from-wide.ensures
