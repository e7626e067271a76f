use Rattle.std.proofs.Common.{◌∙◌, ap, sym, ℕ, List}
use Rattle.elf_read.specs.Code.{window, code_from}
use Rattle.elf_read.proofs.HoldingSegments.{inside_at, window_at, window_some, window_none}
use Rattle.elf_read.proofs.elf.Elf.window.Goals as goal

pub returns-in_default : goal.returns-in_default
returns-in_default c =
    let e = c.segment_at.ensures in
    sym (window_at c.args.self.now.bytes c.from-addr.result _ _ e.accepted e.value c.in_default.is)
    ∙ ap (λ (a : ℕ). window c.args.self.now.bytes a) c.from-addr.ensures

pub code_at-requires-clause-inside : goal.code_at-requires-clause-inside
code_at-requires-clause-inside c =
    let e = c.segment_at.ensures in
    inside_at c.args.self.now.bytes _ c.from-addr.result _ c.in-Some.segment e.accepted c.file.ensures.value e.value c.in-Some.is

pub returns-then-is_exec_at : goal.returns-then-is_exec_at
returns-then-is_exec_at c =
    let e = c.segment_at.ensures in
    let bytes = c.args.self.now.bytes in
    c.code_at.ensures
    ∙ ap (λ (file : List ℕ). code_from file c.in-Some.segment c.from-addr.result 15) c.file.ensures.value
    ∙ sym (window_at bytes c.from-addr.result _ _ e.accepted e.value c.in-Some.is
    ∙ window_some bytes c.from-addr.result c.in-Some.segment (sym c.is_exec_at.ensures ∙ c.if-is_exec_at.true))
    ∙ ap (λ (a : ℕ). window bytes a) c.from-addr.ensures

pub returns-else-is_exec_at : goal.returns-else-is_exec_at
returns-else-is_exec_at c =
    let e = c.segment_at.ensures in
    let bytes = c.args.self.now.bytes in
    sym (window_at bytes c.from-addr.result _ _ e.accepted e.value c.in-Some.is
    ∙ window_none bytes c.from-addr.result c.in-Some.segment (sym c.is_exec_at.ensures ∙ c.if-is_exec_at.false))
    ∙ ap (λ (a : ℕ). window bytes a) c.from-addr.ensures
