use Rattle.std.proofs.Common.{◌∙◌, ap, sym, ℕ}
use Rattle.elf_read.specs.Code.{is_exec}
use Rattle.elf_read.proofs.HoldingSegments.{exec_at, exec_nowhere}
use Rattle.elf_read.proofs.elf.Elf.is_exec.Goals as goal

pub returns-in-Some : goal.returns-in-Some
returns-in-Some c =
    let e = c.segment_at.ensures in
    c.is_exec_at.ensures
    ∙ sym (exec_at c.args.self.now.bytes c.from-addr.result _ c.in-Some.segment e.accepted e.value c.in-Some.is)
    ∙ ap (λ (a : ℕ). is_exec c.args.self.now.bytes a) c.from-addr.ensures

pub returns-in-None : goal.returns-in-None
returns-in-None c =
    let e = c.segment_at.ensures in
    sym (exec_nowhere c.args.self.now.bytes c.from-addr.result _ e.accepted e.value c.in-None.is)
    ∙ ap (λ (a : ℕ). is_exec c.args.self.now.bytes a) c.from-addr.ensures
