use Rattle.std.proofs.Common.{◌<◌, ◌^◌, ℕ, List, length, refl, sym, ap, subst, arith}
use Rattle.elf_emit.specs.Emits.{AreBytes, IsSmallFrame}
use Rattle.elf_emit.specs.Views.{frame_in}
use Rattle.elf_emit.proofs.emit.emit_over.Goals as goal

pub emit_changes-requires-clause-frame : goal.emit_changes-requires-clause-frame
emit_changes-requires-clause-frame g c =
    let v = c.file-file.ensures.value in
    let n : length c.args.elf.now.bytes < 2 ^ 63 = (let s = c.file-file.type_inv in let e = ap (λ (z : List ℕ). length z) v in omega arith) in
    let b : AreBytes c.args.elf.now.bytes = subst AreBytes v (λ k. (c.type_inv.file k).fits) in
    subst (λ (z : List ℕ). IsSmallFrame (frame_in z c.args.changes)) (sym v) (c.requires.frame b n)

pub emit_changes-requires-clause-sources : goal.emit_changes-requires-clause-sources
emit_changes-requires-clause-sources g c = c.in-Ok.ensures (frame_in c.file-file.result.now c.args.changes) c.file-file.ensures.value refl

pub returns-clause-emits : goal.returns-clause-emits
returns-clause-emits g c = rw c.file-file.ensures.value at c.emit_changes.ensures.emits

pub returns-clause-frame : goal.returns-clause-frame
returns-clause-frame g c = rw c.file-file.ensures.value at c.emit_changes.ensures.frame
