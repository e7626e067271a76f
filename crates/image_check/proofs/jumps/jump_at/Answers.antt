use Rattle.std.proofs.Common.{◌≡◌, ◌↔◌, ◌∙◌, sym, subst, ℕ, Option, Some}
use Rattle.elf_read.specs.Image.{image_of}
use Rattle.start_entries.specs.Leading.{JumpsTo}
use Rattle.image_check.proofs.FixedJumps.{no_jump, one_jump}
use Rattle.image_check.proofs.jumps.jump_at.Goals as goal

pub returns-in-None : goal.returns-in-None
returns-in-None c = no_jump (image_of c.args.elf.now.bytes) c.args.addr c.as_slice.result.now (c.as_slice.ensures.value ∙ c.fixed_bytes-bytes.ensures) c.in-None.ensures

pub returns-in-Some : goal.returns-in-Some
returns-in-Some c =
    let m = image_of c.args.elf.now.bytes in
    let P : Option ℕ → Type 0 = λ o. (t : ℕ) → (o ≡ Some t) ↔ JumpsTo m c.args.addr t in
    subst P (sym c.jump_target.ensures) (one_jump m c.args.addr c.in-Some.len c.as_slice.result.now c.in-Some.insn c.jump_rel.result (c.as_slice.ensures.value ∙ c.fixed_bytes-bytes.ensures) c.in-Some.ensures (sym c.jump_rel.ensures))
