use Rattle.std.proofs.Common.{◌≡◌, sym, subst, arith, ℕ, None}
use Rattle.elf_read.proofs.PlainFronts.{is_false}
use Rattle.sound_images.specs.Rules.{displaced_at}
use Rattle.image_check.proofs.EntryRule.{last_reason}
use Rattle.image_check.proofs.entry_rule.line_fails.Goals as goal

pub returns : goal.returns
returns c = λ o.
    let e : c.args.line.now.tramp.start ≡ c.args.addr = omega arith in
    let P : ℕ → Type 0 = λ z. displaced_at c.args.starts.now z ≡ None in
    last_reason _ _ _ _ c.leads.result e
    (λ h. is_false c.stays.result c.if-stays.false (c.stays.ensures.1 (subst P (sym e) h)))
    (λ h. omega arith) (rw c.from-2.ensures at c.leads.ensures)
