use Rattle.std.proofs.Common.{◌≡◌, replicate}
use Rattle.jump_form.proofs.jump.spell.Given as goal

abbrev pub invariant-loop : goal.invariant-loop
invariant-loop l = l.bytes.items ≡ replicate l.counter l.pad_byte
