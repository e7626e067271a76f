use Rattle.std.proofs.Common.{◌≡◌, drop}
use Rattle.list_text.specs.ActionWords.{register_names}
use Rattle.list_text.specs.Words.{place_of, register_of}
use Rattle.list_text.proofs.action_reading.read_register.Given as goal

abbrev pub invariant-loop-reg : goal.invariant-loop-reg
invariant-loop-reg l = register_of l.name ≡ place_of l.reg (drop l.reg register_names) l.name
