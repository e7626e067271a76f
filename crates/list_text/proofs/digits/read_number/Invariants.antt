use Rattle.std.proofs.Common.{◌≡◌, drop}
use Rattle.list_text.specs.Digits.{number_in, number_behind}
use Rattle.list_text.proofs.digits.read_number.Given as goal

abbrev pub invariant-loop-digit : goal.invariant-loop-digit
invariant-loop-digit l = number_in l.base l.digits ≡ number_behind l.base l.number (drop l.digit-index l.digits)
