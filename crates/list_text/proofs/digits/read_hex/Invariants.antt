use Rattle.std.proofs.Common.{◌≡◌, ◌≤◌, drop}
use Rattle.list_text.specs.Digits.{number_in, number_behind}
use Rattle.list_text.proofs.digits.read_hex.Given as goal

abbrev pub invariant-loop-digit : goal.invariant-loop-digit
invariant-loop-digit l = record {
  number : l.number ≤ 4294967295;
  spelled : number_in 16 l.digits ≡ number_behind 16 l.number (drop l.digit-index l.digits);
}
