use Rattle.std.proofs.Common.{◌≡◌, ◌+◌, ◌*◌, ◌++◌, drop}
use Rattle.loader_form.specs.Stub.{loads}
use Rattle.loader_form.proofs.stub.push_loads.Given as goal

abbrev pub invariant-loop-register : goal.invariant-loop-register
invariant-loop-register l = record {
  place : l.at ≡ l.save + 8 * l.register-index;
  put : l.out.items ++ loads l.at (drop l.register-index l.registers) ≡ l.initial.out.items ++ loads l.save l.registers;
}
