use Rattle.std.proofs.Common.{◌≡◌, ◌+◌, ◌*◌, ◌++◌, drop}
use Rattle.loader_form.specs.Stub.{stores}
use Rattle.loader_form.proofs.stub.push_stores.Given as goal

abbrev pub invariant-loop-register : goal.invariant-loop-register
invariant-loop-register l = record {
  place : l.at ≡ l.save + 8 * l.register-index;
  put : l.out.items ++ stores l.at (drop l.register-index l.registers) ≡ l.initial.out.items ++ stores l.save l.registers;
}
