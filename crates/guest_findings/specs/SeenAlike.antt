-- Last states of a guest and of its patched file, as far as they are compared. Theorems cite it.
use Rattle.std.specs.Prelude.{◌≡◌, ℕ, ◌+◌, ◌<◌, ◌≤◌, length}
use Rattle.cpu_state.specs.Numbers.{loaded}
use Rattle.insn_form.specs.Machine.{Machine}
use Rattle.guest_gen.specs.Instructions.{data_start}

-- The same registers, flags, bases and instruction pointer, as many entries of the world left, and the same bytes in the
-- page of data. No other byte that a view shows can be written.
pub record SeenAlike (a b : Machine) : Type 0 where
  pub core : a.core ≡ b.core
  pub rip : a.rip ≡ b.rip
  pub left : length a.world ≡ length b.world
  pub page : (x : ℕ) → data_start ≤ x → x < data_start + 0x1000 → loaded a.mem x 1 ≡ loaded b.mem x 1
