use Rattle.std.proofs.Common.{◌≡◌, ℕ, ◌<◌, ◌≤◌}
use Rattle.cpu_state.specs.Numbers.{loaded}
use Rattle.image_step.specs.Running.{machine_in}
use Rattle.guest_findings.proofs.last_states.have_same_data.Given as goal

abbrev pub invariant-loop-addr : goal.invariant-loop-addr
invariant-loop-addr l =
    (x : ℕ) → 0x600000 ≤ x → x < l.addr → loaded (machine_in l.one).mem x 1 ≡ loaded (machine_in l.other).mem x 1
