-- The step of an operation that asks nothing. Theorems cite it.
use Rattle.std.specs.Prelude.{◌≡◌, ◌↔◌, ℕ, None, Ok, unwrap_or}
use Rattle.cpu_state.specs.declared.world.Question.{Question}
use Rattle.insn_form.specs.declared.form.Op.{Op}
use Rattle.insn_form.specs.Meaning.{effect}
use Rattle.insn_form.specs.Plan.{lacking_in, number_in, writes_in}
use Rattle.insn_form.specs.Machine.{Machine, put_all, act}
use Rattle.insn_form.specs.Again.{op_task}

-- the state after an operation that asks nothing
abbrev pub after_op : Machine → ℕ → Op → Machine
after_op s next op =
    let e = effect op next s.core in let o = e.out (number_in s.mem e.read) in
    record { core = o.core; rip = unwrap_or o.target next; mem = put_all s.mem (writes_in e.write o.value); world = s.world }

-- what is read is held with R, and what is written with W
pub record HasOperands (s : Machine) (next : ℕ) (op : Op) : Type 0 where
  pub read : lacking_in 4 s.mem (effect op next s.core).read ≡ None
  pub write : lacking_in 2 s.mem (effect op next s.core).write ≡ None

-- an operation that leaves no flag undefined acts exactly where it has its operands, and leads to that state
abbrev pub ActsExactly : Type 0
ActsExactly = (op : Op) (asks : Question) (next : ℕ) (s t : Machine) → ((v : ℕ) → ((effect op next s.core).out v).undefined ≡ 0)
    → (act (op_task op asks) next s ≡ Ok t) ↔ (HasOperands s next op × (t ≡ after_op s next op))
