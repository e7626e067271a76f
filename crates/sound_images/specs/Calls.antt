-- Which instructions call the kernel. Theorems cite it.
use Rattle.std.specs.Prelude.{Bool, false}
use Rattle.insn_form.specs.declared.form.Insn.{Insn}
use Rattle.insn_form.specs.declared.form.Insn.TheVariants.{Exact, Asked, Ending}

-- The instruction is SYSCALL.
abbrev pub is_syscall : Insn → Bool
is_syscall (Exact op) = false
is_syscall (Asked form) = form.syscall
is_syscall Ending = false
