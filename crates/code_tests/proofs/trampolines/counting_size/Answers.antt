use Rattle.std.proofs.Common.{length, ap}
use Rattle.code_tests.proofs.trampolines.counting_size.Goals as goal

pub size-requires : goal.size-requires
size-requires c = let s = c.in_ok-insn.ensures.spelled in record { fields = s.fields; is = s.is; insn = s.insn; size = ap length s.spelled }
