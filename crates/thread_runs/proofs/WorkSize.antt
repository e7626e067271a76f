-- How many bytes the code after an event has.
use Rattle.std.proofs.Common.{◌≡◌, ℕ, ◌+◌, ◌-◌, ◌≤◌, Bool, true, false, cond, ◌%◌, ltb, [], ◌∷◌, ◌++◌, length, length-append, replicate, Option, Some, None, refl, ap, ◌∙◌, arith}
use Rattle.std.proofs.lemmas.Bool.{false≢true}
use Rattle.std.proofs.lemmas.List.{length-replicate}
use Rattle.length_decode.specs.Spelling.{Fields, IsInstruction, spelling}
use Rattle.insn_form.specs.declared.form.Spot.TheVariants.{Reg, High, Mem}
use Rattle.insn_form.specs.declared.form.Target.TheVariants.{Rel, Through}
use Rattle.insn_form.specs.declared.form.Op.TheVariants.{Call}
use Rattle.insn_form.specs.declared.form.Insn.{Insn}
use Rattle.insn_form.specs.declared.form.Insn.TheVariants.{Exact, Asked, Ending}
use Rattle.insn_form.specs.Instruction.{insn_of}
use Rattle.insn_form.specs.Displacing.{falls, code_length, displaced_len}
use Rattle.relocate_insn.specs.Pieces.{push_code}
use Rattle.relocate_insn.specs.Relocating.{relocated_by}
use Rattle.relocate_insn.proofs.RelocatedLengths.{relocated_long}
use Rattle.trampoline.specs.Trampolines.{back_if}
use Rattle.trampoline.proofs.TrampolineRuns.{kept_length}
use Rattle.trampoline.proofs.TrampolineBytes.{back_long}
use Rattle.thread_runs.specs.ThreadCode.{jump_reg, call_reg_code, thread_relocated, thread_work}
use Rattle.trampoline.specs.Atomic.{is_atomic, thread_len, back}

-- a jump to a register has at most three bytes
jump_few : (r : ℕ) → length (jump_reg r) ≤ 3
jump_few r = by_test (ltb r 8)
  where
    by_test : (b : Bool) → length (cond b [] (0x41 ∷ []) ++ 0xff ∷ (0xe0 + r % 8) ∷ []) ≤ 3
    by_test true = omega arith
    by_test false = omega arith

-- the code of a call through a register has 39 bytes
pub call_long : (r next : ℕ) → length (call_reg_code r next) ≡ 39
call_long r next =
    let n = jump_few r in
    omega (
      arith,
      n,
      length-append (push_code next) (jump_reg r ++ replicate (34 - length (jump_reg r)) 0x90),
      length-append (jump_reg r) (replicate (34 - length (jump_reg r)) 0x90),
      length-replicate {A = ℕ} (34 - length (jump_reg r)) 0x90,
    )

-- a call through a register has its own code; all else that of elsewhere
same_code : (f : Fields) (next place k : ℕ) (x : Insn) → code_length x (length (spelling f)) ≡ Some k → is_atomic x ≡ true → length (relocated_by x 0 f next place) ≡ k → length (thread_relocated x f next place) ≡ k
same_code f next place k (Exact (Call (Through (Reg r)))) h a e = let n : 39 ≡ k = cc in call_long r next ∙ n
same_code f next place k (Exact (Call (Through (High r)))) h a e = absurd (false≢true a)
same_code f next place k (Exact (Call (Through (Mem m)))) h a e = absurd (false≢true a)
same_code f next place k (Exact (Call (Rel z))) h a e = e
same_code f next place k (Exact op) h a e = e
same_code f next place k (Asked form) h a e = e
same_code f next place k Ending h a e = e

-- where a test gives a number, the test holds, and the number is the one that it gives
pub told : (b : Bool) (o : Option ℕ) (n : ℕ) → cond b o None ≡ Some n → (b ≡ true) × (o ≡ Some n)
told true o n h = (refl, h)
told false o n h = absurd cc

-- the code after an event is as long as the displaced instruction's code, and five bytes longer where it jumps back
pub work_size : (f : Fields) (next place size len addr : ℕ) → IsInstruction f → length (spelling f) ≡ len → thread_len (insn_of f) len addr ≡ Some size
    → length (thread_work f next place) ≡ size + back (insn_of f)
work_size f next place size len addr is l h =
    let x = insn_of f in
    let t = told (is_atomic x) (displaced_len x len addr) size h in
    let c : code_length x len ≡ Some size = kept_length _ (code_length x len) size t.1 in
    let c' : code_length x (length (spelling f)) ≡ Some size = ap (code_length x) l ∙ c in
    let r = same_code f next place size x c' t.0 (relocated_long f 0 next place size is c') in
    omega (
      arith,
      r,
      length-append (thread_relocated x f next place) (back_if (falls x) (place + length (thread_relocated x f next place)) next),
      back_long (falls x) (place + length (thread_relocated x f next place)) next,
    )
