use Rattle.std.proofs.Common.{◌≡◌, ℕ, ◌+◌, ◌<◌, ◌≤◌, true, cond, List, [], ◌++◌, length, length-append, Option, Some, option_map, arith, refl, sym, ap, ◌∙◌, subst}
use Rattle.std.specs.Prelude.{option_map}
use Rattle.length_decode.specs.Spelling.{Fields, IsInstruction, spelling}
use Rattle.length_decode.proofs.ShapeAnswers.{one_fields}
use Rattle.insn_form.specs.Instruction.{insn_of}
use Rattle.insn_form.specs.Displacing.{code_length, displaced_len, falls}
use Rattle.insn_form.proofs.SpellingSlices.{imm_ends}
use Rattle.trampoline.specs.Trampolines.{event_part, part_length, code_of}
use Rattle.trampoline.specs.Running.{IsTrampoline}
use Rattle.trampoline.proofs.TrampolineBytes.{part_long, built, built_long}
use Rattle.trampoline.proofs.TrampolineRuns.{falling_long, kept_length, trampolines}
use Rattle.trampoline.proofs.tramp.build.Goals as goal
use Rattle.trampoline.proofs.tramp.build.Goals.{After-code}

-- what is returned is the code of the definition
same_code : (c : After-code) (f : Fields) → IsInstruction f → c.args.bytes.now ≡ spelling f
    → c.code.result.bytes ≡ code_of c.args.event c.args.private f (c.args.from + length c.args.bytes.now) c.args.place
same_code c f i b =
    let s = c.requires.spelled in
    let same = one_fields f s.fields [] [] i.formed s.is.formed (ap (λ bs. bs ++ []) (sym b ∙ s.spelled)) in
    let goes = c.in_ok-work.ensures.falls ∙ ap falls (s.insn ∙ ap insn_of (sym same)) in
    let w = c.as_slice-bytes_of_work.ensures.value ∙ c.in_ok-work.ensures.code f i b in
    let to = c.args.place + c.part_size.result in
    let bytes = c.as_slice-bytes_of_work.result.now in
    c.code.ensures.bytes
    ∙ built c.args.event c.args.private (c.args.from + length c.args.bytes.now) c.args.place
    (to + length bytes) c.in_ok-work.work.falls c.new-code.result c.put_part.new.code bytes c.put.new.self c.put_back.new.code
    c.new-code.ensures c.put_part.ensures c.put.ensures c.put_back.ensures f to
    (ap (λ n. c.args.place + n) c.part_size.ensures.value) refl goes w

pub returns-clause-code : goal.returns-clause-code
returns-clause-code c = λ f i b. same_code c f i b

pub returns-clause-works : goal.returns-clause-works
returns-clause-works c = λ f i b.
    let s = c.requires.spelled in
    let same = one_fields f s.fields [] [] i.formed s.is.formed (ap (λ bs. bs ++ []) (sym b ∙ s.spelled)) in
    let insn : c.args.insn.now ≡ insn_of f = s.insn ∙ ap insn_of (sym same) in
    let long = ap length b in
    let n = length c.in_ok-work.work.bytes in
    let len : displaced_len (insn_of f) (length (spelling f)) c.args.from ≡ Some n =
    (λ j. displaced_len (sym insn j) (sym long j) c.args.from) ∙ c.in_ok-work.ensures.len in
    let code = same_code c f i b ∙ ap (λ m. code_of c.args.event c.args.private f (c.args.from + m) c.args.place) long in
    subst (λ (bytes : List ℕ). IsTrampoline bytes c.args.event f c.args.from c.args.place c.args.private) (sym code)
    (trampolines c.args.event f c.args.from c.args.place c.args.private n i c.requires.event len
    (subst (λ (m : ℕ). c.args.from + m ≤ 0x7FFF0000) long c.requires.from) c.requires.place)

pub returns-clause-size : goal.returns-clause-size
returns-clause-size c =
    let to = c.args.place + c.part_size.result in
    let bytes = c.as_slice-bytes_of_work.result.now in
    let n = built_long c.args.event c.args.private (c.args.from + length c.args.bytes.now) c.args.place
    (to + length bytes) c.in_ok-work.work.falls c.new-code.result c.put_part.new.code bytes c.put.new.self c.put_back.new.code
    c.new-code.ensures c.put_part.ensures c.put.ensures c.put_back.ensures in
    let l = ap length (sym c.as_slice-bytes_of_work.ensures.value) in
    let g = sym c.in_ok-work.ensures.falls in
    let whole = (λ j. part_length c.args.event + l j + cond (g j) 5 0) ∙ n ∙ ap length (sym c.code.ensures.bytes) in
    ap (λ (o : Option ℕ). option_map (λ m. part_length c.args.event + m) (option_map (λ m. m + cond (falls c.args.insn.now) 5 0) o))
    c.in_ok-work.ensures.len
    ∙ ap Some (omega (arith, whole))

-- code that falls through is short, so that the jump back has room behind each event
pub put_back-requires-clause-room : goal.put_back-requires-clause-room
put_back-requires-clause-room c = λ h.
    let s = c.requires.spelled in
    let n = length c.in_ok-work.work.bytes in
    let long = ap length s.spelled in
    let some : 0 < length c.args.bytes.now = omega (arith, long, imm_ends s.fields) in
    let goes : falls c.args.insn.now ≡ true = sym c.in_ok-work.ensures.falls ∙ h in
    let q = falling_long c.args.insn.now (length c.args.bytes.now) n some goes
    (kept_length _ (code_length c.args.insn.now (length c.args.bytes.now)) n c.in_ok-work.ensures.len) in
    let bytes = c.as_slice-bytes_of_work.result.now in
    let a = ap length c.put.ensures ∙ length-append c.put_part.new.code bytes in
    let b = ap length c.put_part.ensures ∙ length-append c.new-code.result (event_part c.args.event c.args.private) in
    let z = ap length c.new-code.ensures in
    let w = ap length c.as_slice-bytes_of_work.ensures.value in
    omega (
      arith,
      a,
      b,
      z,
      w,
      q.1,
      long,
      s.is.short,
      part_long c.args.event c.args.private,
      c.part_size.ensures.value,
      c.part_size.ensures.few,
    )
