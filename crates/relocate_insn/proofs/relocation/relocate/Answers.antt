use Rattle.std.proofs.Common.{◌≡◌, ℕ, ◌+◌, ◌≤◌, List, [], ◌++◌, length, Some, sym, ap, ◌∙◌, subst}
use Rattle.std.specs.Prelude.{is_some}
use Rattle.length_decode.specs.Spelling.{Fields, IsInstruction, spelling, parts_of}
use Rattle.length_decode.proofs.ShapeAnswers.{one_fields}
use Rattle.insn_form.specs.Instruction.{insn_of}
use Rattle.insn_form.specs.Displacing.{has_condition, displaced_len}
use Rattle.insn_form.proofs.ConditionCodes.{condition_code}
use Rattle.relocate_insn.specs.Relocating.{relocated_by, relocated_code}
use Rattle.relocate_insn.specs.Running.{DoesWork}
use Rattle.relocate_insn.proofs.CodeRuns.{relocated_works}
use Rattle.relocate_insn.proofs.SpelledInstructions.{begins, told_len, few_by}
use Rattle.relocate_insn.proofs.relocation.relocate.Goals as goal
use Rattle.relocate_insn.proofs.relocation.relocate.Goals.{After-code}

pub unreachable-requires : goal.unreachable-requires
unreachable-requires c =
    let s = c.requires.spelled in
    c.in_default.not-Known (parts_of s.fields) ((c.decode.ensures.known (parts_of s.fields)).1 (begins c.args.bytes.now c.args.insn.now s))

pub put_insn-requires-clause-spelled : goal.put_insn-requires-clause-spelled
put_insn-requires-clause-spelled c =
    let s = c.requires.spelled in
    let e = (c.in-Known.ensures.known (parts_of s.fields)).1 (begins c.args.bytes.now c.args.insn.now s) in
    record { fields = s.fields; is = s.is; spelled = s.spelled; divided = cc }

pub put_insn-requires-clause-condition : goal.put_insn-requires-clause-condition
put_insn-requires-clause-condition c = ap has_condition c.requires.spelled.insn ∙ condition_code c.requires.spelled.fields

-- the instruction is that of the fields that the bytes spell
insn_is : (c : After-code) (f : Fields) → IsInstruction f → c.args.bytes.now ≡ spelling f → c.args.insn.now ≡ insn_of f
insn_is c f i b =
    let s = c.requires.spelled in
    let same = one_fields f s.fields [] [] i.formed s.is.formed (ap (λ bs. bs ++ []) (sym b ∙ s.spelled)) in
    s.insn ∙ ap insn_of (sym same)

pub returns-clause-code : goal.returns-clause-code
returns-clause-code c = λ f i b.
    let x = insn_is c f i b in
    let n = c.new-code.ensures in
    let l = c.from.ensures in
    c.code.ensures.bytes ∙ c.put_insn.ensures f i b ∙ (λ j. n j ++ relocated_by (x j) c.args.private f (c.args.from + l j) c.args.to)

-- the length of the code
told : (c : After-code) → displaced_len c.args.insn.now (length c.args.bytes.now) c.args.from ≡ Some (length c.code.result.bytes)
told c =
    let s = c.requires.spelled in
    let g = s.fields in
    let ins = s.insn in
    let long = ap length s.spelled in
    let n = c.new-code.ensures in
    let l = c.from.ensures ∙ long in
    let code = c.code.ensures.bytes ∙ c.put_insn.ensures g s.is s.spelled ∙ (λ j. n j ++ relocated_by (ins j) c.args.private g (c.args.from + l j) c.args.to) in
    let same : displaced_len c.args.insn.now (length c.args.bytes.now) c.args.from ≡ displaced_len (insn_of g) (length (spelling g)) c.args.from = λ j. displaced_len (ins j) (long j) c.args.from in
    same ∙ told_len g c.args.private c.args.from c.args.to s.is (ap is_some (sym (c.displaced_len.ensures.value ∙ same)) ∙ c.if-is_none.ensures {u = tt}) ∙ ap (λ (z : List ℕ). Some (length z)) (sym code)

pub returns-clause-works : goal.returns-clause-works
returns-clause-works c = λ f i b.
    let from = c.args.from in let to = c.args.to in let private = c.args.private in
    let n = ap length b in
    let x = insn_is c f i b in
    let d = (λ j. displaced_len (sym x j) (sym n j) from) ∙ told c in
    let code = returns-clause-code c f i b ∙ ap (λ z. relocated_code private f (from + z) to) n in
    let law = relocated_works f from to private (length c.code.result.bytes) i d (subst (λ z. from + z ≤ 0x7FFF0000) n c.requires.from) c.requires.to in
    subst (λ (z : List ℕ). DoesWork z f from to private) (sym code) law

pub returns-clause-few : goal.returns-clause-few
returns-clause-few c = few_by c.displaced_len.result (length c.code.result.bytes) (c.displaced_len.ensures.value ∙ told c) c.displaced_len.ensures.few

pub returns-clause-len : goal.returns-clause-len
returns-clause-len c = told c
