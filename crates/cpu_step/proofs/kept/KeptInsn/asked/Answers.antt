use Rattle.std.proofs.Common.{List, ℕ, sym, ◌∙◌, subst}
use Rattle.length_decode.specs.Spelling.{IsSpelling}
use Rattle.cpu_step.proofs.JudgedTasks.{asked_is, whole_spelling}
use Rattle.cpu_step.proofs.kept.KeptInsn.asked.Goals as goal

pub question-requires : goal.question-requires
question-requires c =
    let k = c.args.self.now in
    subst (λ (z : List ℕ). IsSpelling z k.parts) (sym c.as_slice.ensures.value) (whole_spelling k.bytes k.parts k.read k.whole)

pub returns : goal.returns
returns c =
    let k = c.args.self.now in
    let h = whole_spelling k.bytes k.parts k.read k.whole in
    c.question.ensures h.fields h.is (c.as_slice.ensures.value ∙ h.spelled) ∙ sym (asked_is h.fields k.bytes c.args.next h.is h.spelled)
