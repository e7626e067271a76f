use Rattle.std.proofs.Common.{ap, ◌∙◌}
use Rattle.insn_form.specs.Instruction.{insn_of}
use Rattle.insn_form.proofs.SpelledFronts.{front_taken, front_spelled, front_read, read_same}
use Rattle.insn_form.proofs.classification.front_form.Goals as goal

pub classify-requires : goal.classify-requires
classify-requires c = front_spelled c.args.bytes.now c.args.parts.now c.from.result c.requires c.from.ensures

pub returns : goal.returns
returns c = λ f e.
    let w = c.args.bytes.now in
    let p = c.args.parts.now in
    let b = c.requires in
    let s = b.spelled in
    c.classify.ensures s.fields s.is (front_taken w p c.from.result b c.from.ensures ∙ s.spelled) ∙ ap insn_of (read_same w s.fields f (front_read w p b) e)
