use Rattle.std.proofs.Common.{◌≡◌, length, sym, ap, ◌∙◌, arith}
use Rattle.length_decode.specs.declared.instruction_parts.Parts.{Parts}
use Rattle.length_decode.specs.declared.instruction_parts.Shape.TheVariants.{Known}
use Rattle.length_decode.specs.Spelling.{IsSpelling, parts_of}
use Rattle.insn_form.proofs.WholeSpellings.{whole, begins_whole}
use Rattle.insn_form.proofs.classification.whole_form.Goals.{Then-from-bytes}
use Rattle.insn_form.proofs.classification.whole_form.Goals as goal

-- The bytes spell the parts that were read.
read : (c : Then-from-bytes) → IsSpelling c.args.bytes.now c.in-Known.parts
read c = whole c.args.bytes.now c.in-Known.parts ((c.decode.ensures.known c.in-Known.parts).0 c.in-Known.is) (sym c.from.ensures ∙ c.if-from-bytes.true)

pub classify-requires : goal.classify-requires
classify-requires c = read (goal.at.classify-requires c).Then-from-bytes

pub returns-then-from-bytes-clause-spelled : goal.returns-then-from-bytes-clause-spelled
returns-then-from-bytes-clause-spelled c =
    let w = read (goal.at.returns-then-from-bytes-clause-spelled c).Then-from-bytes in
    record { fields = w.fields; is = w.is; spelled = w.spelled; insn = c.classify.ensures w.fields w.is w.spelled }

pub returns-then-from-bytes-clause-few : goal.returns-then-from-bytes-clause-few
returns-then-from-bytes-clause-few c =
    let w = read (goal.at.returns-then-from-bytes-clause-few c).Then-from-bytes in
    omega (arith, w.is.short, ap length w.spelled)

pub returns-else-from-bytes-clause-any : goal.returns-else-from-bytes-clause-any
returns-else-from-bytes-clause-any c = λ f i e.
    let both : Known c.in-Known.parts ≡ Known (parts_of f) = sym c.in-Known.is ∙ (c.decode.ensures.known (parts_of f)).1 (begins_whole c.args.bytes.now f i e) in
    let same : c.in-Known.parts ≡ parts_of f = cc in
    absurd (c.if-from-bytes.false (c.from.ensures ∙ ap (λ (p : Parts). p.len) same ∙ sym (ap length e)))

pub returns-in_default-clause-any : goal.returns-in_default-clause-any
returns-in_default-clause-any c = λ f i e. absurd (c.in_default.not-Known (parts_of f) ((c.decode.ensures.known (parts_of f)).1 (begins_whole c.args.bytes.now f i e)))
