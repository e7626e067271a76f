use Rattle.std.proofs.Common.{length, take, refl, sym, ap, ◌∙◌, arith}
use Rattle.length_decode.specs.Parse.{shape_of}
use Rattle.cpu_step.proofs.JudgedTasks.{unknown, short, nothing, taken_count, taken_spelling, spelling_read}
use Rattle.cpu_step.proofs.step.read_insn.Goals as goal

pub slice_bounds-bytes-end : goal.slice_bounds-bytes-end
slice_bounds-bytes-end c = taken_count c.args.code.now c.in-Known.parts c.from.result c.from.ensures ((c.decode.ensures.known c.in-Known.parts).0 c.in-Known.is)

pub from_slice-requires : goal.from_slice-requires
from_slice-requires c =
    let h = taken_spelling c.args.code.now c.in-Known.parts c.from.result c.from.ensures ((c.decode.ensures.known c.in-Known.parts).0 c.in-Known.is) in
    record { fits = let l = ap length h.spelled in let s = h.is.short in omega (arith, l, s) }

pub classify-requires : goal.classify-requires
classify-requires c = taken_spelling c.args.code.now c.in-Known.parts c.from.result c.from.ensures ((c.decode.ensures.known c.in-Known.parts).0 c.in-Known.is)

pub invariant_of-result : goal.invariant_of-result
invariant_of-result c =
    let b = (c.decode.ensures.known c.in-Known.parts).0 c.in-Known.is in
    let h = taken_spelling c.args.code.now c.in-Known.parts c.from.result c.from.ensures b in
    let e = c.from_slice.ensures in
    record {
      read = ap shape_of e ∙ spelling_read (take c.from.result c.args.code.now) c.in-Known.parts h;
      whole = sym c.from.ensures ∙ taken_count c.args.code.now c.in-Known.parts c.from.result c.from.ensures b ∙ ap length (sym e);
      classified = λ f i s. c.classify.ensures f i (sym e ∙ s);
    }

pub returns-then-is_empty-clause-unread : goal.returns-then-is_empty-clause-unread
returns-then-is_empty-clause-unread c = λ k m entry w.
    nothing c.args.code.now k c.args.rip m entry w (sym c.is_empty.ensures ∙ c.if-is_empty.true)

pub returns-in-Unknown-clause-unread : goal.returns-in-Unknown-clause-unread
returns-in-Unknown-clause-unread c = λ k m entry w.
    unknown c.args.code.now k c.args.rip m entry w (sym c.is_empty.ensures ∙ c.if-is_empty.false) (sym c.decode.ensures.read ∙ c.in-Unknown.is)

pub returns-in-Short-clause-unread : goal.returns-in-Short-clause-unread
returns-in-Short-clause-unread c = λ k m entry w.
    short c.args.code.now k c.args.rip m entry w (sym c.is_empty.ensures ∙ c.if-is_empty.false) (sym c.decode.ensures.read ∙ c.in-Short.is) (length c.args.code.now) refl
