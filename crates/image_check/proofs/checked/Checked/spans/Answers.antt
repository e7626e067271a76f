use Rattle.std.proofs.Common.{refl, sym, subst, length, List}
use Rattle.std.specs.List.Sorted.{IsNonDecreasingBy}
use Rattle.std.proofs.lemmas.Result.{IfOk-weaker}
use Rattle.image_check.specs.declared.rule.Rule.TheVariants as rule
use Rattle.image_check.specs.declared.placed_code.PlacedCode.{PlacedCode}
use Rattle.image_check.specs.Stretches.{CoversFirst, CodeBroken}
use Rattle.sound_images.specs.Cases.{case_of}
use Rattle.image_check.proofs.CodeRule.{code_covered}
use Rattle.image_check.proofs.LeastAddresses.{reach}
use Rattle.image_check.proofs.FailureSpans.{entry_covered, write_covered, site_told}
use Rattle.image_check.proofs.RangeEdges.{range_told}
use Rattle.image_check.proofs.ZeroTails.{byte_reached}
use Rattle.image_check.proofs.checked.Checked.spans.Goals as goal

pub returns-in-Byte : goal.returns-in-Byte
returns-in-Byte c =
    let k = case_of c.self.inside.orig.now.bytes c.self.inside.patched.now.bytes c.self.inside.starts.now c.self.inside.flat in
    rw (c.in-Byte.is, ← c.self.view_is) (IfOk-weaker c.byte_spans.result _ _ (λ v h. byte_reached k c.self.inside.orig.now.bytes c.self.inside.patched.now.bytes refl refl
    c.byte_spans.ensures.original c.byte_spans.ensures.patched v.items h) c.byte_spans.ensures.value)

pub returns-in-Write : goal.returns-in-Write
returns-in-Write c =
    let k = case_of c.self.inside.orig.now.bytes c.self.inside.patched.now.bytes c.self.inside.starts.now c.self.inside.flat in
    rw (c.in-Write.is, ← c.self.view_is) (IfOk-weaker c.write_spans.result _ _
    (λ v h. reach k rule.Write v.items (write_covered k h.0 h.1 v.items h.2)) c.write_spans.ensures)

pub write_spans-requires : goal.write_spans-requires
write_spans-requires c = record { ascending = c.self.invariant.entries.ascending; alone = c.self.invariant.entries.alone }

pub returns-in-Range : goal.returns-in-Range
returns-in-Range c =
    let k = case_of c.self.inside.orig.now.bytes c.self.inside.patched.now.bytes c.self.inside.starts.now c.self.inside.flat in
    rw (c.in-Range.is, ← c.self.view_is) (IfOk-weaker c.range_spans.result _ _
    (λ v h. range_told k c.self.inside.orig.now.bytes c.self.inside.patched.now.bytes c.report.result.now.body refl refl
    c.range_spans.ensures.original c.range_spans.ensures.patched c.report.ensures v.items h) c.range_spans.ensures.value)

pub returns-in-Site : goal.returns-in-Site
returns-in-Site c =
    let k = case_of c.self.inside.orig.now.bytes c.self.inside.patched.now.bytes c.self.inside.starts.now c.self.inside.flat in
    rw (c.in-Site.is, ← c.self.view_is) (IfOk-weaker c.site_spans.result _ _
    (λ v h. site_told k c.self.inside.patched.now.bytes c.report-in-Site.result.now.body refl c.report-in-Site.ensures v.items h) c.site_spans.ensures)

pub returns-in-Entry : goal.returns-in-Entry
returns-in-Entry c =
    let k = case_of c.self.inside.orig.now.bytes c.self.inside.patched.now.bytes c.self.inside.starts.now c.self.inside.flat in
    rw (c.in-Entry.is, ← c.self.view_is) (IfOk-weaker c.entry_spans.result _ _
    (λ v h. reach k rule.Entry v.items (entry_covered k c.lines.result.now c.lines.ensures v.items (h c.self.inside.orig.now.bytes))) c.entry_spans.ensures)

pub entry_spans-requires : goal.entry_spans-requires
entry_spans-requires c = c.self.invariant.spelled

pub returns-in-Code : goal.returns-in-Code
returns-in-Code c =
    let k = case_of c.self.inside.orig.now.bytes c.self.inside.patched.now.bytes c.self.inside.starts.now c.self.inside.flat in
    rw (c.in-Code.is, ← c.self.view_is) (IfOk-weaker c.code_spans.result _ _
    (λ v h. reach k rule.Code v.items (code_covered k c.self.invariant.turns c.self.inside.codes.items c.self.invariant.placed c.self.invariant.moved v.items
    (subst (λ (z : List PlacedCode). CoversFirst (CodeBroken k z) z (length z) v.items) c.deref.ensures.value
    (h c.self.inside.orig.now.bytes c.self.inside.starts.now)))) c.code_spans.ensures)

pub code_spans-requires : goal.code_spans-requires
code_spans-requires c = record {
  rises = subst (λ (z : List PlacedCode). IsNonDecreasingBy (λ (p : PlacedCode). p.line.tramp.place) z) (sym c.deref.ensures.value) c.self.invariant.rise;
}
