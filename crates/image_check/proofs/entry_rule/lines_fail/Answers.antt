use Rattle.std.proofs.Common.{◌↔◌, false, sym, subst, refl, inl, List, arith, ◌+◌, drop, get_or}
use Rattle.std.proofs.lemmas.List.{drop_more, drop_all}
use Rattle.image_check.specs.declared.flat.ReportLine.{ReportLine}
use Rattle.image_check.specs.Jumps.{AnyLineFails}
use Rattle.sound_images.specs.Cases.{case_of}
use Rattle.image_check.proofs.EntryRule.{passed}
use Rattle.image_check.proofs.entry_rule.lines_fail.Goals as goal

pub returns-then-line_fails : goal.returns-then-line_fails
returns-then-line_fails c = λ o.
    let P : List ReportLine → Type 0 = AnyLineFails (case_of o c.args.patched.now.bytes c.args.starts.now c.args.flat.now) c.args.addr in
    let first = drop_more c.args.lines.now c.loop-line.line-index _ c.loop-line-test.true in (
      λ t. (c.loop-line.invariant o).0 (subst P (sym first) (inl ((c.line_fails.ensures o).0 c.if-line_fails.true))),
      λ a. refl,
    )

pub loop-line-preserved : goal.loop-line-preserved
loop-line-preserved c = λ o.
    let k = case_of o c.args.patched.now.bytes c.args.starts.now c.args.flat.now in
    let d : ReportLine = record { number = 0; tramp = record { place = 0; start = 0; event = false } } in
    let P : List ReportLine → Type 0 = λ z. AnyLineFails k c.args.addr z ↔ AnyLineFails k c.args.addr c.args.lines.now in
    passed k c.args.addr (get_or c.args.lines.now c.loop-line.line-index d) (drop (c.loop-line.line-index + 1) c.args.lines.now) _ c.line_fails.result
    (c.line_fails.ensures o) c.if-line_fails.false
    (subst P (drop_more c.args.lines.now c.loop-line.line-index d c.loop-line-test.true) (c.loop-line.invariant o))

pub returns : goal.returns
returns c = λ o.
    let P : List ReportLine → Type 0 = AnyLineFails (case_of o c.args.patched.now.bytes c.args.starts.now c.args.flat.now) c.args.addr in (
      λ t. absurd cc,
      λ a. absurd (subst P (drop_all c.loop-line.line-index c.args.lines.now (omega arith)) ((c.loop-line.invariant o).1 a)),
    )
