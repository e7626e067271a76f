use Rattle.std.proofs.Common.{inl, inr, arith}
use Rattle.std.proofs.lemmas.Bool.{cases_lt}
use Rattle.image_check.specs.Verdict.{case_in}
use Rattle.image_check.proofs.LeastAddresses.{first_found, none_found, more_below}
use Rattle.image_check.proofs.checked.Checked.first_in.Goals.{else-span-via-then-span+else-fails-2, else-span-via-else-span}
use Rattle.image_check.proofs.checked.Checked.first_in.Goals as goal

pub returns-then-fails : goal.returns-then-fails
returns-then-fails c =
    let h = c.loop-addr.invariant in
    let t = c.loop-addr-test.true in
    first_found (case_in c.args.self.now) c.args.rule c.args.span c.loop-addr.addr h.0 (omega (arith, t)) (c.fails.ensures.0 c.if-fails.true) h.1

pub loop-addr-preserved-then-next-addr : goal.loop-addr-preserved-then-next-addr
loop-addr-preserved-then-next-addr c =
    let h = c.loop-addr.invariant in (
      omega (arith, h.0),
      more_below (case_in c.args.self.now) c.args.rule c.args.span.first c.loop-addr.addr _ h.1 c.fails.ensures c.if-fails.false,
    )

pub loop-addr-preserved : goal.loop-addr-preserved
loop-addr-preserved c =
    let h = c.loop-addr.invariant in
    let p = c.passed-next.ensures in (
      omega (arith, h.0, p.from),
      λ y l m f. elim (cases_lt y c.loop-addr.addr) [ inl k ↦ h.1 y l k f | inr k ↦ p.holds y k m f ],
    )

pub returns-then-fails-2 : goal.returns-then-fails-2
returns-then-fails-2 c =
    let t = c.loop-addr-test.false in
    first_found (case_in c.args.self.now) c.args.rule c.args.span c.args.span.last c.if-span.true (omega arith) (c.fails-then-span.ensures.0 c.if-fails-2.true)
    (λ y l m f. c.loop-addr.invariant.1 y l (omega (arith, m, t)) f)

pub returns-else-span : goal.returns-else-span
returns-else-span c =
    let t = c.loop-addr-test.false in
    none_found (case_in c.args.self.now) c.args.rule c.args.span (λ y l m f. elim c.else-span.branch [
      | else-span-via-then-span+else-fails-2 w ↦ more_below (case_in c.args.self.now) c.args.rule c.args.span.first c.args.span.last _
          (λ z a b g. c.loop-addr.invariant.1 z a (omega (arith, b, t)) g) w.fails-then-span.ensures w.if-fails-2.false y l (omega (arith, m)) f
      | else-span-via-else-span w ↦ (let k = w.if-span.false in omega (arith, k, l, m))
    ])
