use Rattle.std.proofs.Common.{Ok}
use Rattle.rewrite_core.specs.declared.rewrite.RewriteError.TheVariants as rewrite
use Rattle.rewrite_core.specs.Asked.{Asked}
use Rattle.rewrite_core.specs.Rewrites.{Rewrites}
use Rattle.rewrite_core.proofs.PlannedCalls.{asked, by_error, may_report, not_told, not_written, of_input, rewritten, writable}
use Rattle.rewrite_core.proofs.rewrite.rewrite.Goals as goal

pub write_patch-requires-clause-writable : goal.write_patch-requires-clause-writable
write_patch-requires-clause-writable g c =
    let a = asked c.in_ok-elf.elf.bytes c.args.starts.now c.args.sites.now c.args.action c.args.reserves.now in
    writable a c.in_ok-planned.ensures.0 c.in_ok-planned.planned c.in_ok-planned.ensures.1

pub returns-in_err-patch-clause-rewrites : goal.returns-in_err-patch-clause-rewrites
returns-in_err-patch-clause-rewrites g c =
    let a = asked c.in_ok-elf.elf.bytes c.args.starts.now c.args.sites.now c.args.action c.args.reserves.now in
    of_input (λ (z : Asked). Rewrites z c.args.name.now
    (g.D.Desk.seen c.args.desk.now) (g.D.Desk.seen c.write_patch.new.desk) c.from_residual-in_err-patch.result)
    (record a { file = c.args.file.now }) c.in_ok-elf.elf.bytes c.in_ok-elf.ensures.file.0
    (by_error (Rewrites a c.args.name.now _ _) _ c.in_err-patch.field-0.0 c.from_residual-in_err-patch.ensures.1
    (not_written a c.in_ok-planned.ensures.0 c.in_ok-planned.planned c.in_ok-planned.ensures.1 c.args.name.now _ _ c.in_err-patch.field-0.0
    c.in_err-patch.ensures.writes))

pub into_report-requires : goal.into_report-requires
into_report-requires g c =
    let a = asked c.in_ok-elf.elf.bytes c.args.starts.now c.args.sites.now c.args.action c.args.reserves.now in
    record {
      origin = c.origin_of-origin.ensures.fits;
      body = may_report a c.in_ok-planned.ensures.0 c.in_ok-planned.planned c.in_ok-planned.ensures.1 c.in_ok-patch.patch
          c.in_ok-patch.ensures.writes.0;
    }

pub returns-in_err-report-clause-rewrites : goal.returns-in_err-report-clause-rewrites
returns-in_err-report-clause-rewrites g c =
    let a = asked c.in_ok-elf.elf.bytes c.args.starts.now c.args.sites.now c.args.action c.args.reserves.now in
    of_input (λ (z : Asked). Rewrites z c.args.name.now
    (g.D.Desk.seen c.args.desk.now) (g.D.Desk.seen c.write_patch.new.desk) c.from_residual-in_err-report.result)
    (record a { file = c.args.file.now }) c.in_ok-elf.elf.bytes c.in_ok-elf.ensures.file.0
    (by_error (Rewrites a c.args.name.now _ _) _ rewrite.Memory c.from_residual-in_err-report.ensures.1
    (not_told a c.in_ok-planned.ensures.0 c.in_ok-planned.planned c.in_ok-planned.ensures.1 c.in_ok-patch.patch c.in_ok-patch.ensures.writes.0
    c.args.name.now _ _ c.in_ok-patch.ensures.writes.1))

pub returns-clause-rewrites : goal.returns-clause-rewrites
returns-clause-rewrites g c =
    let a = asked c.in_ok-elf.elf.bytes c.args.starts.now c.args.sites.now c.args.action c.args.reserves.now in
    of_input (λ (z : Asked). Rewrites z c.args.name.now
    (g.D.Desk.seen c.args.desk.now) (g.D.Desk.seen c.write_patch.new.desk) (Ok c.in_ok-report.report))
    (record a { file = c.args.file.now }) c.in_ok-elf.elf.bytes c.in_ok-elf.ensures.file.0
    (rewritten a c.in_ok-planned.ensures.0 c.in_ok-planned.planned c.in_ok-planned.ensures.1 c.in_ok-patch.patch c.in_ok-patch.ensures.writes.0
    c.args.name.now _ _ c.in_ok-patch.ensures.writes.1 c.in_ok-report.report c.origin_of-origin.result c.origin_of-origin.ensures.value
    c.origin_of-origin.ensures.fits c.in_ok-report.ensures)
