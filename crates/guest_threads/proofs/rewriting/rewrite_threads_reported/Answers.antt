use Rattle.std.proofs.Common.{rules, Ok}
use Rattle.rewrite_core.specs.declared.rewrite.RewriteError.TheVariants as rewrite
use Rattle.rewrite_core.specs.Asked.{Asked}
use Rattle.rewrite_core.proofs.PlannedCalls.{by_error, of_input}
use Rattle.guest_threads.specs.ThreadCalls.{sharing}
use Rattle.guest_threads.specs.ThreadRewriting.{ReportsThreads}
use Rattle.guest_threads.proofs.RewriteAnswers.{can_report, not_told, reported}
use Rattle.guest_threads.proofs.rewriting.rewrite_threads_reported.Goals as goal

pub write_threads-requires-clause-order : goal.write_threads-requires-clause-order
write_threads-requires-clause-order g c =
    record { bytes = search rules; starts = c.requires.starts_ascend; sites = c.requires.sites_ascend; few = c.requires.few_sites }

pub returns-in_err-patch-clause-rewrites : goal.returns-in_err-patch-clause-rewrites
returns-in_err-patch-clause-rewrites g c =
    let a = sharing c.args.action c.in_ok-elf.elf.bytes c.args.starts.now c.args.sites.now c.args.reserves.now in
    of_input (λ (z : Asked). ReportsThreads z c.args.name.now
    (g.D.Desk.seen c.args.desk.now) (g.D.Desk.seen c.write_threads.new.desk) c.from_residual-in_err-patch.result)
    (record a { file = c.args.file.now }) c.in_ok-elf.elf.bytes c.in_ok-elf.ensures.file.0
    (by_error (ReportsThreads a c.args.name.now _ _) _ c.in_err-patch.field-0.0
    c.from_residual-in_err-patch.ensures.1 c.in_err-patch.ensures.writes)

pub into_report-requires : goal.into_report-requires
into_report-requires g c = record {
  origin = c.origin_of-origin.ensures.fits;
  body = can_report _ c.args.name.now _ _ c.in_ok-patch.patch c.in_ok-patch.ensures.writes;
}

pub returns-in_err-report-clause-rewrites : goal.returns-in_err-report-clause-rewrites
returns-in_err-report-clause-rewrites g c =
    let a = sharing c.args.action c.in_ok-elf.elf.bytes c.args.starts.now c.args.sites.now c.args.reserves.now in
    of_input (λ (z : Asked). ReportsThreads z c.args.name.now
    (g.D.Desk.seen c.args.desk.now) (g.D.Desk.seen c.write_threads.new.desk) c.from_residual-in_err-report.result)
    (record a { file = c.args.file.now }) c.in_ok-elf.elf.bytes c.in_ok-elf.ensures.file.0
    (by_error (ReportsThreads a c.args.name.now _ _) _ rewrite.Memory c.from_residual-in_err-report.ensures.1
    (not_told a c.args.name.now _ _ c.in_ok-patch.patch c.in_ok-patch.ensures.writes))

pub returns-clause-rewrites : goal.returns-clause-rewrites
returns-clause-rewrites g c =
    let a = sharing c.args.action c.in_ok-elf.elf.bytes c.args.starts.now c.args.sites.now c.args.reserves.now in
    of_input (λ (z : Asked). ReportsThreads z c.args.name.now
    (g.D.Desk.seen c.args.desk.now) (g.D.Desk.seen c.write_threads.new.desk) (Ok c.in_ok-report.report))
    (record a { file = c.args.file.now }) c.in_ok-elf.elf.bytes c.in_ok-elf.ensures.file.0
    (reported a c.args.name.now _ _ c.in_ok-patch.patch c.in_ok-patch.ensures.writes c.in_ok-report.report c.origin_of-origin.result
    c.origin_of-origin.ensures.value c.origin_of-origin.ensures.fits
    c.in_ok-report.ensures)
