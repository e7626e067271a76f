use Rattle.std.proofs.Common.{rules, Ok}
use Rattle.rewrite_core.specs.declared.rewrite.RewriteError.TheVariants as rewrite
use Rattle.rewrite_core.specs.Asked.{Asked}
use Rattle.rewrite_core.proofs.PlannedCalls.{by_error, of_input}
use Rattle.rewrite_loader.specs.declared.error.LoaderError.TheVariants.{Rewrite}
use Rattle.guest_threads.specs.ThreadCalls.{sharing}
use Rattle.guest_threads.proofs.RewriteAnswers.{writable}
use Rattle.thread_loader.specs.Rewriting.{LoadsThreads}
use Rattle.thread_loader.proofs.LoadedGuests.{refused, not_written, not_told, can_report, reported}
use Rattle.thread_loader.proofs.rewriting.rewrite_threads_loader.Goals as goal

pub plan_thread_file-requires-clause-order : goal.plan_thread_file-requires-clause-order
plan_thread_file-requires-clause-order g c =
    record { bytes = search rules; starts = c.requires.starts_ascend; sites = c.requires.sites_ascend; few = c.requires.few_sites }

pub returns-in_err-planned-clause-rewrites : goal.returns-in_err-planned-clause-rewrites
returns-in_err-planned-clause-rewrites g c =
    let a = sharing c.args.action c.in_ok-elf.elf.bytes c.args.starts.now c.args.sites.now c.args.reserves.now in
    of_input (λ (z : Asked). LoadsThreads z c.args.name.now
    (g.D.Desk.seen c.args.desk.now) (g.D.Desk.seen c.args.desk.now) c.from_residual-in_err-planned.result)
    (record a { file = c.args.file.now }) c.in_ok-elf.elf.bytes c.in_ok-elf.ensures.file.0
    (by_error (LoadsThreads a c.args.name.now _ _) _ (Rewrite c.in_err-planned.field-0.0) c.from_residual-in_err-planned.ensures.1
    (refused a c.args.name.now _ c.in_err-planned.field-0.0 c.in_err-planned.ensures))

pub write_loader-requires-clause-writable : goal.write_loader-requires-clause-writable
write_loader-requires-clause-writable g c =
    let a = sharing c.args.action c.in_ok-elf.elf.bytes c.args.starts.now c.args.sites.now c.args.reserves.now in
    writable a c.in_ok-planned.ensures.0 c.in_ok-planned.planned c.in_ok-planned.ensures.1

pub returns-in_err-loaded-clause-rewrites : goal.returns-in_err-loaded-clause-rewrites
returns-in_err-loaded-clause-rewrites g c =
    let a = sharing c.args.action c.in_ok-elf.elf.bytes c.args.starts.now c.args.sites.now c.args.reserves.now in
    of_input (λ (z : Asked). LoadsThreads z c.args.name.now
    (g.D.Desk.seen c.args.desk.now) (g.D.Desk.seen c.write_loader.new.desk) c.from_residual-in_err-loaded.result)
    (record a { file = c.args.file.now }) c.in_ok-elf.elf.bytes c.in_ok-elf.ensures.file.0
    (by_error (LoadsThreads a c.args.name.now _ _) _ c.in_err-loaded.field-0.0 c.from_residual-in_err-loaded.ensures.1
    (not_written a c.in_ok-planned.ensures.0 c.in_ok-planned.planned c.in_ok-planned.ensures.1 c.args.name.now _ _ c.in_err-loaded.field-0.0
    c.in_err-loaded.ensures.writes))

pub into_report-requires : goal.into_report-requires
into_report-requires g c =
    let a = sharing c.args.action c.in_ok-elf.elf.bytes c.args.starts.now c.args.sites.now c.args.reserves.now in
    record {
      origin = c.origin_of-origin.ensures.fits;
      body = can_report a c.in_ok-planned.ensures.0 c.in_ok-planned.planned c.in_ok-planned.ensures.1 c.args.name.now _ _ c.in_ok-loaded.loaded
          c.in_ok-loaded.ensures.writes;
    }

pub returns-in_err-report-clause-rewrites : goal.returns-in_err-report-clause-rewrites
returns-in_err-report-clause-rewrites g c =
    let a = sharing c.args.action c.in_ok-elf.elf.bytes c.args.starts.now c.args.sites.now c.args.reserves.now in
    of_input (λ (z : Asked). LoadsThreads z c.args.name.now
    (g.D.Desk.seen c.args.desk.now) (g.D.Desk.seen c.write_loader.new.desk) c.from_residual-in_err-report.result)
    (record a { file = c.args.file.now }) c.in_ok-elf.elf.bytes c.in_ok-elf.ensures.file.0
    (by_error (LoadsThreads a c.args.name.now _ _) _ (Rewrite rewrite.Memory) c.from_residual-in_err-report.ensures.1
    (not_told a c.in_ok-planned.ensures.0 c.in_ok-planned.planned c.in_ok-planned.ensures.1 c.args.name.now _ _ c.in_ok-loaded.loaded
    c.in_ok-loaded.ensures.writes))

pub returns-clause-rewrites : goal.returns-clause-rewrites
returns-clause-rewrites g c =
    let a = sharing c.args.action c.in_ok-elf.elf.bytes c.args.starts.now c.args.sites.now c.args.reserves.now in
    of_input (λ (z : Asked). LoadsThreads z c.args.name.now
    (g.D.Desk.seen c.args.desk.now) (g.D.Desk.seen c.write_loader.new.desk) (Ok c.in_ok-report.report))
    (record a { file = c.args.file.now }) c.in_ok-elf.elf.bytes c.in_ok-elf.ensures.file.0
    (reported a c.in_ok-planned.ensures.0 c.in_ok-planned.planned c.in_ok-planned.ensures.1 c.args.name.now _ _ c.in_ok-loaded.loaded
    c.in_ok-loaded.ensures.writes c.in_ok-report.report c.origin_of-origin.result c.origin_of-origin.ensures.value
    c.origin_of-origin.ensures.fits c.in_ok-report.ensures)
