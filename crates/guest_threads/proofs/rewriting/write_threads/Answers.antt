use Rattle.rewrite_core.proofs.PlannedCalls.{by_error}
use Rattle.guest_threads.specs.ThreadCalls.{sharing, WritesThreads}
use Rattle.guest_threads.proofs.RewriteAnswers.{refused, writable, written_so}
use Rattle.guest_threads.proofs.rewriting.write_threads.Goals as goal

pub returns-in_err-planned-clause-writes : goal.returns-in_err-planned-clause-writes
returns-in_err-planned-clause-writes g c =
    let a = sharing c.args.action c.args.elf.now.bytes c.args.starts.now c.args.sites.now c.args.reserves.now in
    by_error (WritesThreads a c.args.name.now _ _) _ c.in_err-planned.field-0.0 c.from_residual.ensures.1
    (refused a c.args.name.now _ c.in_err-planned.field-0.0 c.in_err-planned.ensures)

pub write_patch-requires-clause-writable : goal.write_patch-requires-clause-writable
write_patch-requires-clause-writable g c =
    let a = sharing c.args.action c.args.elf.now.bytes c.args.starts.now c.args.sites.now c.args.reserves.now in
    writable a c.in_ok-planned.ensures.0 c.in_ok-planned.planned c.in_ok-planned.ensures.1

pub returns-clause-writes : goal.returns-clause-writes
returns-clause-writes g c =
    let a = sharing c.args.action c.args.elf.now.bytes c.args.starts.now c.args.sites.now c.args.reserves.now in
    written_so a c.in_ok-planned.ensures.0 c.in_ok-planned.planned c.in_ok-planned.ensures.1 c.args.name.now _ _ c.write_patch.result
    c.write_patch.ensures.writes
