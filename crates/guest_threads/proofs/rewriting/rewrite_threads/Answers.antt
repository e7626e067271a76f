use Rattle.std.proofs.Common.{rules, Ok, refl}
use Rattle.pun_base.specs.declared.action.Action.TheVariants.{Count}
use Rattle.rewrite_core.specs.Asked.{Asked}
use Rattle.rewrite_core.proofs.PlannedCalls.{by_error, of_input}
use Rattle.guest_threads.specs.ThreadCalls.{sharing}
use Rattle.guest_threads.specs.ThreadRewriting.{RewritesThreads}
use Rattle.guest_threads.proofs.RewriteAnswers.{rewritten}
use Rattle.guest_threads.proofs.rewriting.rewrite_threads.Goals as goal

pub write_threads-requires-clause-order : goal.write_threads-requires-clause-order
write_threads-requires-clause-order g c =
    record { bytes = search rules; starts = c.requires.starts_ascend; sites = c.requires.sites_ascend; few = c.requires.few_sites }

pub returns-in_err-patch-clause-rewrites : goal.returns-in_err-patch-clause-rewrites
returns-in_err-patch-clause-rewrites g c =
    let a = sharing Count c.in_ok-elf.elf.bytes c.args.starts.now c.args.sites.now c.args.reserves.now in
    of_input (λ (z : Asked). RewritesThreads z c.args.name.now
    (g.D.Desk.seen c.args.desk.now) (g.D.Desk.seen c.write_threads.new.desk) c.from_residual-in_err-patch.result)
    (record a { file = c.args.file.now }) c.in_ok-elf.elf.bytes c.in_ok-elf.ensures.file.0
    (by_error (RewritesThreads a c.args.name.now _ _) _ c.in_err-patch.field-0.0
    c.from_residual-in_err-patch.ensures.1 c.in_err-patch.ensures.writes)

pub returns-clause-rewrites : goal.returns-clause-rewrites
returns-clause-rewrites g c =
    let a = sharing Count c.in_ok-elf.elf.bytes c.args.starts.now c.args.sites.now c.args.reserves.now in
    of_input (λ (z : Asked). RewritesThreads z c.args.name.now
    (g.D.Desk.seen c.args.desk.now) (g.D.Desk.seen c.write_threads.new.desk) (Ok (record { private = c.in_ok-patch.patch.private; rows = c.in_ok-patch.patch.rows })))
    (record a { file = c.args.file.now }) c.in_ok-elf.elf.bytes c.in_ok-elf.ensures.file.0
    (rewritten a c.args.name.now _ _ c.in_ok-patch.patch c.in_ok-patch.ensures.writes _ refl refl)
