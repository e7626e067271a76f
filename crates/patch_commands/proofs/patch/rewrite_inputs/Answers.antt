use Rattle.std.proofs.Common.{inl, refl, ◌∙◌, subst}
use Rattle.command_io.specs.Verdict.{rewriting_in}
use Rattle.command_io.specs.Failing.{seen_as, told_of, failed_of}
use Rattle.command_io.specs.declared.report_mode.Mode.{Mode}
use Rattle.patch_commands.specs.Patching.{WritesReport}
use Rattle.patch_commands.specs.Forms.{form_in, patching_of, writing_in}
use Rattle.patch_commands.proofs.TextVerdicts.{only_lists, lists_end}
use Rattle.patch_commands.proofs.InEachForm.{reported, not_rewritten}
use Rattle.patch_commands.proofs.patch.rewrite_inputs.Goals as goal

pub returns-in-Err : goal.returns-in-Err
returns-in-Err g c =
    let given = c.args.given.now in
    let p = patching_of given in
    let x = c.args.inputs in
    inl (refl, lists_end (writing_in given.form p) x (failed_of c.in-Err.failure) (only_lists (rewriting_in (form_in given.form) p) x) c.in-Err.ensures)

pub returns-in-Ok-rewrite_listed : goal.returns-in-Ok-rewrite_listed
returns-in-Ok-rewrite_listed g c =
    let given = c.args.given.now in
    reported given.form (patching_of given) refl given.reserves.now c.args.inputs c.bytes_of-file.result.now c.deref-2.result.now c.deref-3.result.now _ _ _
    refl c.in-Ok.ensures (c.bytes_of-file.ensures.value ∙ c.deref.ensures.value) c.deref-2.ensures.value c.deref-3.ensures.value c.bytes_of-file.ensures.bytes
    c.in-Ok-rewrite_listed.report _ _ _ (seen_as told_of c.write_report.result) c.in-Ok-rewrite_listed.ensures.rewrites
    (subst (λ (m : Mode). WritesReport m given.names.now.report.now c.in-Ok-rewrite_listed.report (g.D.Desk.seen c.rewrite_listed.new.desk)
    (g.D.Desk.seen c.write_report.new.desk) (seen_as told_of c.write_report.result)) c.mode.ensures c.write_report.ensures)

pub returns : goal.returns
returns g c =
    let given = c.args.given.now in
    not_rewritten given.form (patching_of given) refl given.reserves.now c.args.inputs c.bytes_of-file.result.now c.deref-2.result.now c.deref-3.result.now _ _ _
    refl c.in-Ok.ensures (c.bytes_of-file.ensures.value ∙ c.deref.ensures.value) c.deref-2.ensures.value c.deref-3.ensures.value c.bytes_of-file.ensures.bytes
    _ _ (failed_of c.in-Err-rewrite_listed.failure) c.in-Err-rewrite_listed.ensures.rewrites
