use Rattle.std.proofs.Common.{◌≡◌, ℕ, List, [], ◌∷◌, None, Err, sym, subst}
use Rattle.unpatch.specs.Refusals as undoing
use Rattle.command_io.specs.Failing.{Failed}
use Rattle.patch_commands.specs.Unpatching.{Restores}
use Rattle.patch_commands.proofs.UnpatchVerdicts.{report_refused, file_refused, undo_refused, are_undone}
use Rattle.patch_commands.proofs.unpatch_command.undo_texts.Goals as goal

pub returns-in-Err : goal.returns-in-Err
returns-in-Err c =
    subst (λ (e : Failed). Restores (c.args.patched.now ∷ c.args.report.now ∷ []) (Err e)) (sym c.report_failure.ensures)
    (λ n. report_refused c.args.patched.now c.args.report.now c.in-Err.error n c.in-Err.ensures)

pub returns-in-Err-read_written : goal.returns-in-Err-read_written
returns-in-Err-read_written c =
    subst (λ (e : Failed). Restores (c.args.patched.now ∷ c.args.report.now ∷ []) (Err e)) (sym c.file_failure.ensures)
    (λ n. file_refused c.args.patched.now c.args.report.now c.in-Ok.moded.0 c.in-Ok.moded.1 c.in-Ok.ensures c.in-Err-read_written.error n
    c.in-Err-read_written.ensures.refused)

pub returns : goal.returns
returns c =
    subst (λ (e : Failed). Restores (c.args.patched.now ∷ c.args.report.now ∷ []) (Err e)) (sym c.undo_failure.ensures)
    (λ n. undo_refused c.args.patched.now c.args.report.now c.in-Ok.moded.0 c.in-Ok.moded.1 c.in-Ok.ensures c.in-Ok-read_written.ensures.accepted
    c.in-Err-restore.error n
    (subst (λ (bytes : List ℕ). undoing.Refused bytes c.in-Ok.moded.1 c.in-Err-restore.error) c.in-Ok-read_written.ensures.file.0 c.in-Err-restore.ensures.refused))

pub returns-in-Ok-restore : goal.returns-in-Ok-restore
returns-in-Ok-restore c =
    let same = c.in-Ok-read_written.ensures.file.0 in
    are_undone c.args.patched.now c.args.report.now c.in-Ok.moded.0 c.in-Ok.moded.1 c.in-Ok.ensures c.in-Ok-read_written.ensures.accepted
    c.in-Ok-restore.bytes.items (subst (λ (bytes : List ℕ). undoing.refusal bytes c.in-Ok.moded.1 ≡ None) same c.in-Ok-restore.ensures.accepted)
    (subst (λ (bytes : List ℕ). undoing.Undoes bytes c.in-Ok.moded.1 c.in-Ok-restore.bytes.items) same c.in-Ok-restore.ensures.undone)
