use Rattle.std.proofs.Common.{map, inl, refl, ◌∙◌}
use Rattle.pun_base.specs.Ranges.{ends}
use Rattle.command_words.specs.Named.{thread_names_of}
use Rattle.command_io.specs.Failing.{seen_as, told_of, failed_of}
use Rattle.command_io.proofs.WholeCommands.{works_as}
use Rattle.patch_commands.specs.ThreadsAnswers.{thread_patching, threads_rewriting, threads_writing}
use Rattle.patch_commands.specs.Patching.{patch_texts}
use Rattle.patch_commands.proofs.TextVerdicts.{only_lists, lists_end}
use Rattle.patch_commands.proofs.Rewritings.{given}
use Rattle.patch_commands.proofs.ThreadRewritings.{rewrote, refused}
use Rattle.patch_commands.proofs.threads_command.rewrite_inputs.Goals as goal

pub returns-in-Err : goal.returns-in-Err
returns-in-Err g c =
    let p = thread_patching (thread_names_of c.args.names.now) (map ends c.args.reserves.now) in
    inl (refl, lists_end (threads_writing p) c.args.inputs (failed_of c.in-Err.failure) (only_lists (threads_rewriting p) c.args.inputs) c.in-Err.ensures)

pub returns-in-Ok-rewrite_threads : goal.returns-in-Ok-rewrite_threads
returns-in-Ok-rewrite_threads g c =
    let p = thread_patching (thread_names_of c.args.names.now) (map ends c.args.reserves.now) in
    rewrote p c.args.inputs _
    (given (threads_rewriting p) c.args.reserves.now c.args.inputs c.bytes_of-file.result.now c.deref-2.result.now c.deref-3.result.now _ _ _ refl c.in-Ok.ensures
    (c.bytes_of-file.ensures.value ∙ c.deref.ensures.value) c.deref-2.ensures.value c.deref-3.ensures.value c.bytes_of-file.ensures.bytes)
    c.in-Ok-rewrite_threads.report c.as_slice.result.now _ _ (seen_as told_of c.told_summary.result) c.as_slice.ensures.value
    c.in-Ok-rewrite_threads.ensures.rewrites c.told_summary.ensures

pub returns : goal.returns
returns g c =
    let p = thread_patching (thread_names_of c.args.names.now) (map ends c.args.reserves.now) in
    works_as (threads_writing p) (patch_texts c.args.inputs) _ _ _ _ c.rewrite_failure.ensures
    (refused p c.args.inputs _
    (given (threads_rewriting p) c.args.reserves.now c.args.inputs c.bytes_of-file.result.now c.deref-2.result.now c.deref-3.result.now _ _ _ refl c.in-Ok.ensures
    (c.bytes_of-file.ensures.value ∙ c.deref.ensures.value) c.deref-2.ensures.value c.deref-3.ensures.value c.bytes_of-file.ensures.bytes)
    _ _ c.in-Err-rewrite_threads.error c.in-Err-rewrite_threads.ensures.rewrites)
