use Rattle.std.proofs.Common.{map}
use Rattle.patch_report.specs.Values.{write_value}
use Rattle.unpatch.proofs.BytesAndRunsSoFar.{is_undone}
use Rattle.unpatch.proofs.restore.restore_runs.Goals as goal

pub returns-clause-undone : goal.returns-clause-undone
returns-clause-undone c =
    is_undone c.args.patched.now.bytes c.deref_mut.result.now c.in_ok-bytes.bytes.items c.undo.new.bytes c.file-file.result.now c.args.origin
    (map write_value c.args.runs.now) c.in_ok-bytes.bytes.len c.file-file.ensures.value c.in_ok-bytes.ensures.items c.deref_mut.ensures.value c.undo.auto.bytes
    c.deref_mut.ensures.len c.undo.ensures
