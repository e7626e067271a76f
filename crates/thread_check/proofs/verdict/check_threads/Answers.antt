use Rattle.std.proofs.Common.{sym, subst}
use Rattle.sound_images.specs.Rules.{Case}
use Rattle.sound_images.specs.Cases.{case_of}
use Rattle.image_check.specs.declared.verdict.Verdict.{Verdict}
use Rattle.sound_images.proofs.ReadInstructions.{entries_built}
use Rattle.thread_check.specs.LineParts.{IsImageVerdict}
use Rattle.thread_check.specs.ThreadVerdict.{IsThreadVerdict}
use Rattle.thread_check.proofs.VerdictsOfLines.{whole_verdict, yes_followed}
use Rattle.thread_check.proofs.verdict.check_threads.Goals as goal

pub returns-clause-verdict : goal.returns-clause-verdict
returns-clause-verdict c =
    let k = case_of c.args.orig.now.bytes c.args.patched.now.bytes c.args.starts.now c.args.report.now.body in
    let v = c.in_ok-image.image in
    subst (λ (z : Verdict). IsThreadVerdict k z) (sym c.whole.ensures)
    (whole_verdict k v c.in_ok-events.events (subst (λ (z : Case). IsImageVerdict z v) c.in_ok-checked.ensures c.in_ok-image.ensures) c.in_ok-events.ensures)

pub returns-clause-followed : goal.returns-clause-followed
returns-clause-followed c =
    yes_followed (case_of c.args.orig.now.bytes c.args.patched.now.bytes c.args.starts.now c.args.report.now.body) c.whole.result
    (entries_built c.args.orig.now.bytes c.args.starts.now c.file-accepted.ensures.accepted c.requires.built) c.keeps.ensures.told (returns-clause-verdict c)
