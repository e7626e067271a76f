use Rattle.image_check.specs.Parts.{line_of}
use Rattle.sound_images.specs.Cases.{case_of}
use Rattle.thread_check.proofs.BuiltCode.{no_code_fails, sound_line, failing_line}
use Rattle.thread_check.proofs.line_rule.judge.Goals as goal

pub returns-in-None : goal.returns-in-None
returns-in-None c =
    no_code_fails (case_of c.args.orig.now.bytes c.args.patched.now.bytes c.args.starts.now c.args.report.now.body) (line_of c.args.line.now)
    c.from-start.result c.from-start.ensures (c.in-None.ensures c.args.patched.now.bytes)

pub returns-in-Yes : goal.returns-in-Yes
returns-in-Yes c =
    sound_line (case_of c.args.orig.now.bytes c.args.patched.now.bytes c.args.starts.now c.args.report.now.body) (line_of c.args.line.now)
    c.from-start.result c.from-place.result c.in-Some.code c.as_slice-bytes.result.now c.from-start.ensures c.from-place.ensures c.as_slice-bytes.ensures.value
    (c.in-Some.ensures c.args.patched.now.bytes) (rw c.in-Yes.is at c.judge_code.ensures)

pub returns-in-No : goal.returns-in-No
returns-in-No c =
    failing_line (case_of c.args.orig.now.bytes c.args.patched.now.bytes c.args.starts.now c.args.report.now.body) (line_of c.args.line.now)
    c.from-start.result c.from-place.result c.in-Some.code c.as_slice-bytes.result.now c.in-No.addr c.in-No.rule c.from-start.ensures c.from-place.ensures
    c.as_slice-bytes.ensures.value (c.in-Some.ensures c.args.patched.now.bytes) (rw c.in-No.is at c.judge_code.ensures)
