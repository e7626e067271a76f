use Rattle.std.proofs.Common.{refl, sym}
use Rattle.patch_report.specs.Front.{version_front}
use Rattle.patch_report.proofs.line_reading.read_version.Goals as goal

pub returns-in_ok-later : goal.returns-in_ok-later
unfolding version_front
returns-in_ok-later c =
    let a = sym (rw c.in_default.is at c.take_word.ensures) in
    let b = sym (rw c.in_default-take_word.is at c.take_word-in_default.ensures) in
    let d = sym (rw c.in_ok-later.was at c.take_word-in_default-take_word.ensures) in
    rw (a, b, d) refl
