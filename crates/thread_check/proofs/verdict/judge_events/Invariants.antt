use Rattle.std.proofs.Common.{◌≡◌, map, take}
use Rattle.std.specs.List.{AllByRecursion}
use Rattle.image_check.specs.Parts.{line_of}
use Rattle.sound_images.specs.Cases.{case_of}
use Rattle.thread_check.specs.LineParts.{IsSoundCode}
use Rattle.thread_check.proofs.verdict.judge_events.Given as goal

abbrev pub invariant-loop-line : goal.invariant-loop-line
invariant-loop-line l =
    (map (λ p. line_of p.line) l.codes.items ≡ map line_of (take l.line-index l.lines))
    × AllByRecursion (IsSoundCode (case_of l.orig.bytes l.patched.bytes l.starts l.report.body)) l.codes.items
