use Rattle.std.proofs.Common.{◌≡◌, ◌-◌, take}
use Rattle.patch_report.specs.Fields.{bytes_at}
use Rattle.patch_report.proofs.PagesSoFar.{behind}
use Rattle.patch_report.proofs.field_reading.fill.Given as goal

abbrev pub invariant-loop-place : goal.invariant-loop-place
invariant-loop-place l = behind (take l.place l.buffer) (bytes_at (16 - l.place) l.left) ≡ bytes_at 16 l.fn.text
