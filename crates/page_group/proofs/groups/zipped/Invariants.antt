use Rattle.std.proofs.Common.{◌≡◌, ◌++◌, drop}
use Rattle.std.specs.List.{zip}
use Rattle.page_group.proofs.groups.zipped.Given as goal

abbrev pub invariant-loop-place : goal.invariant-loop-place
invariant-loop-place l = l.homes.items ++ zip (drop l.place l.pages) (drop l.place l.groups) ≡ zip l.pages l.groups
