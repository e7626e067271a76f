use Rattle.std.proofs.Common.{◌≡◌, take}
use Rattle.patch_report.specs.Rows.{sites_of}
use Rattle.patch_report.proofs.rows.sites_of.Given as goal

abbrev pub invariant-loop-row : goal.invariant-loop-row
invariant-loop-row l = l.sites.keys ≡ sites_of (take l.row-index l.rows)
