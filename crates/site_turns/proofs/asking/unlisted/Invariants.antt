use Rattle.std.proofs.Common.{◌≡◌, drop}
use Rattle.site_turns.specs.Planning.{first_unlisted}
use Rattle.site_turns.proofs.asking.unlisted.Given as goal

abbrev pub invariant-loop-site : goal.invariant-loop-site
invariant-loop-site l = first_unlisted l.starts (drop l.site-index l.sites) ≡ first_unlisted l.starts l.sites
