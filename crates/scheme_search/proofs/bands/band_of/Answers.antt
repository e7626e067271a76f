use Rattle.std.proofs.Common.{◌-◌, ◌/◌, refl}
use Rattle.scheme_search.proofs.TargetBands.{band_around}
use Rattle.scheme_search.proofs.bands.band_of.Goals as goal

pub returns-clause-multiple : goal.returns-clause-multiple
returns-clause-multiple c = ((c.args.d - c.args.x) / c.args.step, refl)

pub returns-clause-low : goal.returns-clause-low
returns-clause-low c = (band_around c.args.d c.args.x c.args.step c.requires.above c.requires.step).0

pub returns-clause-high : goal.returns-clause-high
returns-clause-high c = (band_around c.args.d c.args.x c.args.step c.requires.above c.requires.step).1
