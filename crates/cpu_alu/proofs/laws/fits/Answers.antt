use Rattle.cpu_alu.proofs.ResultBounds.{fits}
use Rattle.cpu_alu.proofs.laws.fits.Goals as goal

pub returns : goal.returns
returns c = fits
