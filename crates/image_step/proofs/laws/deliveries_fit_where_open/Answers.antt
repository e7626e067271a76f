use Rattle.image_step.proofs.OpenBytes.{fits_where_open}
use Rattle.image_step.proofs.laws.deliveries_fit_where_open.Goals as goal

pub returns : goal.returns
returns c = fits_where_open
