use Rattle.loader_form.proofs.LaidPages.{laid_for}
use Rattle.loader_form.proofs.laws.laid_for_is_laid.Goals as goal

pub returns : goal.returns
returns c = laid_for
