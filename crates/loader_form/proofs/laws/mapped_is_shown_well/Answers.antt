use Rattle.loader_form.proofs.MappedPages.{mapped_is_shown_well}
use Rattle.loader_form.proofs.laws.mapped_is_shown_well.Goals as goal

pub returns : goal.returns
returns c = mapped_is_shown_well
