use Rattle.loader_form.proofs.MappedPages.{records_name_pages}
use Rattle.loader_form.proofs.laws.records_name_pages.Goals as goal

pub returns : goal.returns
returns c = records_name_pages
