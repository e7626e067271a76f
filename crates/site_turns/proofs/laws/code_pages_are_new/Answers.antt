use Rattle.site_turns.proofs.CodePages.{code_pages_are_new}
use Rattle.site_turns.proofs.laws.code_pages_are_new.Goals as goal

pub returns : goal.returns
returns c = code_pages_are_new
