use Rattle.scheme_search.proofs.PaddedSpellings.{spelled_jumps_lead}
use Rattle.scheme_search.proofs.laws.spelled_jumps_lead.Goals as goal

pub returns : goal.returns
returns c = spelled_jumps_lead
