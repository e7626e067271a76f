use Rattle.std.proofs.Common.{refl}
use Rattle.list_text.proofs.laws.known_texts.Goals as goal

pub returns : goal.returns
returns c = record { empty = refl; empty_line = refl; repeated = refl; unended = refl; too_many = refl }
