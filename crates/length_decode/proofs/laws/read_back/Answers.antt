use Rattle.length_decode.proofs.SpelledFields.{parse_again}
use Rattle.length_decode.proofs.ReadFields.{parse_takes}
use Rattle.length_decode.proofs.laws.read_back.Goals as goal

pub returns : goal.returns
returns c = record { again = parse_again; spelled = λ bytes f e. let t = parse_takes bytes f e in (t.fine, (t.rest, t.split)) }
