use Rattle.std.proofs.Common.{◌∙◌, sym, string_bytes, rules, tests}
use Rattle.std.proofs.lemmas.Iterator.{YieldsList-from_slice}
use Rattle.std.proofs.lemmas.Iterator.Search.{all_from_yields_List}
use Rattle.std.proofs.lemmas.List.Folds.{list_all-map}
use Rattle.command_words.specs.Words.{is_plain}
use Rattle.command_words.proofs.words.are_plain.Goals as goal

pub returns : goal.returns
returns c =
    all_from_yields_List {all = c.args.words.now} (λ w. is_plain (string_bytes w)) _ _ _ c.all.ensures.ran
    (YieldsList-from_slice c.args.words.now c.iter.ensures.rest) (λ x b q k. search (rules, tests))
    ∙ sym (list_all-map is_plain string_bytes c.args.words.now)
