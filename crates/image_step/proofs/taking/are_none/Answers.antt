use Rattle.std.proofs.Common.{drop, ◌∙◌, rules, tests}
use Rattle.std.specs.Prelude.{is_none}
use Rattle.std.proofs.lemmas.Iterator.{YieldsList-from_slice}
use Rattle.std.proofs.lemmas.Iterator.Search.{all_from_yields_List}
use Rattle.image_step.proofs.Entries.{all_from}
use Rattle.image_step.proofs.taking.are_none.Goals as goal

pub returns : goal.returns
returns c =
    all_from_yields_List {all = drop c.args.place c.args.given.now} is_none _ _ _ c.all.ensures.ran
    (YieldsList-from_slice (drop c.args.place c.args.given.now) (c.iter.ensures.rest ∙ all_from c.args.given.now c.args.place)) (λ x b q k. search (rules, tests))
