use Rattle.std.proofs.Common.{◌∙◌, ℕ, List, [], ◌++◌, Option, map, refl, ap, unwrap_or, codes}
use Rattle.std.specs.Borrow.{Bor}
use Rattle.clap.specs.Words.{found_of}
use Rattle.clap.proofs.WalkLemmas.{raw_values-rows}
use Rattle.command_words.proofs.ReservedRanges.{unwrapped}
use Rattle.command_words.proofs.forms.reserve_words.Goals as goal

pub returns : goal.returns
returns c =
    let given = c.unwrap_or.result.now in
    let items = c.in_ok-extend_from_slice.ensures.items ∙ ap (λ (ws : List (Bor (List ℕ))). ws ++ given) c.new-words.ensures.items in
    let words = unwrapped _ _ _ c.unwrap_or.ensures refl in
    let rows = ap (λ (o : Option (List (List ℕ))). unwrap_or o []) (c.get_strs.ensures ∙ raw_values-rows (found_of c.args.given.now) (codes "RESERVE")) in
    ap (map (λ (w : Bor (List ℕ)). w.now)) items ∙ words ∙ rows
