use Rattle.std.proofs.Common.{◌≡◌, ◌∙◌, ℕ, List, ◌∷◌, Some, map, ap}
use Rattle.std.proofs.lemmas.Result.{IfOk-weaker}
use Rattle.std.specs.Borrow.{Bor}
use Rattle.clap.specs.Words.{found_of, rows_of}
use Rattle.command_words.specs.Words.{form_of}
use Rattle.command_words.specs.ClapForm.{command_found, words_found}
use Rattle.command_words.specs.Named.{command_view}
use Rattle.command_words.proofs.forms.named_command.Goals as goal

pub returns : goal.returns
returns c =
    let rows = rows_of (found_of c.args.given.now) in
    let words =
    ap (map (λ (w : Bor (List ℕ)). w.now)) c.deref.ensures.value ∙ c.in_ok-words.ensures
    ∙ ap (λ (names : List (List ℕ)). words_found names rows) c.words_under.ensures in
    IfOk-weaker c.read_command.result _ (λ r. command_view r ≡ command_found (Some (c.args.name.now, rows)))
    (λ r h. h ∙ ap (λ (ws : List (List ℕ)). form_of (c.args.name.now ∷ ws)) words) c.read_command.ensures
