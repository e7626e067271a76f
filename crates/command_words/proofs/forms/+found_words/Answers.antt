use Rattle.std.proofs.Common.{◌≡◌, ◌∙◌, ℕ, List, map, sym, ap, ap₂}
use Rattle.std.proofs.lemmas.Result.{IfOk-weaker}
use Rattle.std.specs.Borrow.{Bor}
use Rattle.clap.specs.Words.{found_of, rows_of}
use Rattle.clap.proofs.WalkLemmas.{first_value-rows}
use Rattle.command_words.specs.ClapForm.{with_found, words_found}
use Rattle.command_words.proofs.forms.+found_words.Goals as goal

pub returns : goal.returns
returns t c =
    let m = found_of c.args.given.now in
    let named = sym (ap (λ (ns : List (Bor (List ℕ))). words_found (map (λ n. n.now) ns) (rows_of m)) c.in-Some.ensures.cases.0) in
    IfOk-weaker c.with_found.result _ (λ ws. map (λ w. w.now) ws.items ≡ words_found (map (λ n. n.now) c.args.names.now) (rows_of m))
    (λ ws h. h ∙ ap₂ with_found (c.get_str.ensures ∙ first_value-rows m c.in-Some.name.now.now) c.in_ok-words.ensures ∙ named)
    c.with_found.ensures
