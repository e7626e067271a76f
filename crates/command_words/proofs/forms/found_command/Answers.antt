use Rattle.std.proofs.Common.{◌≡◌, ◌∙◌, List, Option, Some, None, option_map, unwrap_or, ap}
use Rattle.std.proofs.lemmas.Result.{IfOk-weaker}
use Rattle.std.specs.Box.{box_value}
use Rattle.clap.specs.declared.parser.matches.ArgMatches.TheViews.{out-ArgMatches, out-SubCommand}
use Rattle.clap.specs.Walk.{Row, Text}
use Rattle.clap.specs.Words.{found_of, rows_of, subcommand_rows_of}
use Rattle.command_words.specs.ClapForm.{command_found}
use Rattle.command_words.specs.Named.{command_view}
use Rattle.command_words.proofs.forms.found_command.Goals as goal

-- a pair by its parts
both : {X : Type 0} (o : Option X) (f : X → Text × List Row) (name : Text) (rows : List Row) → Some name ≡ option_map (λ b. (f b).0) o
    → Some rows ≡ option_map (λ (p : Text × List Row). p.1) (option_map f o) → ◌≡◌ {A = Option (Text × List Row)} (Some (name, rows)) (option_map f o)
both None f name rows e h = cc
both (Some x) f name rows e h = λ i. Some (unwrap_or (e i) name, unwrap_or (h i) rows)

pub returns-in-Some : goal.returns-in-Some
returns-in-Some c =
    let m = c.args.matches.now in
    let pair =
    both (out-ArgMatches m).subcommand
    (λ b. ((out-SubCommand (box_value b)).name.now, rows_of (found_of (out-SubCommand (box_value b)).matches))) c.in-Some.name.now
    (rows_of (found_of c.in-Some.given.now)) c.in-Some.ensures.name c.in-Some.ensures.rows in
    IfOk-weaker c.named_command.result _ (λ r. command_view r ≡ command_found (subcommand_rows_of m)) (λ r h. h ∙ ap command_found pair)
    c.named_command.ensures
