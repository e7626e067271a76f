use Rattle.std.proofs.Common.{◌≡◌, ◌∙◌, sym, ap, subst, map, string_bytes}
use Rattle.clap.specs.Words.{App, HasMatchesOf, fault_of, is_simple_and_free}
use Rattle.clap.specs.Words.{HasKind}
use Rattle.std.proofs.lemmas.Result.{IfOk-weaker}
use Rattle.command_words.specs.Words.{form_of}
use Rattle.command_words.specs.Named.{command_view}
use Rattle.command_words.proofs.ParsedWords.{passed, failed}
use Rattle.command_words.proofs.words.parse.Goals as goal

pub returns-in-Ok : goal.returns-in-Ok
returns-in-Ok c =
    let ws = map string_bytes c.args.words.now in
    let is = c.in_ok-program.ensures in
    let same =
    passed ws c.requires c.in-Ok.matches (subst (λ (a : App). HasMatchesOf a ws c.in-Ok.matches) is c.in-Ok.ensures.matches)
    (sym (ap (λ (a : App). fault_of a ws) is) ∙ c.in-Ok.ensures.kinds (ap is_simple_and_free is)) in
    IfOk-weaker c.found_command.result _ (λ x. command_view x ≡ form_of ws) (λ x h. h ∙ same) c.found_command.ensures

pub returns : goal.returns
returns c =
    let ws = map string_bytes c.args.words.now in
    let is = c.in_ok-program.ensures in
    failed ws c.requires _
    (subst (λ (a : App). HasKind (fault_of a ws) c.in-Err.error) is (c.in-Err.ensures.kinds (ap is_simple_and_free is)))
    (λ e. c.in_default.not-OutOfMemory (c.kind.ensures ∙ e))
