use Rattle.std.proofs.Common.{◌≡◌, true, fold, ap, ◌∙◌}
use Rattle.std.proofs.lemmas.Result.{IfOk-weaker}
use Rattle.clap.specs.Words.{App, app_of}
use Rattle.clap.specs.Simple.{Shape, app_of_fields, on_top}
use Rattle.command_words.specs.ClapForm.{program_app, with_form}
use Rattle.command_words.specs.Words.{synopses}
use Rattle.command_words.proofs.forms.program.Goals as goal

pub returns : goal.returns
returns c =
    let top =
    ap app_of_fields c.subcommand_required-alone.ensures
    ∙ ap (on_top (λ (s : Shape). record s { subcommand_required = true })) (ap app_of_fields c.disable_version_flag.ensures
    ∙ ap (on_top (λ (s : Shape). record s { disable_version_flag = true })) (ap app_of_fields c.disable_help_subcommand.ensures
    ∙ ap (on_top (λ (s : Shape). record s { disable_help_subcommand = true })) (ap app_of_fields c.disable_help_flag.ensures
    ∙ ap (on_top (λ (s : Shape). record s { disable_help_flag = true })) (ap app_of_fields c.no_binary_name.ensures
    ∙ ap (on_top (λ (s : Shape). record s { no_binary_name = true })) c.new.ensures.app)))) in
    IfOk-weaker c.with_forms.result _ (λ r. app_of r ≡ program_app)
    (λ r h. h ∙ ap (λ (a : App). fold with_form a synopses) top) c.with_forms.ensures
