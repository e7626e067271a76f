use Rattle.std.proofs.Common.{◌≡◌, ◌∙◌, ◌++◌, string_bytes}
use Rattle.std.proofs.lemmas.Result.{IfOk-weaker}
use Rattle.command_words.specs.Named.{synopsis_of}
use Rattle.command_words.specs.Synopses.{synopsis_text}
use Rattle.command_words.proofs.synopses.text_of.Goals as goal

pub returns : goal.returns
returns c =
    IfOk-weaker c.format.result _ (λ text. string_bytes text ≡ synopsis_text (synopsis_of c.args.command.now))
    (λ text e. e ∙ (λ i. c.args.command.now.name.now ++ (c.in_ok-words.ensures i ++ (c.reserves_of-reserves.ensures i ++ c.base_text-base.ensures i)))) c.format.ensures.ok
