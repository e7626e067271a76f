use Rattle.std.proofs.Common.{ℕ, List, [], ◌∷◌, Err, inl, refl, subst}
use Rattle.command_words.specs.Named.{settle_names_of}
use Rattle.command_io.specs.Failing.{seen_as, told_of, failed_of}
use Rattle.settle_commands.specs.Settling.{seen_file, IsSettledAs, SettlesText}
use Rattle.settle_commands.proofs.SettleVerdicts.{wrote_out}
use Rattle.settle_commands.proofs.settle_command.settle_inputs.Goals as goal

pub returns-in-Err : goal.returns-in-Err
returns-in-Err g c =
    inl (
      refl,
      subst (λ (file : List ℕ). SettlesText c.args.base file (Err (failed_of c.in-Err.failure))) c.deref.ensures.value
          c.in-Err.ensures (settle_names_of c.args.names.now),
    )

pub returns : goal.returns
returns g c =
    let file = c.args.inputs.file.items in
    let made = subst (λ (f : List ℕ). IsSettledAs c.args.base f (seen_file c.in-Ok.made)) c.deref.ensures.value c.in-Ok.ensures in
    wrote_out (settle_names_of c.args.names.now) c.args.base file (seen_file c.in-Ok.made) _ _ (seen_as told_of c.write_out.result) made
    (c.write_out.ensures file made.bytes)
