use Rattle.std.proofs.Common.{ℕ, List, [], ◌∷◌, Err, inl, refl, subst}
use Rattle.command_words.specs.Named.{unsettle_names_of}
use Rattle.command_io.specs.Failing.{seen_as, told_of, failed_of}
use Rattle.settle_commands.specs.Settling.{IsGivenBack, UnsettlesText}
use Rattle.settle_commands.proofs.UnsettleVerdicts.{wrote_new}
use Rattle.settle_commands.proofs.unsettle_command.unsettle_inputs.Goals as goal

pub returns-in-Err : goal.returns-in-Err
returns-in-Err g c =
    inl (
      refl,
      subst (λ (out : List ℕ). UnsettlesText out (Err (failed_of c.in-Err.failure))) c.deref.ensures.value
          c.in-Err.ensures (unsettle_names_of c.args.names.now),
    )

pub returns : goal.returns
returns g c =
    wrote_new (unsettle_names_of c.args.names.now) c.args.inputs.file.items c.in-Ok.bytes.items _ _ (seen_as told_of c.write_new.result)
    (subst (λ (out : List ℕ). IsGivenBack out c.in-Ok.bytes.items) c.deref.ensures.value c.in-Ok.ensures)
    c.write_new.ensures
