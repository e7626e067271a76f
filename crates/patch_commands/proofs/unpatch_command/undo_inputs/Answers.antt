use Rattle.std.proofs.Common.{ℕ, List, [], ◌∷◌, Err, inl, refl, subst}
use Rattle.command_words.specs.Named.{unpatch_names_of}
use Rattle.command_io.specs.Failing.{seen_as, told_of, failed_of}
use Rattle.patch_commands.specs.Unpatching.{unpatch_texts, AreUndone, Restores}
use Rattle.patch_commands.proofs.UnpatchVerdicts.{wrote_new}
use Rattle.patch_commands.proofs.unpatch_command.undo_inputs.Goals as goal

pub returns-in-Err : goal.returns-in-Err
returns-in-Err g c =
    inl (
      refl,
      subst (λ (texts : List (List ℕ)). Restores texts (Err (failed_of c.in-Err.failure))) (λ i. c.deref.ensures.value i ∷ c.deref-2.ensures.value i ∷ [])
          c.in-Err.ensures (unpatch_names_of c.args.names.now),
    )

pub returns : goal.returns
returns g c =
    wrote_new (unpatch_names_of c.args.names.now) (unpatch_texts c.args.inputs) _ _ _ (seen_as told_of c.write_new.result)
    (subst (λ (texts : List (List ℕ)). AreUndone texts c.in-Ok.bytes.items) (λ i. c.deref.ensures.value i ∷ c.deref-2.ensures.value i ∷ []) c.in-Ok.ensures)
    c.write_new.ensures
