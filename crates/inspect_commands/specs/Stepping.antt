-- The texts that the code of `step` holds, in the order of its inputs. Contracts of private functions alone cite it.
use Rattle.std.specs.Prelude.{ℕ, List, [], ◌∷◌}
use Rattle.inspect_commands.specs.declared.step.StepInputs.{StepInputs}

-- FILE, STARTS and WORLD.
abbrev pub step_texts : StepInputs → List (List ℕ)
step_texts x = x.file.items ∷ x.starts.items ∷ x.world.items ∷ []
