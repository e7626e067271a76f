-- The texts that the code of `check` holds, in the order of its inputs. Contracts of private functions alone cite it.
use Rattle.std.specs.Prelude.{ℕ, List, [], ◌∷◌}
use Rattle.inspect_commands.specs.declared.check.CheckInputs.{CheckInputs}

-- FILE, OUT, STARTS and REPORT.
abbrev pub check_texts : CheckInputs → List (List ℕ)
check_texts x = x.file.items ∷ x.out.items ∷ x.starts.items ∷ x.report.items ∷ []
