-- The numbers of the refusals of `lay`. Theorems cite it.
use Rattle.std.specs.Prelude.{ℕ, Option, Some, None}
use Rattle.loader_form.specs.declared.error.LoadError.{LoadError}
use Rattle.loader_form.specs.declared.error.LoadError.TheVariants as load

-- The number of a refusal, from 1 on.
abbrev pub number_of : LoadError → Option ℕ
number_of (load.TooManyRuns n) = Some 1
number_of (load.NoLoader n) = Some 2
number_of load.Memory = None
