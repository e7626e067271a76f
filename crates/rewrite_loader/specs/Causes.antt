-- The error of a rewriting that an error of laying becomes. Want of memory becomes the one error `Memory`, wherever it comes from. Theorems cite it.
use Rattle.loader_form.specs.declared.error.LoadError.{LoadError}
use Rattle.loader_form.specs.declared.error.LoadError.TheVariants as load
use Rattle.rewrite_core.specs.declared.rewrite.RewriteError.TheVariants as rewrite
use Rattle.rewrite_loader.specs.declared.error.LoaderError.{LoaderError}
use Rattle.rewrite_loader.specs.declared.error.LoaderError.TheVariants.{Rewrite, Load}

-- The error that an error of laying becomes: want of memory is the rewriting's, and each other
-- error stays what it is.
abbrev pub load_error : LoadError → LoaderError
load_error load.Memory = Rewrite rewrite.Memory
load_error error = Load error
