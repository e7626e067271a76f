use Rattle.std.proofs.Common.{ap, ◌∙◌}
use Rattle.std.specs.Option.{is_some}
use Rattle.image_check.specs.Parts.{cell_of}
use Rattle.thread_check.proofs.LandingJumps.{still_some}
use Rattle.thread_check.proofs.loaded.is_loaded.Goals as goal

pub returns : goal.returns
returns c = c.is_some.ensures ∙ still_some cell_of c.loaded_at.result ∙ ap is_some c.loaded_at.ensures
