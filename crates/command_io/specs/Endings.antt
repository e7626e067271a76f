-- Refusals that the code holds, and what comes out of what there is to tell. Theorems cite it.
use Rattle.std.specs.Prelude.{ℕ, ◌⊎◌, Option, Some, None}
use Rattle.pun_base.specs.Shown.{SinkState}
use Rattle.command_io.specs.Refusals as refusals
use Rattle.command_io.specs.Messages.{Message, message_text, message_status, ComesOut, IsSilent}
use Rattle.command_io.specs.declared.refusal.Refusal.{Refusal}
use Rattle.command_io.specs.declared.refusal.Refusal.TheVariants as refusal

-- A refusal that the code holds.
abbrev pub refusal_of : Refusal → refusals.Refusal
refusal_of (refusal.TooLong which) = refusals.TooLong which
refusal_of (refusal.BadList which error) = refusals.BadList which error
refusal_of (refusal.BadScript error) = refusals.BadScript error
refusal_of (refusal.BadReport error) = refusals.BadReport error
refusal_of (refusal.BadFile which error) = refusals.BadFile which error
refusal_of (refusal.BadStart error) = refusals.BadStart error
refusal_of (refusal.Meets error) = refusals.Meets error
refusal_of (refusal.Rewrite error) = refusals.Rewrite error
refusal_of (refusal.Undo error) = refusals.Undo error
refusal_of (refusal.Load error) = refusals.Load error
refusal_of (refusal.Settle error) = refusals.Settle error
refusal_of (refusal.Unsettle error) = refusals.Unsettle error

-- What is told came out; or memory ran out before, and nothing was printed.
abbrev pub Delivers : Option Message → SinkState → SinkState → ℕ → Type 0
Delivers None k l result = IsSilent k l result
Delivers (Some m) k l result =
    ComesOut (message_text m) (message_status m) k l result ⊎ IsSilent k l result
