use Rattle.std.proofs.Common.{ℕ, List, length, inl, refl, ◌∙◌, subst}
use Rattle.command_io.specs.Failing.{seen_as, told_of}
use Rattle.command_io.proofs.WholeCommands.{told_behind}
use Rattle.settle_commands.specs.UnsettleAnswers.{unsettled_text}
use Rattle.settle_commands.specs.Settling.{TellsCount}
use Rattle.settle_commands.proofs.unsettle_command.write_new.Goals as goal

pub returns-in-Ok : goal.returns-in-Ok
returns-in-Ok g c =
    told_behind (c.args.name.now, λ (b : List ℕ). b) c.args.bytes.items c.args.bytes.items (unsettled_text (length c.args.bytes.items), 0) _ _ (seen_as told_of c.told_length.result) refl c.in-Ok.ensures
    (subst (λ (n : ℕ). TellsCount n (seen_as told_of c.told_length.result)) (c.len-len.ensures ∙ c.args.bytes.ok.0) c.told_length.ensures)

pub returns-in-Err : goal.returns-in-Err
returns-in-Err g c = inl c.in-Err.ensures
