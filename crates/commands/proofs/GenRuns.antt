-- What `gen` does is told by how it ends and what it prints.
use Rattle.std.proofs.Common.{◌≡◌, ℕ, List, Result, Ok, Err, IfSome, refl, subst}
use Rattle.pun_base.specs.Shown.{DeskState, SinkState}
use Rattle.command_words.specs.Words.{Command, Gen, command_of}
use Rattle.command_io.specs.Endings.{Delivers}
use Rattle.command_io.specs.Failing.{Refused, Unread, Unwritten, NoMemory, Failed, Answer, end_message}
use Rattle.inspect_commands.specs.GenAnswers.{GenTells, GenFinds}
use Rattle.commands.specs.Commands.{Does}
use Rattle.command_io.proofs.DeliveredTexts.{delivered}

-- what is told at an end is what was found
end_tells : (seed blocks : ℕ) (r : Result Answer Failed) → GenFinds seed blocks r → IfSome (end_message r) (GenTells seed blocks)
end_tells seed blocks (Ok a) f = f
end_tells seed blocks (Err (Refused x)) f = absurd f
end_tells seed blocks (Err (Unread name)) f = absurd f
end_tells seed blocks (Err (Unwritten name)) f = absurd f
end_tells seed blocks (Err NoMemory) f = tt

-- the desk is as it was, and what is printed and answered is what was found
pub gen_ran : (words : List (List ℕ)) (seed blocks : ℕ) (s : DeskState) (k l : SinkState) (r : Result Answer Failed) (status : ℕ)
    → Gen seed blocks ≡ command_of words → GenFinds seed blocks r → Delivers (end_message r) k l status → Does (command_of words) s s k l status
gen_ran words seed blocks s k l r status q f d =
    subst (λ (x : Command). Does x s s k l status) q (record {
      untouched = refl;
      told = delivered (GenTells seed blocks) (end_message r) k l status (end_tells seed blocks r f) d;
    })
