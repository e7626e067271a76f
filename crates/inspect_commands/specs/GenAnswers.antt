-- What `gen` answers. Theorems cite it. In all of it s and t are what the desk shows before and after, k and l what the sink shows.
use Rattle.std.specs.Prelude.{◌≡◌, ℕ, List, Result, Ok, Err}
use Rattle.pun_base.specs.Shown.{DeskState, SinkState}
use Rattle.command_io.specs.Summary.{done_status}
use Rattle.command_io.specs.Messages.{Message, Answer, TellsOne}
use Rattle.command_io.specs.Failing as failing
use Rattle.guest_findings.specs.Findings.{Findings, AreFindings}
use Rattle.inspect_commands.specs.GenText.{gen_text}

-- The ten lines of what is found, and the status: 1 exactly where a site is left.
pub record TellsFindings (seed blocks : ℕ) (text : List ℕ) (status : ℕ) : Type 0 where
  pub findings : Findings
  pub are : AreFindings seed blocks findings
  pub told : text ≡ gen_text seed blocks findings
  pub answered : status ≡ done_status findings.rows

-- Nothing else is told.
abbrev pub GenTells : ℕ → ℕ → Message → Type 0
GenTells seed blocks (Answer text status) = TellsFindings seed blocks text status
GenTells seed blocks other = ⊥

-- What `gen` does, with this seed and this number of blocks: what the desk shows is as before.
pub record Generates (seed blocks : ℕ) (s t : DeskState) (k l : SinkState) (status : ℕ) : Type 0 where
  pub untouched : t ≡ s
  pub told : TellsOne (GenTells seed blocks) k l status

-- What is found, or memory ran out.
abbrev pub GenFinds : ℕ → ℕ → Result failing.Answer failing.Failed → Type 0
GenFinds seed blocks (Ok a) = TellsFindings seed blocks a.0 a.1
GenFinds seed blocks (Err failing.NoMemory) = Unit {0}
GenFinds seed blocks (Err other) = ⊥
