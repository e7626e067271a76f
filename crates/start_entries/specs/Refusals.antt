-- The first start that breaks the rule. Theorems cite it.
use Rattle.std.specs.Prelude.{◌≡◌, ℕ, if◌then◌else◌, List, [], ◌∷◌, Option, Some, None}
use Rattle.elf_read.specs.Code.{is_exec}
use Rattle.start_entries.specs.declared.refusal.StartError.{StartError}
use Rattle.start_entries.specs.declared.refusal.StartError.TheVariants.{NotExecutable, Memory}

-- How one start is refused: where no byte that can be executed stands there.
unfoldable pub refusal_of : List ℕ → ℕ → Option StartError
refusal_of file a = if is_exec file a then None else Some (NotExecutable a)

-- The first of two refusals, if there is one, or else the second.
abbrev pub or_later : Option StartError → Option StartError → Option StartError
or_later None later = later
or_later (Some e) later = Some e

-- How starts are refused: as the first one that is refused.
abbrev pub first_refusal : List ℕ → List ℕ → Option StartError
first_refusal file [] = None
first_refusal file (a ∷ after) = or_later (refusal_of file a) (first_refusal file after)

-- The answer is the first refusal of the starts; want of memory says nothing of them.
abbrev pub Refused : List ℕ → List ℕ → StartError → Type 0
Refused file starts Memory = Unit {0}
Refused file starts e = first_refusal file starts ≡ Some e

-- The number of the rule that a refused start breaks, from 1 on.
abbrev pub number_of : StartError → Option ℕ
number_of (NotExecutable a) = Some 1
number_of Memory = None
