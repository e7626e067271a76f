-- The text of a run's tally, which `step` prints. Theorems cite it.
use Rattle.std.specs.Prelude.{ℕ, ◌+◌, Bool, if◌then◌else◌, List, [], ◌∷◌, ◌++◌, length, codes, Option, Some, None}
use Rattle.std.specs.Fmt.{decimal}
use Rattle.list_text.specs.ActionWords.{register_names}
use Rattle.cpu_alu.specs.FlagWord.{packed}
use Rattle.cpu_state.specs.declared.state.Core.{Core}
use Rattle.cpu_step.specs.declared.stop.Stop.{Stop}
use Rattle.cpu_step.specs.declared.stop.Stop.TheVariants as stop
use Rattle.image_step.specs.Spelling.{hex16, name_at}
use Rattle.image_step.specs.declared.delivery.Due.{Due}
use Rattle.image_step.specs.declared.delivery.Halted.{Halted}
use Rattle.image_step.specs.declared.delivery.Halted.TheVariants.{NoStep, NoFit}
use Rattle.inspect_commands.specs.StepTallies.{StepTally}

-- The name of a reason to stop.
abbrev pub stop_name : Stop → List ℕ
stop_name (stop.NoByte a) = codes "NoByte"
stop_name (stop.UnknownInsn a) = codes "UnknownInsn"
stop_name (stop.Ending a) = codes "Ending"
stop_name (stop.WorldEmpty a) = codes "WorldEmpty"
stop_name (stop.WorldDiffers a asked) = codes "WorldDiffers"

-- The address that it tells.
abbrev pub stop_address : Stop → ℕ
stop_address (stop.NoByte a) = a
stop_address (stop.UnknownInsn a) = a
stop_address (stop.Ending a) = a
stop_address (stop.WorldEmpty a) = a
stop_address (stop.WorldDiffers a asked) = a

-- A line of a name and a decimal number.
abbrev pub count_line : List ℕ → ℕ → List ℕ
count_line word n = word ++ (32 ∷ (decimal n ++ (10 ∷ [])))

-- A line of a name and a number of 64 bits.
abbrev pub value_line : List ℕ → ℕ → List ℕ
value_line word n = word ++ (32 ∷ (hex16 n ++ (10 ∷ [])))

-- The name of what a run goes no further for.
abbrev pub halted_name : Halted → List ℕ
halted_name (NoStep s) = stop_name s
halted_name (NoFit e) = codes "NoFit"

-- The address that it tells.
abbrev pub halted_address : Halted → ℕ
halted_address (NoStep s) = stop_address s
halted_address (NoFit e) = e.addr

-- The line of the reason for which a run goes no further, or of none.
abbrev pub halted_line : Option Halted → List ℕ
halted_line None = codes "stop none\n"
halted_line (Some h) = codes "stop " ++ value_line (halted_name h) (halted_address h)

-- How many deliveries were made, of a script that has some.
abbrev pub deliveries_line : List Due → ℕ → List ℕ
deliveries_line [] made = []
deliveries_line (d ∷ ds) made = count_line (codes "deliveries") made

-- Whether the run is quiet.
abbrev pub quiet_line : Bool → List ℕ
quiet_line quiet = if quiet then codes "quiet yes\n" else codes "quiet no\n"

-- The name of the register at a place.
unfoldable pub register_name : ℕ → List ℕ
register_name place = name_at register_names place

-- A line a register, under its name, from a place among the registers on.
abbrev pub register_lines : ℕ → List ℕ → List ℕ
register_lines place [] = []
register_lines place (value ∷ values) = value_line (register_name place) value ++ register_lines (place + 1) values

-- The sixteen registers, the flags word, and the bases of fs and gs.
abbrev pub core_lines : Core → List ℕ
core_lines c =
    register_lines 0 c.regs ++ (value_line (codes "flags") (packed c.flags) ++ (value_line (codes "fs") c.fs
    ++ value_line (codes "gs") c.gs))

-- The lines that `step` prints, of a script with these deliveries.
abbrev pub step_text : List Due → StepTally → List ℕ
step_text dues t =
    count_line (codes "steps") t.steps ++ (deliveries_line dues t.made ++ (halted_line t.halted ++ (quiet_line t.quiet
    ++ (count_line (codes "outside") t.outside ++ (value_line (codes "rip") t.last.rip ++ (core_lines t.last.core
    ++ count_line (codes "world") (length t.last.world)))))))

-- 0 where all steps were made, 8 where there were fewer.
abbrev pub step_status : Option Halted → ℕ
step_status None = 0
step_status (Some h) = 8
