-- The names and the command that the code holds, as `Words` has them. Theorems cite it.
use Rattle.std.specs.Prelude.{map}
use Rattle.pun_base.specs.Ranges.{ends}
use Rattle.command_words.specs.Synopses as synopses
use Rattle.command_words.specs.declared.synopses.Synopsis.{Synopsis}
use Rattle.command_words.specs.Words as words
use Rattle.command_words.specs.declared.words.Names.{Names}
use Rattle.command_words.specs.declared.words.CheckNames.{CheckNames}
use Rattle.command_words.specs.declared.words.StepNames.{StepNames}
use Rattle.command_words.specs.declared.words.ThreadNames.{ThreadNames}
use Rattle.command_words.specs.declared.words.UnpatchNames.{UnpatchNames}
use Rattle.command_words.specs.declared.words.SettleNames.{SettleNames}
use Rattle.command_words.specs.declared.words.UnsettleNames.{UnsettleNames}
use Rattle.command_words.specs.declared.words.Command.{Command}
use Rattle.command_words.specs.declared.words.Command.TheVariants as command

-- How a command is asked for.
abbrev pub synopsis_of : Synopsis → synopses.Synopsis
synopsis_of s = record { name = s.name.now; words = map (λ w. w.now) s.words.now; reserves = s.reserves; base = s.base }

-- The names of `patch`, `load` and `threads` with a report.
abbrev pub names_of : Names → words.Names
names_of n = record { file = n.file.now; starts = n.starts.now; sites = n.sites.now; out = n.out.now; report = n.report.now }

-- Those of `check`.
abbrev pub check_names_of : CheckNames → words.CheckNames
check_names_of n = record { file = n.file.now; out = n.out.now; starts = n.starts.now; report = n.report.now }

-- Those of `step`.
abbrev pub step_names_of : StepNames → words.StepNames
step_names_of n = record { file = n.file.now; starts = n.starts.now; world = n.world.now }

-- Those of `threads` without a report.
abbrev pub thread_names_of : ThreadNames → words.ThreadNames
thread_names_of n = record { file = n.file.now; starts = n.starts.now; sites = n.sites.now; out = n.out.now }

-- Those of `unpatch`.
abbrev pub unpatch_names_of : UnpatchNames → words.UnpatchNames
unpatch_names_of n = record { patched = n.patched.now; report = n.report.now; new = n.new.now }

-- Those of `settle`.
abbrev pub settle_names_of : SettleNames → words.SettleNames
settle_names_of n = record { file = n.file.now; out = n.out.now }

-- Those of `unsettle`.
abbrev pub unsettle_names_of : UnsettleNames → words.UnsettleNames
unsettle_names_of n = record { file = n.file.now; new = n.new.now }

-- The command.
abbrev pub command_view : Command → words.Command
command_view command.Usage = words.Usage
command_view (command.Patch names action reserves) = words.Patch (names_of names) action (map ends reserves.items)
command_view (command.Check names) = words.Check (check_names_of names)
command_view (command.Step names count) = words.Step (step_names_of names) count
command_view (command.Gen seed blocks) = words.Gen seed blocks
command_view (command.Load names action reserves) = words.Load (names_of names) action (map ends reserves.items)
command_view (command.Threads names reserves) = words.Threads (thread_names_of names) (map ends reserves.items)
command_view (command.ThreadsReported names action reserves) = words.ThreadsReported (names_of names) action (map ends reserves.items)
command_view (command.ThreadsLoaded names action reserves) = words.ThreadsLoaded (names_of names) action (map ends reserves.items)
command_view (command.Unpatch names) = words.Unpatch (unpatch_names_of names)
command_view (command.Settle names base) = words.Settle (settle_names_of names) base
command_view (command.Unsettle names) = words.Unsettle (unsettle_names_of names)
