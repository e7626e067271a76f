-- What the words of the command line ask for. Theorems cite it.
use Rattle.std.specs.Prelude.{ℕ, ◌^◌, ◌==◌, Bool, true, false, not, ◌&&◌, ◌||◌, nat_le, if◌then◌else◌, List, [], ◌∷◌, length, take, drop, map, Option, Some, None, codes}
use Rattle.std.specs.List.{list_all}
use Rattle.std.specs.Str.{bytes_eq}
use Rattle.pun_base.specs.declared.action.Action.{Action}
use Rattle.pun_base.specs.declared.action.Action.TheVariants.{Cover, Count, Ring, When}
use Rattle.list_text.specs.Digits.{below, number_in}
use Rattle.list_text.specs.Words.{action_of, range_of, count_of}
use Rattle.command_words.specs.Synopses.{Synopsis, usage_of}

-- The names that `patch`, `load` and `threads` with a report are given, as bytes of UTF-8.
pub record Names : Type 0 where
  pub file : List ℕ
  pub starts : List ℕ
  pub sites : List ℕ
  pub out : List ℕ
  pub report : List ℕ

-- The names that `check` is given.
pub record CheckNames : Type 0 where
  pub file : List ℕ
  pub out : List ℕ
  pub starts : List ℕ
  pub report : List ℕ

-- The names that `step` is given.
pub record StepNames : Type 0 where
  pub file : List ℕ
  pub starts : List ℕ
  pub world : List ℕ

-- The names that `threads` is given without a report.
pub record ThreadNames : Type 0 where
  pub file : List ℕ
  pub starts : List ℕ
  pub sites : List ℕ
  pub out : List ℕ

-- The names that `unpatch` is given.
pub record UnpatchNames : Type 0 where
  pub patched : List ℕ
  pub report : List ℕ
  pub new : List ℕ

-- The names that `settle` is given.
pub record SettleNames : Type 0 where
  pub file : List ℕ
  pub out : List ℕ

-- The names that `unsettle` is given.
pub record UnsettleNames : Type 0 where
  pub file : List ℕ
  pub new : List ℕ

-- What the words of the command line ask for.
pub data Command : Type 0 where
  -- how the commands are used: the words are of no command's form
  Usage : Command
  -- patch with this action, and keep these ranges free
  Patch : (names : Names) (action : Action) (reserves : List (ℕ × ℕ)) → Command
  Check : (names : CheckNames) → Command
  -- make at most `count` steps
  Step : (names : StepNames) (count : ℕ) → Command
  -- patch the guest of a seed, with so many blocks, and run both files
  Gen : (seed blocks : ℕ) → Command
  -- as a patch, whose file maps its new code itself
  Load : (names : Names) (action : Action) (reserves : List (ℕ × ℕ)) → Command
  -- patch for a guest of several threads, with counters
  Threads : (names : ThreadNames) (reserves : List (ℕ × ℕ)) → Command
  -- as that, with this action and a report
  ThreadsReported : (names : Names) (action : Action) (reserves : List (ℕ × ℕ)) → Command
  -- as that, whose file maps its new code itself
  ThreadsLoaded : (names : Names) (action : Action) (reserves : List (ℕ × ℕ)) → Command
  -- give back the original of a patched file
  Unpatch : (names : UnpatchNames) → Command
  -- move a position independent program to this base, or to the highest
  Settle : (names : SettleNames) (base : Option ℕ) → Command
  -- give back the program that was moved
  Unsettle : (names : UnsettleNames) → Command

-- A word that isn't empty and doesn't begin with `-` (45).
abbrev pub is_plain : List ℕ → Bool
is_plain [] = false
is_plain (c ∷ cs) = not (c == 45)

-- Two names differ.
abbrev pub differ : List ℕ → List ℕ → Bool
differ a b = not (bytes_eq a b)

-- OUT and REPORT differ from each other and from the inputs.
abbrev pub are_apart : Names → Bool
are_apart n =
    differ n.out n.report
    && differ n.out n.file && differ n.out n.starts && differ n.out n.sites
    && differ n.report n.file && differ n.report n.starts && differ n.report n.sites

-- One more range in front, where there is one and the later ones are there.
abbrev pub joined : Option (ℕ × ℕ) → Option (List (ℕ × ℕ)) → Option (List (ℕ × ℕ))
joined None later = None
joined (Some range) None = None
joined (Some range) (Some later) = Some (range ∷ later)

-- The ranges that words tell, where each of them tells one.
abbrev pub ranges_of : List (List ℕ) → Option (List (ℕ × ℕ))
ranges_of [] = Some []
ranges_of (word ∷ words) = joined (range_of word) (ranges_of words)

-- The most ranges that are kept free.
abbrev pub most_reserves : ℕ
most_reserves = 256

-- The ranges of at most 256 words.
abbrev pub reserves_of : List (List ℕ) → Option (List (ℕ × ℕ))
reserves_of words = if nat_le (length words) most_reserves then ranges_of words else None

-- A patch with the action, these names and the ranges, where they are of the form.
abbrev pub patch_with : Names → Option Action → Option (List (ℕ × ℕ)) → Command
patch_with n None reserves = Usage
patch_with n (Some action) None = Usage
patch_with n (Some action) (Some reserves) = if are_apart n then Patch n action reserves else Usage

-- The words behind `patch`: FILE STARTS SITES ACTION OUT REPORT, and then any RESERVE.
abbrev pub patch_of : List (List ℕ) → Command
patch_of (file ∷ starts ∷ sites ∷ action ∷ out ∷ report ∷ reserves) =
    patch_with (record { file = file; starts = starts; sites = sites; out = out; report = report }) (action_of action)
    (reserves_of reserves)
patch_of other = Usage

-- The words behind `check`: FILE OUT STARTS REPORT.
abbrev pub check_of : List (List ℕ) → Command
check_of (file ∷ out ∷ starts ∷ report ∷ []) = Check (record { file = file; out = out; starts = starts; report = report })
check_of other = Usage

-- The most steps.
abbrev pub most_steps : ℕ
most_steps = 10000000

-- A run with these names and this number of steps, where there is one.
abbrev pub step_with : StepNames → Option ℕ → Command
step_with n None = Usage
step_with n (Some count) = Step n count

-- The words behind `step`: FILE STARTS WORLD N, where N is at most 10,000,000.
abbrev pub step_of : List (List ℕ) → Command
step_of (file ∷ starts ∷ world ∷ count ∷ []) =
    step_with (record { file = file; starts = starts; world = world }) (count_of most_steps count)
step_of other = Usage

-- The largest seed: 2^64 - 1.
abbrev pub most_seed : ℕ
most_seed = 0xffffffffffffffff

-- The most blocks.
abbrev pub most_blocks : ℕ
most_blocks = 20000

-- A number that isn't 0.
abbrev pub nonzero : Option ℕ → Option ℕ
nonzero None = None
nonzero (Some n) = if n == 0 then None else Some n

-- A number of blocks: at least 1, and at most 20,000.
abbrev pub blocks_of : List ℕ → Option ℕ
blocks_of word = nonzero (count_of most_blocks word)

-- The guest of a seed and a number of blocks, where there are both.
abbrev pub gen_with : Option ℕ → Option ℕ → Command
gen_with None blocks = Usage
gen_with (Some seed) None = Usage
gen_with (Some seed) (Some blocks) = Gen seed blocks

-- The words behind `gen`: SEED BLOCKS, where SEED is at most 2^64 - 1.
abbrev pub gen_of : List (List ℕ) → Command
gen_of (seed ∷ blocks ∷ []) = gen_with (count_of most_seed seed) (blocks_of blocks)
gen_of other = Usage

-- A patch as a load.
abbrev pub load_with : Command → Command
load_with (Patch names action reserves) = Load names action reserves
load_with other = Usage

-- The words behind `load`: those of a patch.
abbrev pub load_of : List (List ℕ) → Command
load_of words = load_with (patch_of words)

-- OUT differs from the inputs.
abbrev pub has_own_out : ThreadNames → Bool
has_own_out n = differ n.out n.file && differ n.out n.starts && differ n.out n.sites

-- A patch for threads with these names and ranges, where they are of the form.
abbrev pub threads_with : ThreadNames → Option (List (ℕ × ℕ)) → Command
threads_with n None = Usage
threads_with n (Some reserves) = if has_own_out n then Threads n reserves else Usage

-- A patch for threads that counts, with a report, with these names and ranges, where they are of the form.
abbrev pub reported_with : Names → Option (List (ℕ × ℕ)) → Command
reported_with n None = Usage
reported_with n (Some reserves) = if are_apart n then ThreadsReported n Count reserves else Usage

-- A name that is plain.
abbrev pub plain_name : List ℕ → Option (List ℕ)
plain_name name = if is_plain name then Some name else None

-- The name of a report that a word asks for: the word is `report:` with a plain name after it.
abbrev pub report_of : List ℕ → Option (List ℕ)
report_of word = if bytes_eq (take 7 word) (codes "report:") then plain_name (drop 7 word) else None

-- A patch for threads, by the report that the first of the words after OUT asks for: the words after that are RESERVEs, and without
-- a report all of them are.
abbrev pub threads_by : ThreadNames → Option (List ℕ) → List ℕ → List (List ℕ) → Command
threads_by n None word words = threads_with n (reserves_of (word ∷ words))
threads_by n (Some report) word words =
    reported_with (record { file = n.file; starts = n.starts; sites = n.sites; out = n.out; report = report }) (reserves_of words)

-- A patch for threads that counts, with these words after OUT.
abbrev pub threads_after : ThreadNames → List (List ℕ) → Command
threads_after n [] = threads_with n (reserves_of [])
threads_after n (word ∷ words) = threads_by n (report_of word) word words

-- A patch for threads with a report as one with this action. Without a report there is none.
abbrev pub acting_with : Action → Command → Command
acting_with a (ThreadsReported names action reserves) = ThreadsReported names a reserves
acting_with a other = Usage

-- A word of `threads` asks for this action: it covers, has a condition, or keeps a ring where the low byte or the low word of the number of
-- events so far is the number of a slot. Without such a word the events count at each execution.
abbrev pub is_asked : Action → Bool
is_asked Cover = true
is_asked Count = false
is_asked (Ring len) = len == 256 || len == 65536
is_asked (When b list) = true

-- The action, where a word of `threads` asks for it.
abbrev pub asked : Option Action → Option Action
asked None = None
asked (Some action) = if is_asked action then Some action else None

-- The action that a word asks for: the word is `action:` with the action after it, spelled as `patch` is told it.
abbrev pub action_asked : List ℕ → Option Action
action_asked word = if bytes_eq (take 7 word) (codes "action:") then asked (action_of (drop 7 word)) else None

-- A patch for threads, by the action that the first of these words after OUT asks for: where it asks for none, it is one of the words after
-- that.
abbrev pub threads_acting : ThreadNames → Option Action → List ℕ → List (List ℕ) → Command
threads_acting n None word words = threads_after n (word ∷ words)
threads_acting n (Some action) word words = acting_with action (threads_after n words)

-- A patch for threads with these words after OUT, or after the form.
abbrev pub threads_by_action : ThreadNames → List (List ℕ) → Command
threads_by_action n [] = threads_after n []
threads_by_action n (word ∷ words) = threads_acting n (action_asked word) word words

-- A patch for threads with a report as one in the loader form. Without a report there is none.
abbrev pub loaded_with : Command → Command
loaded_with (ThreadsReported names action reserves) = ThreadsLoaded names action reserves
loaded_with other = Usage

-- A word asks for the loader form.
abbrev pub is_loader_form : List ℕ → Bool
is_loader_form word = bytes_eq word (codes "form:loader")

-- A patch for threads, by the form that the first of the words after OUT asks for: where it asks for none, it is one of the words after that.
abbrev pub threads_in_form : ThreadNames → List (List ℕ) → Command
threads_in_form n [] = threads_by_action n []
threads_in_form n (word ∷ words) =
    if is_loader_form word then loaded_with (threads_by_action n words) else threads_by_action n (word ∷ words)

-- The words behind `threads`: FILE STARTS SITES OUT, then the form that is asked for or none, then the action that is asked for or none, then
-- the report that is asked for or none, and then any RESERVE.
abbrev pub threads_of : List (List ℕ) → Command
threads_of (file ∷ starts ∷ sites ∷ out ∷ words) = threads_in_form (record { file = file; starts = starts; sites = sites; out = out }) words
threads_of other = Usage

-- NEW differs from the inputs.
abbrev pub is_apart : UnpatchNames → Bool
is_apart n = differ n.new n.patched && differ n.new n.report

-- An undoing with these names, where they are of the form.
abbrev pub unpatch_with : UnpatchNames → Command
unpatch_with n = if is_apart n then Unpatch n else Usage

-- The words behind `unpatch`: PATCHED REPORT NEW.
abbrev pub unpatch_of : List (List ℕ) → Command
unpatch_of (patched ∷ report ∷ new ∷ []) = unpatch_with (record { patched = patched; report = report; new = new })
unpatch_of other = Usage

-- A number below 2^32, by its hexadecimal digits.
abbrev pub hex_word : List ℕ → Option ℕ
hex_word [] = None
hex_word (c ∷ cs) = below (2 ^ 32) (number_in 16 (c ∷ cs))

-- The base that a word asks for: the word is `base:` with such a number after it.
abbrev pub base_of : List ℕ → Option ℕ
base_of word = if bytes_eq (take 5 word) (codes "base:") then hex_word (drop 5 word) else None

-- Settling with these names, where OUT differs from FILE.
abbrev pub settle_with : SettleNames → Option ℕ → Command
settle_with n base = if differ n.out n.file then Settle n base else Usage

-- Settling at a base that is told, where there is one.
abbrev pub settle_at : SettleNames → Option ℕ → Command
settle_at n None = Usage
settle_at n (Some base) = settle_with n (Some base)

-- The words behind OUT: none, or the base.
abbrev pub settle_after : SettleNames → List (List ℕ) → Command
settle_after n [] = settle_with n None
settle_after n (word ∷ []) = settle_at n (base_of word)
settle_after n other = Usage

-- The words behind `settle`: FILE OUT, and then the base that is asked for or none.
abbrev pub settle_of : List (List ℕ) → Command
settle_of (file ∷ out ∷ words) = settle_after (record { file = file; out = out }) words
settle_of other = Usage

-- The program again with these names, where NEW differs from FILE.
abbrev pub unsettle_with : UnsettleNames → Command
unsettle_with n = if differ n.new n.file then Unsettle n else Usage

-- The words behind `unsettle`: FILE NEW.
abbrev pub unsettle_of : List (List ℕ) → Command
unsettle_of (file ∷ new ∷ []) = unsettle_with (record { file = file; new = new })
unsettle_of other = Usage

-- A row of the table of commands: how a command is asked for, and the command that the words behind its name are of.
abbrev pub CommandRow : Type 0
CommandRow = Synopsis × (List (List ℕ) → Command)

-- The words of `patch` and `load`.
abbrev pub patch_words : List (List ℕ)
patch_words = codes "FILE" ∷ codes "STARTS" ∷ codes "SITES" ∷ codes "ACTION" ∷ codes "OUT" ∷ codes "REPORT" ∷ []

-- The commands.
abbrev pub commands : List CommandRow
commands =
    (record { name = codes "patch"; words = patch_words; reserves = true; base = false }, patch_of)
    ∷ (record { name = codes "check"; words = codes "FILE" ∷ codes "OUT" ∷ codes "STARTS" ∷ codes "REPORT" ∷ []; reserves = false; base = false }, check_of)
    ∷ (record { name = codes "step"; words = codes "FILE" ∷ codes "STARTS" ∷ codes "WORLD" ∷ codes "N" ∷ []; reserves = false; base = false }, step_of)
    ∷ (record { name = codes "gen"; words = codes "SEED" ∷ codes "BLOCKS" ∷ []; reserves = false; base = false }, gen_of)
    ∷ (record { name = codes "load"; words = patch_words; reserves = true; base = false }, load_of)
    ∷ (record { name = codes "threads"; words = codes "FILE" ∷ codes "STARTS" ∷ codes "SITES" ∷ codes "OUT" ∷ []; reserves = true; base = false }, threads_of)
    ∷ (record { name = codes "unpatch"; words = codes "PATCHED" ∷ codes "REPORT" ∷ codes "NEW" ∷ []; reserves = false; base = false }, unpatch_of)
    ∷ (record { name = codes "settle"; words = codes "FILE" ∷ codes "OUT" ∷ []; reserves = false; base = true }, settle_of)
    ∷ (record { name = codes "unsettle"; words = codes "FILE" ∷ codes "NEW" ∷ []; reserves = false; base = false }, unsettle_of) ∷ []

-- How the commands are asked for.
abbrev pub synopses : List Synopsis
synopses = map (λ c. c.0) commands

-- What is printed where the words are of no command's form.
unfoldable pub usage_text : List ℕ
usage_text = usage_of (codes "usage: ") synopses

-- The command of the first of these names that the word is.
abbrev pub under_name : List CommandRow → List ℕ → List (List ℕ) → Command
under_name [] word words = Usage
under_name (c ∷ cs) word words = if bytes_eq word c.0.name then c.1 words else under_name cs word words

-- The command that the words behind the program's name are of, where each of them is plain.
abbrev pub form_of : List (List ℕ) → Command
form_of [] = Usage
form_of (word ∷ words) = under_name commands word words

-- The command that the words are of. They begin with the program's name, and no other word is empty or begins with `-`.
abbrev pub command_of : List (List ℕ) → Command
command_of [] = Usage
command_of (program ∷ words) = if list_all is_plain words then form_of words else Usage
