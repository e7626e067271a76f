-- What `clap` is told of the commands' forms, and the command that it finds. Contracts of private functions alone cite it.
use Rattle.std.specs.Prelude.{◌≡◌, Bool, true, false, ◌||◌, if◌then◌else◌, List, [], ◌∷◌, fold, Option, Some, None, codes, unwrap_or}
use Rattle.clap.specs.Walk.{Row, Rule, Text, first_of, all_of}
use Rattle.clap.specs.Simple.{App, Shape, app_of, new_app, new_rule, new_shape, with_rule, with_subcommand}
use Rattle.clap.specs.declared.builder.command.Command.{Command as Clap}
use Rattle.clap.specs.declared.builder.command.Command.TheViews.{out-Command as fields_of}
use Rattle.clap.specs.declared.builder.action.ArgAction.TheVariants.{Set, Append}
use Rattle.command_words.specs.Synopses.{Synopsis, words_under}
use Rattle.command_words.specs.Words.{Command, Usage, synopses, form_of}

-- A word that has to be there, known by its place.
abbrev pub word_rule : Text → Rule
word_rule name = record (new_rule name) { required = true; action = Some Set }

-- The command with one such word more.
abbrev pub with_word : App → Text → App
with_word app name = with_rule app (word_rule name)

-- Words that may be there, each known by its place behind the others.
abbrev pub words_rule : Text → Rule
words_rule name = record (new_rule name) { action = Some Append }

-- The command with such words behind the others.
abbrev pub with_words : App → Text → App
with_words app name = with_rule app (words_rule name)

-- A command has no argument that other commands share.
abbrev pub IsLocal : Clap → Type 0
IsLocal c = (fields_of c).has_globals ≡ false

-- A command has this form, and no argument that other commands share.
abbrev pub IsForm : App → Clap → Type 0
IsForm a c = (app_of c ≡ a) × IsLocal c

-- The names of the words that have to be there behind the name of a command.
abbrev pub word_names : Text → List Text
word_names command = words_under synopses command

-- The command with later words behind its words, each under the name RESERVE, where it takes them.
abbrev pub with_later : Bool → App → App
with_later later app = if later then with_words app (codes "RESERVE") else app

-- A command with its words.
abbrev pub form_app : Synopsis → App
form_app s = with_later (s.reserves || s.base) (fold with_word (new_app s.name) s.words)

-- The program with one command more.
abbrev pub with_form : App → Synopsis → App
with_form program s = with_subcommand program (form_app s).top

-- The program without help and version, and without its own name among the words.
abbrev pub program_shape : Shape
program_shape = record (new_shape (codes "e9tool")) {
  no_binary_name = true;
  disable_help_flag = true;
  disable_help_subcommand = true;
  disable_version_flag = true;
  subcommand_required = true;
}

-- The program with its commands.
abbrev pub program_app : App
program_app = fold with_form (record { top = program_shape; subs = [] }) synopses

-- One more word in front, where it is there.
abbrev pub with_found : Option Text → List Text → List Text
with_found None words = words
with_found (Some word) words = word ∷ words

-- The words that rows have under these names, and behind them any RESERVE.
abbrev pub words_found : List Text → List Row → List Text
words_found [] rows = unwrap_or (all_of (codes "RESERVE") rows) []
words_found (name ∷ names) rows = with_found (first_of name rows) (words_found names rows)

-- The command that was found, with the words behind its name.
abbrev pub command_found : Option (Text × List Row) → Command
command_found None = Usage
command_found (Some (name, rows)) = form_of (name ∷ words_found (word_names name) rows)
