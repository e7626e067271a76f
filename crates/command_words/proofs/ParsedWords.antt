-- What `clap` makes of plain words, for the form that it is told.
use Rattle.std.proofs.Common.{◌≡◌, ◌⊎◌, inl, inr, Bool, true, false, cond, ◌||◌, true≢false, is_some, map, option_map, List, [], ◌∷◌, ◌++◌, fold, Some, None, Decides, codes, refl, sym, ap, ap₂, ◌∙◌, subst, append-nil, append_assoc}
use Rattle.std.specs.List.{list_all}
use Rattle.std.specs.Str.{bytes_eq}
use Rattle.std.proofs.lemmas.Slice.Eq.{bytes_eq-Decides}
use Rattle.std.specs.Prelude.{if◌then◌else◌, find}
use Rattle.clap.specs.Walk.{Names, Row, Text, Walk, answers_to, idle, nothing_held, subcommand_met, walk, walk_from, walked}
use Rattle.clap.specs.Simple.{Shape, built, entered, names_of, new_shape, subcommand_of}
use Rattle.clap.specs.Kinds.{IsAmong, Kinds, or_else}
use Rattle.clap.specs.Words.{HasMatchesOf, subcommand_rows_of}
use Rattle.clap.specs.declared.parser.matches.ArgMatches.{ArgMatches}
use Rattle.clap.specs.declared.error.kind.ErrorKind.{ErrorKind}
use Rattle.clap.specs.Faults.{defaults_fault, entered_fault, fault_of, turn_fault, walk_fault}
use Rattle.clap.specs.declared.error.kind.ErrorKind.TheVariants as kind
use Rattle.command_words.specs.Words.{Command, Usage, CommandRow, patch_words, commands, under_name, is_plain, patch_of, load_with, load_of, form_of}
use Rattle.command_words.specs.ClapForm.{program_app, command_found, word_names, words_found}
use Rattle.command_words.proofs.CommandLevels.{level, level_end, plain_turn, behind, head, tail, refused}
use Rattle.command_words.proofs.CommandReading.{Tells, TakesRanges, TakesWords, words_read}

-- the names of the commands
abbrev command_names : List Text
command_names = map (λ (c : CommandRow). c.0.name) commands

-- ---- the words of each command

-- the shape of a command as it is built
abbrev named_shape : Text → List Shape → Shape
named_shape name [] = new_shape []
named_shape name (s ∷ ss) = if bytes_eq s.name name then s else named_shape name ss

abbrev shape_of_name : Text → Shape
shape_of_name name = named_shape name (built program_app).subs

-- the command of another name with the words of `patch`
abbrev patch_like : Text → Shape
patch_like name = record (shape_of_name (codes "patch")) { name = name }

-- the words of a command from the first on
abbrev begin : Shape → List Text → Kinds × List Row
begin s words = level s (walk_from nothing_held) words

-- what a command of this name and shape takes
abbrev TakesAll : Bool → Shape → Text → Type 0
TakesAll reserves s name = TakesWords reserves s (under_name commands name) (word_names name) nothing_held 1 [] (word_names name)

-- any ranges behind six words
six_ranges : (name f s t a o r : Text)
    → TakesRanges (patch_like name) patch_words (behind (behind (behind (behind (behind (behind nothing_held (codes "FILE") f) (codes "STARTS") s) (codes "SITES") t) (codes "ACTION") a) (codes "OUT") o) (codes "REPORT") r) 7 (f ∷ s ∷ t ∷ a ∷ o ∷ r ∷ [])
unfolding walk_fault defaults_fault
six_ranges name f s t a o r = record { none = (refl, refl); first = (refl, λ x. refl); one = λ x. (refl, refl, λ w. refl); more = λ v vs x. (refl, refl, λ w. refl); found = λ x vs. refl }

-- six words and any ranges, where fewer words ask for nothing
six_words : (name : Text) (meant : List Text → Command) → ((ws : List Text) → patch_of ws ≡ Usage → meant ws ≡ Usage)
    → TakesWords true (patch_like name) meant patch_words nothing_held 1 [] patch_words
unfolding walk_fault defaults_fault
six_words name meant u = (refl, refl, u _ refl, λ f. (refl, (refl, refl, u _ refl, λ s. (refl, (refl, refl, u _ refl, λ t. (refl, (refl, refl, u _ refl, λ a. (refl, (refl, refl, u _ refl, λ o. (refl, (refl, refl, u _ refl, λ r. (refl, six_ranges name f s t a o r))))))))))))

patch_takes : TakesAll true (patch_like (codes "patch")) (codes "patch")
patch_takes = six_words (codes "patch") patch_of (λ ws e. e)

load_takes : TakesAll true (patch_like (codes "load")) (codes "load")
load_takes = six_words (codes "load") load_of (λ ws e. ap load_with e)

-- any ranges behind four words
four_ranges : (f s t o : Text)
    → TakesRanges (shape_of_name (codes "threads")) (word_names (codes "threads")) (behind (behind (behind (behind nothing_held (codes "FILE") f) (codes "STARTS") s) (codes "SITES") t) (codes "OUT") o) 5 (f ∷ s ∷ t ∷ o ∷ [])
unfolding walk_fault defaults_fault
four_ranges f s t o = record { none = (refl, refl); first = (refl, λ x. refl); one = λ x. (refl, refl, λ w. refl); more = λ v vs x. (refl, refl, λ w. refl); found = λ x vs. refl }

threads_takes : TakesAll true (shape_of_name (codes "threads")) (codes "threads")
unfolding walk_fault defaults_fault
threads_takes = (refl, refl, refl, λ f. (refl, (refl, refl, refl, λ s. (refl, (refl, refl, refl, λ t. (refl, (refl, refl, refl, λ o. (refl, four_ranges f s t o))))))))

check_takes : TakesAll false (shape_of_name (codes "check")) (codes "check")
unfolding walk_fault defaults_fault
check_takes = (refl, refl, refl, λ f. (refl, (refl, refl, refl, λ o. (refl, (refl, refl, refl, λ s. (refl, (refl, refl, refl, λ r. (refl, (refl, refl, refl, λ x rest. refl)))))))))

step_takes : TakesAll false (shape_of_name (codes "step")) (codes "step")
unfolding walk_fault defaults_fault
step_takes = (refl, refl, refl, λ f. (refl, (refl, refl, refl, λ s. (refl, (refl, refl, refl, λ w. (refl, (refl, refl, refl, λ n. (refl, (refl, refl, refl, λ x rest. refl)))))))))

gen_takes : TakesAll false (shape_of_name (codes "gen")) (codes "gen")
unfolding walk_fault defaults_fault
gen_takes = (refl, refl, refl, λ s. (refl, (refl, refl, refl, λ b. (refl, (refl, refl, refl, λ x rest. refl)))))

unpatch_takes : TakesAll false (shape_of_name (codes "unpatch")) (codes "unpatch")
unfolding walk_fault defaults_fault
unpatch_takes = (refl, refl, refl, λ p. (refl, (refl, refl, refl, λ r. (refl, (refl, refl, refl, λ n. (refl, (refl, refl, refl, λ x rest. refl)))))))

-- any words behind two words
two_ranges : (f o : Text)
    → TakesRanges (shape_of_name (codes "settle")) (word_names (codes "settle")) (behind (behind nothing_held (codes "FILE") f) (codes "OUT") o) 3 (f ∷ o ∷ [])
unfolding walk_fault defaults_fault
two_ranges f o = record { none = (refl, refl); first = (refl, λ x. refl); one = λ x. (refl, refl, λ w. refl); more = λ v vs x. (refl, refl, λ w. refl); found = λ x vs. refl }

settle_takes : TakesAll true (shape_of_name (codes "settle")) (codes "settle")
unfolding walk_fault defaults_fault
settle_takes = (refl, refl, refl, λ f. (refl, (refl, refl, refl, λ o. (refl, two_ranges f o))))

unsettle_takes : TakesAll false (shape_of_name (codes "unsettle")) (codes "unsettle")
unfolding walk_fault defaults_fault
unsettle_takes = (refl, refl, refl, λ f. (refl, (refl, refl, refl, λ n. (refl, (refl, refl, refl, λ x rest. refl)))))

-- ---- the word that names the command

-- the program as it is built
abbrev top : Shape
top = (built program_app).top

-- the names of its commands
abbrev commands_met : Names
commands_met = names_of (built program_app)

-- the kinds of errors, by what the walk over all the words gave
abbrev all_of : Kinds → Walk → Kinds
all_of f w =
    or_else f (or_else (entered_fault (built program_app) w.stopped)
    (level_end top w.held (is_some (entered (built program_app) w.stopped))))

-- a walk that met a subcommand, and the words behind it
abbrev stopped_at : Text → List Text → Walk
stopped_at name words = record (walk_from nothing_held) { stopped = Some (name, words) }

-- the words behind a subcommand are kept for it
stopped_walk : (name : Text) (before rest : List Text)
    → fold (walked top.rules commands_met) (stopped_at name before) rest ≡ stopped_at name (before ++ rest)
unfolding walked
stopped_walk name before [] = ap (stopped_at name) (sym (append-nil before))
stopped_walk name before (w ∷ rest) = stopped_walk name (before ++ w ∷ []) rest ∙ ap (stopped_at name) (append_assoc before (w ∷ []) rest)

-- they fail nowhere above it
stopped_fault : (name : Text) (before rest : List Text) → walk_fault top commands_met (stopped_at name before) rest ≡ []
unfolding walk_fault walked
stopped_fault name before [] = refl
stopped_fault name before (w ∷ rest) = stopped_fault name (before ++ w ∷ []) rest

-- the name of a command ends the walk, and the words behind it decide
record IsName (name : Text) (s : Shape) : Type 0 where
  stops : walked top.rules commands_met (walk_from nothing_held) name ≡ stopped_at name []
  free : turn_fault top commands_met (walk_from nothing_held) name ≡ []
  decides : (rest : List Text) → all_of [] (stopped_at name rest) ≡ or_else (begin s rest).0 []
  finds : (rest : List Text)
      → command_found (entered (built program_app) (Some (name, rest)))
      ≡ under_name commands name (words_found (word_names name) (begin s rest).1)

patch_is : IsName (codes "patch") (patch_like (codes "patch"))
unfolding walked defaults_fault
patch_is = record { stops = refl; free = refl; decides = λ rest. refl; finds = λ rest. refl }

check_is : IsName (codes "check") (shape_of_name (codes "check"))
unfolding walked defaults_fault
check_is = record { stops = refl; free = refl; decides = λ rest. refl; finds = λ rest. refl }

step_is : IsName (codes "step") (shape_of_name (codes "step"))
unfolding walked defaults_fault
step_is = record { stops = refl; free = refl; decides = λ rest. refl; finds = λ rest. refl }

gen_is : IsName (codes "gen") (shape_of_name (codes "gen"))
unfolding walked defaults_fault
gen_is = record { stops = refl; free = refl; decides = λ rest. refl; finds = λ rest. refl }

load_is : IsName (codes "load") (patch_like (codes "load"))
unfolding walked defaults_fault
load_is = record { stops = refl; free = refl; decides = λ rest. refl; finds = λ rest. refl }

threads_is : IsName (codes "threads") (shape_of_name (codes "threads"))
unfolding walked defaults_fault
threads_is = record { stops = refl; free = refl; decides = λ rest. refl; finds = λ rest. refl }

unpatch_is : IsName (codes "unpatch") (shape_of_name (codes "unpatch"))
unfolding walked defaults_fault
unpatch_is = record { stops = refl; free = refl; decides = λ rest. refl; finds = λ rest. refl }

settle_is : IsName (codes "settle") (shape_of_name (codes "settle"))
unfolding walked defaults_fault
settle_is = record { stops = refl; free = refl; decides = λ rest. refl; finds = λ rest. refl }

unsettle_is : IsName (codes "unsettle") (shape_of_name (codes "unsettle"))
unfolding walked defaults_fault
unsettle_is = record { stops = refl; free = refl; decides = λ rest. refl; finds = λ rest. refl }

-- the walk stops at the name
named_walk : (name : Text) (s : Shape) → IsName name s → (rest : List Text)
    → walk top.rules commands_met nothing_held (name ∷ rest) ≡ stopped_at name rest
named_walk name s is rest =
    ap (λ (w : Walk). fold (walked top.rules commands_met) w rest) is.stops ∙ stopped_walk name [] rest

-- it fails nowhere above the command
named_fault : (name : Text) (s : Shape) → IsName name s → (rest : List Text)
    → walk_fault top commands_met (walk_from nothing_held) (name ∷ rest) ≡ []
unfolding walk_fault
named_fault name s is rest =
    ap₂ (λ (k : Kinds) (w : Walk). or_else k (walk_fault top commands_met w rest)) is.free is.stops ∙ stopped_fault name [] rest

-- the command's own words decide
named_faults : (name : Text) (s : Shape) → IsName name s → (rest : List Text) → fault_of program_app (name ∷ rest) ≡ or_else (begin s rest).0 []
named_faults name s is rest = ap₂ all_of (named_fault name s is rest) (named_walk name s is rest) ∙ is.decides rest

-- the command that is found is that of the words behind the name
named_command : (name : Text) (s : Shape) → IsName name s → (rest : List Text)
    → command_found (subcommand_of program_app (name ∷ rest)) ≡ under_name commands name (words_found (word_names name) (begin s rest).1)
named_command name s is rest =
    ap (λ (w : Walk). command_found (entered (built program_app) w.stopped)) (named_walk name s is rest) ∙ is.finds rest

-- another word is refused
other_fault_of : (w : Text) (rest : List Text) → is_plain w ≡ true → subcommand_met commands_met idle w ≡ None
    → fault_of program_app (w ∷ rest) ≡ kind.UnknownArgument ∷ kind.InvalidSubcommand ∷ []
unfolding walk_fault
other_fault_of w rest p met =
    ap (λ (f : Kinds). all_of (or_else f (walk_fault top commands_met (walked top.rules commands_met (walk_from nothing_held) w) rest))
    (walk top.rules commands_met nothing_held (w ∷ rest))) (plain_turn top commands_met nothing_held 1 w p met)

-- no words are refused
no_command : fault_of program_app [] ≡ kind.MissingSubcommand ∷ []
unfolding walk_fault defaults_fault
no_command = refl

-- what a parse of words tells
abbrev Reads : List Text → Type 0
Reads ws = Tells (form_of ws) (fault_of program_app ws) (command_found (subcommand_of program_app ws))

-- the same, by what is known of it
as_read : (ws : List Text) (k : Kinds) (c : Command) → fault_of program_app ws ≡ k → command_found (subcommand_of program_app ws) ≡ c
    → Tells (form_of ws) k c → Reads ws
as_read ws k c e f t =
    subst (λ (x : Kinds). Tells (form_of ws) x (command_found (subcommand_of program_app ws))) (sym e)
    (subst (Tells (form_of ws) k) (sym f) t)

-- texts that differ differ the other way too
other_way : (name w : Text) → bytes_eq name w ≡ false → bytes_eq w name ≡ false
other_way name w e = go (bytes_eq w name) (bytes_eq-Decides w name)
  where
    go : (b : Bool) → Decides b (w ≡ name) → b ≡ false
    go true d = absurd (true≢false (sym ((bytes_eq-Decides name w).1 (sym (d.0 refl))) ∙ e))
    go false d = refl

-- a word that is the same as a name reads as the name
named : (name w : Text) (rest : List Text) → bytes_eq name w ≡ true → Reads (name ∷ rest) → Reads (w ∷ rest)
named name w rest e r = subst (λ (v : Text). Reads (v ∷ rest)) ((bytes_eq-Decides name w).0 e) r

-- plain words behind a name are read
abbrev IsRead : Text → Type 0
IsRead name = (rest : List Text) → list_all is_plain rest ≡ true → Reads (name ∷ rest)

-- so they are where the name is of a command that takes its words
behind_name : (reserves : Bool) (name : Text) (s : Shape) → IsName name s → TakesAll reserves s name → IsRead name
behind_name reserves name s is t rest p =
    as_read (name ∷ rest) _ _ (named_faults name s is rest) (named_command name s is rest)
    (words_read reserves s (under_name commands name) (word_names name) nothing_held 1 [] (word_names name) t rest p)

-- each of these names is read
abbrev AllRead : List Text → Type 0
AllRead [] = Unit {0}
AllRead (name ∷ names) = IsRead name × AllRead names

all_read : AllRead command_names
all_read = (
  behind_name true (codes "patch") (patch_like (codes "patch")) patch_is patch_takes,
  (
    behind_name false (codes "check") (shape_of_name (codes "check")) check_is check_takes,
    (
      behind_name false (codes "step") (shape_of_name (codes "step")) step_is step_takes,
      (
        behind_name false (codes "gen") (shape_of_name (codes "gen")) gen_is gen_takes,
        (
          behind_name true (codes "load") (patch_like (codes "load")) load_is load_takes,
          (
            behind_name true (codes "threads") (shape_of_name (codes "threads")) threads_is threads_takes,
            (
              behind_name false (codes "unpatch") (shape_of_name (codes "unpatch")) unpatch_is unpatch_takes,
              (
                behind_name true (codes "settle") (shape_of_name (codes "settle")) settle_is settle_takes,
                (
                  behind_name false (codes "unsettle") (shape_of_name (codes "unsettle")) unsettle_is unsettle_takes,
                  tt,
                ),
              ),
            ),
          ),
        ),
      ),
    ),
  ),
)

-- a word is none of these names
abbrev IsNone : List Text → Text → Type 0
IsNone [] w = Unit {0}
IsNone (name ∷ names) w = (bytes_eq name w ≡ false) × IsNone names w

-- it names no subcommand
none_met : (names : List Text) (w : Text) → IsNone names w
    → find (answers_to w) (map (λ (name : Text). (name, [])) names) ≡ None
none_met [] w n = refl
none_met (name ∷ names) w n =
    ap (λ (b : Bool). cond (b || false) (Some (name, [])) (find (answers_to w) (map (λ (x : Text). (x, [])) names))) n.0
    ∙ none_met names w n.1

-- no command is meant
none_meant : (cs : List CommandRow) (w : Text) (rest : List Text) → IsNone (map (λ (c : CommandRow). c.0.name) cs) w → under_name cs w rest ≡ Usage
none_meant [] w rest n = refl
none_meant (c ∷ cs) w rest n =
    ap (λ (b : Bool). if b then c.1 rest else under_name cs w rest) (other_way c.0.name w n.0) ∙ none_meant cs w rest n.1

-- another word is of no form
other_read : (w : Text) (rest : List Text) → list_all is_plain (w ∷ rest) ≡ true → IsNone command_names w → Reads (w ∷ rest)
other_read w rest p n =
    let met : subcommand_met commands_met idle w ≡ None = ap (option_map (λ (s : Text × List Text). s.0)) (none_met command_names w n) in
    inr (
      refused _ kind.UnknownArgument (kind.InvalidSubcommand ∷ []) (other_fault_of w rest (head w rest p) met),
      none_meant commands w rest n,
    )

-- by whether the word is one of the names
by_name : (names : List Text) (w : Text) (rest : List Text) → list_all is_plain (w ∷ rest) ≡ true → AllRead names
    → (IsNone names w → Reads (w ∷ rest)) → Reads (w ∷ rest)
by_name [] w rest p a other = other tt
by_name (name ∷ names) w rest p a other = go (bytes_eq name w) refl (λ e. by_name names w rest p a.1 (λ n. other (e, n)))
  where
    go : (b : Bool) → bytes_eq name w ≡ b → (bytes_eq name w ≡ false → Reads (w ∷ rest)) → Reads (w ∷ rest)
    go true e later = named name w rest e (a.0 rest (tail w rest p))
    go false e later = later e

-- plain words are of the form that is found, or they are refused and of none
reads : (ws : List Text) → list_all is_plain ws ≡ true → Reads ws
reads [] p = inr (refused _ kind.MissingSubcommand [] no_command, refl)
reads (w ∷ rest) p = by_name command_names w rest p all_read (other_read w rest p)

-- the matches of a parse that passes have the command
pub passed : (ws : List Text) → list_all is_plain ws ≡ true → (m : ArgMatches)
    → HasMatchesOf program_app ws m → fault_of program_app ws ≡ [] → command_found (subcommand_rows_of m) ≡ form_of ws
passed ws p m h e = go (reads ws p)
  where
    go : Reads ws → command_found (subcommand_rows_of m) ≡ form_of ws
    go (inl r) = ap command_found (h refl).1 ∙ r.1
    go (inr r) = absurd (r.0 e)

-- a parse that fails with memory left is one of words of no form
pub failed : (ws : List Text) → list_all is_plain ws ≡ true → (k : ErrorKind) → (k ≡ kind.OutOfMemory) ⊎ IsAmong k (fault_of program_app ws)
    → (k ≡ kind.OutOfMemory → ⊥) → Usage ≡ form_of ws
failed ws p k h n = go (reads ws p) h
  where
    go : Reads ws → (k ≡ kind.OutOfMemory) ⊎ IsAmong k (fault_of program_app ws) → Usage ≡ form_of ws
    go r (inl q) = absurd (n q)
    go (inl r) (inr q) = absurd (subst (IsAmong k) r.0 q)
    go (inr r) (inr q) = sym r.1
