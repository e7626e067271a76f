-- What the form of a command's words gives of its names and numbers.
use Rattle.std.proofs.Common.{◌≡◌, ℕ, ◌+◌, ◌<◌, ◌≤◌, ◌==◌, Bool, true, false, ◌&&◌, ◌||◌, not, nat_lt, if◌then◌else◌, List, [], ◌∷◌, take, drop, Option, Some, None, Decides, codes, refl, sym, subst, arith}
use Rattle.std.specs.List.{list_all}
use Rattle.std.specs.Str.{bytes_eq}
use Rattle.std.proofs.lemmas.Bool.{and_parts}
use Rattle.std.proofs.lemmas.Bool.Decides.{nat_tests}
use Rattle.std.proofs.lemmas.Slice.Eq.{bytes_eq-Decides}
use Rattle.pun_base.specs.declared.action.Action.{Action}
use Rattle.pun_base.specs.declared.action.Action.TheVariants.{Cover, Count, Ring, When}
use Rattle.pun_base.specs.Actions.{IsAction}
use Rattle.list_text.specs.Digits.{below, number_in}
use Rattle.list_text.specs.Words.{action_of, count_of}
use Rattle.list_text.proofs.ActionSpellings.{actions_are_spelled}
use Rattle.command_words.specs.Words.{Names, ThreadNames, UnpatchNames, SettleNames, UnsettleNames, Command, Usage, Patch, Step, Gen, Load, Threads, ThreadsReported, ThreadsLoaded, Unpatch, Settle, Unsettle, is_plain, are_apart, patch_with, reserves_of, patch_of, check_of, most_steps, step_with, step_of, most_seed, most_blocks, nonzero, blocks_of, gen_with, gen_of, load_with, load_of, threads_with, reported_with, report_of, threads_by, threads_after, acting_with, asked, action_asked, threads_acting, threads_by_action, loaded_with, is_loader_form, threads_in_form, threads_of, unpatch_of, base_of, settle_with, settle_at, settle_after, settle_of, unsettle_of, CommandRow, commands, under_name, form_of, command_of}

-- An action whose ring, if it keeps one, has 256 or 65,536 slots.
abbrev pub HasThreadSlots : Action → Type 0
HasThreadSlots (Ring len) = (len == 256 || len == 65536) ≡ true
HasThreadSlots other = Unit {0}

-- An action that can be asked for, with slots for threads if it keeps a ring.
abbrev pub IsThreadAction : Action → Type 0
IsThreadAction a = IsAction a × HasThreadSlots a

-- What is known of a command that words are of: its outputs are apart, its action can be asked for, and its numbers are within their limits.
abbrev pub IsKnown : Command → Type 0
IsKnown (Patch n a r) = (n.out ≡ n.report → ⊥) × IsAction a
IsKnown (Step n count) = count ≤ most_steps
IsKnown (Gen seed blocks) = (1 ≤ blocks) × (blocks ≤ most_blocks)
IsKnown (Load n a r) = (n.out ≡ n.report → ⊥) × IsAction a
IsKnown (Threads n r) = (n.out ≡ n.file → ⊥) × (n.out ≡ n.starts → ⊥) × (n.out ≡ n.sites → ⊥)
IsKnown (ThreadsReported n a r) = (n.out ≡ n.report → ⊥) × IsThreadAction a
IsKnown (ThreadsLoaded n a r) = (n.out ≡ n.report → ⊥) × IsThreadAction a
IsKnown (Unpatch n) = (n.new ≡ n.patched → ⊥) × (n.new ≡ n.report → ⊥)
IsKnown (Settle n base) = n.out ≡ n.file → ⊥
IsKnown (Unsettle n) = n.new ≡ n.file → ⊥
IsKnown other = Unit {0}

-- ---- `patch` and `load`: their outputs are apart, and their action can be asked for

unlike : (b : Bool) (P : Type 0) → Decides b P → not b ≡ true → P → ⊥
unlike b P d e p = let q = d.1 p in cc

first_of_seven : (a b c d e f g : Bool) → (a && b && c && d && e && f && g) ≡ true → a ≡ true
first_of_seven a b c d e f g h =
    (and_parts a b (and_parts _ c (and_parts _ d (and_parts _ e (and_parts _ f (and_parts _ g h).0).0).0).0).0).0

names_apart : (n : Names) → are_apart n ≡ true → n.out ≡ n.report → ⊥
names_apart n e = unlike (bytes_eq n.out n.report) (n.out ≡ n.report) (bytes_eq-Decides n.out n.report) (first_of_seven _ _ _ _ _ _ _ e)

known_patch : (words : List (List ℕ)) → IsKnown (patch_of words)
known_patch (file ∷ starts ∷ sites ∷ action ∷ out ∷ report ∷ reserves) =
    parts (record { file = file; starts = starts; sites = sites; out = out; report = report }) (action_of action) (reserves_of reserves)
    (λ a e. ((actions_are_spelled action a).0 e).0)
  where
    by_test : (n : Names) (a : Action) (r : List (ℕ × ℕ)) (b : Bool) → (b ≡ true → n.out ≡ n.report → ⊥) → IsAction a
        → IsKnown (if b then Patch n a r else Usage)
    by_test n a r true f i = (f refl, i)
    by_test n a r false f i = tt

    parts : (n : Names) (action : Option Action) (reserves : Option (List (ℕ × ℕ))) → ((a : Action) → action ≡ Some a → IsAction a)
        → IsKnown (patch_with n action reserves)
    parts n None reserves i = tt
    parts n (Some a) None i = tt
    parts n (Some a) (Some r) i = by_test n a r (are_apart n) (names_apart n) (i a refl)
known_patch other = tt

known_load : (words : List (List ℕ)) → IsKnown (load_of words)
known_load words = go (patch_of words) (known_patch words)
  where
    go : (c : Command) → IsKnown c → IsKnown (load_with c)
    go (Patch n a r) k = k
    go other k = tt

-- ---- `step` makes at most 10,000,000 steps

-- a number below a limit
kept : (limit : ℕ) (o : Option ℕ) (n : ℕ) → below limit o ≡ Some n → n < limit
kept limit None n e = cc
kept limit (Some m) n e = go (nat_lt m limit) refl e
  where
    go : (b : Bool) → nat_lt m limit ≡ b → (if b then Some m else None) ≡ Some n → n < limit
    go true t f = let k : m ≡ n = cc in let h : m < limit = grind (arith, nat_tests) in omega arith
    go false t f = cc

-- a number that a word tells isn't too large
few : (most : ℕ) (word : List ℕ) (n : ℕ) → count_of most word ≡ Some n → n ≤ most
few most [] n e = cc
few most (c ∷ []) n e = let h = kept (most + 1) (number_in 10 (c ∷ [])) n e in omega arith
few most (c ∷ d ∷ cs) n e = go (c == 48) e
  where
    go : (b : Bool) → (if b then None else below (most + 1) (number_in 10 (c ∷ d ∷ cs))) ≡ Some n → n ≤ most
    go true f = cc
    go false f = let h = kept (most + 1) (number_in 10 (c ∷ d ∷ cs)) n f in omega arith

known_step : (words : List (List ℕ)) → IsKnown (step_of words)
known_step (file ∷ starts ∷ world ∷ count ∷ []) = parts (count_of most_steps count) (few most_steps count)
  where
    parts : (o : Option ℕ) → ((n : ℕ) → o ≡ Some n → n ≤ most_steps)
        → IsKnown (step_with (record { file = file; starts = starts; world = world }) o)
    parts None f = tt
    parts (Some n) f = f n refl
known_step other = tt

-- ---- `gen` makes at least one block, and at most 20,000

-- a number that isn't 0, within a limit
some_within : (most : ℕ) (o : Option ℕ) (n : ℕ) → ((i : ℕ) → o ≡ Some i → i ≤ most) → nonzero o ≡ Some n → (1 ≤ n) × (n ≤ most)
some_within most None n f e = cc
some_within most (Some m) n f e = go (m == 0) refl e
  where
    go : (b : Bool) → (m == 0) ≡ b → (if b then None else Some m) ≡ Some n → (1 ≤ n) × (n ≤ most)
    go true t g = cc
    go false t g =
        let k : m ≡ n = cc in
        let p : 1 ≤ m = grind (arith, nat_tests) in
        let q = f m refl in
        (omega arith, omega arith)

known_gen : (words : List (List ℕ)) → IsKnown (gen_of words)
known_gen (seed ∷ blocks ∷ []) =
    parts (count_of most_seed seed) (blocks_of blocks)
    (λ n. some_within most_blocks (count_of most_blocks blocks) n (few most_blocks blocks))
  where
    parts : (s b : Option ℕ) → ((n : ℕ) → b ≡ Some n → (1 ≤ n) × (n ≤ most_blocks)) → IsKnown (gen_with s b)
    parts None b f = tt
    parts (Some s) None f = tt
    parts (Some s) (Some n) f = f n refl
known_gen other = tt

-- ---- the output of `threads` is apart from its inputs, and from its report, and its action has slots for threads if it keeps a ring

-- an action that a word may ask for isn't one
asked_known : (o : Option Action) → ((a : Action) → o ≡ Some a → IsAction a) → (a : Action) → asked o ≡ Some a → IsThreadAction a
asked_known None f a e = cc
asked_known (Some Cover) f a e = let same : Cover ≡ a = cc in subst IsThreadAction same (tt, tt)
asked_known (Some Count) f a e = cc
asked_known (Some (Ring len)) f a e = go (len == 256 || len == 65536) refl e
  where
    go : (b : Bool) → (len == 256 || len == 65536) ≡ b → (if b then Some (Ring len) else None) ≡ Some a → IsThreadAction a
    go true t h = let same : Ring len ≡ a = cc in subst IsThreadAction same (f (Ring len) refl, t)
    go false t h = cc
asked_known (Some (When b list)) f a e =
    let same : When b list ≡ a = cc in subst IsThreadAction same (f (When b list) refl, tt)

-- an action that a word asks for
action_known : (word : List ℕ) (a : Action) → action_asked word ≡ Some a → IsThreadAction a
action_known word a e = go (bytes_eq (take 7 word) (codes "action:")) e
  where
    go : (b : Bool) → (if b then asked (action_of (drop 7 word)) else None) ≡ Some a → IsThreadAction a
    go true f = asked_known (action_of (drop 7 word)) (λ x h. ((actions_are_spelled (drop 7 word) x).0 h).0) a f
    go false f = cc

known_threads : (words : List (List ℕ)) → IsKnown (threads_of words)
known_threads (file ∷ starts ∷ sites ∷ out ∷ words) = in_form (record { file = file; starts = starts; sites = sites; out = out }) words
  where
    by_test : (n : ThreadNames) (r : List (ℕ × ℕ)) (a b c : Bool) → Decides a (n.out ≡ n.file) → Decides b (n.out ≡ n.starts)
        → Decides c (n.out ≡ n.sites) → IsKnown (if not a && not b && not c then Threads n r else Usage)
    by_test n r true b c d e f = tt
    by_test n r false true c d e f = tt
    by_test n r false false true d e f = tt
    by_test n r false false false d e f = (unlike false _ d refl, unlike false _ e refl, unlike false _ f refl)

    parts : (n : ThreadNames) (reserves : Option (List (ℕ × ℕ))) → IsKnown (threads_with n reserves)
    parts n None = tt
    parts n (Some r) =
        by_test n r (bytes_eq n.out n.file) (bytes_eq n.out n.starts) (bytes_eq n.out n.sites) (bytes_eq-Decides n.out n.file)
        (bytes_eq-Decides n.out n.starts) (bytes_eq-Decides n.out n.sites)

    by_apart : (n : Names) (r : List (ℕ × ℕ)) (b : Bool) → (b ≡ true → n.out ≡ n.report → ⊥) → IsKnown (if b then ThreadsReported n Count r else Usage)
    by_apart n r true f = (f refl, (tt, tt))
    by_apart n r false f = tt

    reported : (n : Names) (reserves : Option (List (ℕ × ℕ))) → IsKnown (reported_with n reserves)
    reported n None = tt
    reported n (Some r) = by_apart n r (are_apart n) (names_apart n)

    by_report : (n : ThreadNames) (report : Option (List ℕ)) (word : List ℕ) (words : List (List ℕ)) → IsKnown (threads_by n report word words)
    by_report n None word words = parts n (reserves_of (word ∷ words))
    by_report n (Some report) word words =
        reported (record { file = n.file; starts = n.starts; sites = n.sites; out = n.out; report = report }) (reserves_of words)

    after : (n : ThreadNames) (words : List (List ℕ)) → IsKnown (threads_after n words)
    after n [] = parts n (reserves_of [])
    after n (word ∷ words) = by_report n (report_of word) word words

    acting : (a : Action) → IsThreadAction a → (c : Command) → IsKnown c → IsKnown (acting_with a c)
    acting a i (ThreadsReported n b r) k = (k.0, i)
    acting a i other k = tt

    by_asked : (n : ThreadNames) (o : Option Action) → ((a : Action) → o ≡ Some a → IsThreadAction a) → (word : List ℕ) (words : List (List ℕ))
        → IsKnown (threads_acting n o word words)
    by_asked n None i word words = after n (word ∷ words)
    by_asked n (Some a) i word words = acting a (i a refl) (threads_after n words) (after n words)

    by_action : (n : ThreadNames) (words : List (List ℕ)) → IsKnown (threads_by_action n words)
    by_action n [] = after n []
    by_action n (word ∷ words) = by_asked n (action_asked word) (action_known word) word words

    loaded : (c : Command) → IsKnown c → IsKnown (loaded_with c)
    loaded (ThreadsReported n b r) k = k
    loaded other k = tt

    by_form : (n : ThreadNames) (b : Bool) (word : List ℕ) (words : List (List ℕ))
        → IsKnown (if b then loaded_with (threads_by_action n words) else threads_by_action n (word ∷ words))
    by_form n true word words = loaded (threads_by_action n words) (by_action n words)
    by_form n false word words = by_action n (word ∷ words)

    in_form : (n : ThreadNames) (words : List (List ℕ)) → IsKnown (threads_in_form n words)
    in_form n [] = by_action n []
    in_form n (word ∷ words) = by_form n (is_loader_form word) word words
known_threads other = tt

-- ---- the output of `unpatch` is apart from its inputs

known_unpatch : (words : List (List ℕ)) → IsKnown (unpatch_of words)
known_unpatch (patched ∷ report ∷ new ∷ []) =
    by_test (record { patched = patched; report = report; new = new }) (bytes_eq new patched) (bytes_eq new report)
    (bytes_eq-Decides new patched) (bytes_eq-Decides new report)
  where
    by_test : (n : UnpatchNames) (a b : Bool) → Decides a (n.new ≡ n.patched) → Decides b (n.new ≡ n.report)
        → IsKnown (if not a && not b then Unpatch n else Usage)
    by_test n true b d e = tt
    by_test n false true d e = tt
    by_test n false false d e = (unlike false _ d refl, unlike false _ e refl)
known_unpatch other = tt

-- ---- so is that of `settle`, and that of `unsettle`

known_settle : (words : List (List ℕ)) → IsKnown (settle_of words)
known_settle (file ∷ out ∷ words) = after (record { file = file; out = out }) words
  where
    by_test : (n : SettleNames) (base : Option ℕ) (a : Bool) → Decides a (n.out ≡ n.file) → IsKnown (if not a then Settle n base else Usage)
    by_test n base true d = tt
    by_test n base false d = unlike false _ d refl

    one : (n : SettleNames) (base : Option ℕ) → IsKnown (settle_with n base)
    one n base = by_test n base (bytes_eq n.out n.file) (bytes_eq-Decides n.out n.file)

    at : (n : SettleNames) (base : Option ℕ) → IsKnown (settle_at n base)
    at n None = tt
    at n (Some b) = one n (Some b)

    after : (n : SettleNames) (ws : List (List ℕ)) → IsKnown (settle_after n ws)
    after n [] = one n None
    after n (w ∷ []) = at n (base_of w)
    after n (w ∷ x ∷ ws) = tt
known_settle other = tt

known_unsettle : (words : List (List ℕ)) → IsKnown (unsettle_of words)
known_unsettle (file ∷ new ∷ []) = by_test (record { file = file; new = new }) (bytes_eq new file) (bytes_eq-Decides new file)
  where
    by_test : (n : UnsettleNames) (a : Bool) → Decides a (n.new ≡ n.file) → IsKnown (if not a then Unsettle n else Usage)
    by_test n true d = tt
    by_test n false d = unlike false _ d refl
known_unsettle other = tt

-- ---- the same of any words

known_check : (words : List (List ℕ)) → IsKnown (check_of words)
known_check (file ∷ out ∷ starts ∷ report ∷ []) = tt
known_check other = tt

-- it is known of each command that stands under a name
abbrev AllKnown : List CommandRow → Type 0
AllKnown [] = Unit {0}
AllKnown (c ∷ cs) = ((words : List (List ℕ)) → IsKnown (c.1 words)) × AllKnown cs

known_under : (cs : List CommandRow) → AllKnown cs → (word : List ℕ) (words : List (List ℕ)) → IsKnown (under_name cs word words)
known_under [] k word words = tt
known_under (c ∷ cs) k word words = go (bytes_eq word c.0.name) (known_under cs k.1 word words)
  where
    go : (b : Bool) → IsKnown (under_name cs word words) → IsKnown (if b then c.1 words else under_name cs word words)
    go true later = k.0 words
    go false later = later

-- the words behind the program's name
known_form : (words : List (List ℕ)) → IsKnown (form_of words)
known_form [] = tt
known_form (word ∷ words) = known_under commands (known_patch, (known_check, (known_step, (known_gen, (known_load, (known_threads, (known_unpatch, (known_settle, (known_unsettle, tt))))))))) word words

-- by whether they are plain
known_plain : (words : List (List ℕ)) (b : Bool) → IsKnown (if b then form_of words else Usage)
known_plain words true = known_form words
known_plain words false = tt

known : (words : List (List ℕ)) → IsKnown (command_of words)
known [] = tt
known (program ∷ words) = known_plain words (list_all is_plain words)

-- what is known of the command that words are of
pub known_of : (words : List (List ℕ)) (c : Command) → c ≡ command_of words → IsKnown c
known_of words c e = subst IsKnown (sym e) (known words)
