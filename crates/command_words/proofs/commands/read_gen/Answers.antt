use Rattle.std.proofs.Common.{◌≡◌, ℕ, ◌<◌, rules, List, [], ◌∷◌, length, map, refl, arith}
use Rattle.std.specs.Borrow.{Bor}
use Rattle.command_words.specs.Words.{Usage, gen_of}
use Rattle.command_words.proofs.commands.read_gen.Goals as goal
use Rattle.command_words.proofs.commands.read_gen.Goals.{in_default-via-then-words-lt2, in_default-via-else-words-lt2+else-words-lt3}

-- fewer words than two, or more
not_two : (ws : List (Bor (List ℕ))) → (length ws ≡ 2 → ⊥) → Usage ≡ gen_of (map (λ w. w.now) ws)
not_two [] f = refl
not_two (a ∷ []) f = refl
not_two (a ∷ b ∷ []) f = absurd (f refl)
not_two (a ∷ b ∷ c ∷ ws) f = refl

pub returns-in_default : goal.returns-in_default
returns-in_default c =
    elim c.in_default.branch [
      | in_default-via-then-words-lt2 w ↦ not_two c.args.words.now (λ e. let t : length c.args.words.now < 2 = search rules in omega arith)
      | in_default-via-else-words-lt2+else-words-lt3 w ↦ not_two c.args.words.now (λ e. let t : 2 < length c.args.words.now = search rules in omega arith)
    ]
