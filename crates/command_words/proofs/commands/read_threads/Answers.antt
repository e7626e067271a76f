use Rattle.std.proofs.Common.{◌≡◌, ℕ, ◌<◌, rules, List, [], ◌∷◌, length, map, refl, arith}
use Rattle.std.specs.Borrow.{Bor}
use Rattle.command_words.specs.Words.{Usage, threads_of}
use Rattle.command_words.proofs.commands.read_threads.Goals as goal

-- fewer words than four
below_four : (ws : List (Bor (List ℕ))) → length ws < 4 → Usage ≡ threads_of (map (λ w. w.now) ws)
below_four [] l = refl
below_four (a ∷ []) l = refl
below_four (a ∷ b ∷ []) l = refl
below_four (a ∷ b ∷ c ∷ []) l = refl
below_four (a ∷ b ∷ c ∷ d ∷ ws) l = absurd (omega arith)

pub returns-in_default : goal.returns-in_default
returns-in_default c = below_four c.args.words.now (search rules)
