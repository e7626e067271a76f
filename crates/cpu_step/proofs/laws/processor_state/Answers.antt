use Rattle.std.proofs.Common.{ℕ, zero, suc, List, [], ◌∷◌, drop}
use Rattle.cpu_state.specs.declared.world.Entry.{Entry}
use Rattle.cpu_state.specs.Processor.{GiveWords}
use Rattle.cpu_step.proofs.laws.processor_state.Goals as goal

-- the entries that are left
left_words : (n : ℕ) (es : List Entry) → GiveWords es → GiveWords (drop n es)
left_words zero es h = h
left_words (suc n) [] h = tt
left_words (suc n) (e ∷ es) h = left_words n es h.1

pub returns : goal.returns
returns c = record { core = c.processor_core.ensures; world = left_words c.args.world.now.place c.args.world.now.entries c.world_words.ensures }
