-- What the headline says of runs with deliveries, in the reader's words. Theorems cite it.
use Rattle.std.specs.Prelude.{◌≡◌, ℕ, ◌+◌, List, [], ◌∷◌, length, map, Some}
use Rattle.insn_form.specs.Machine.{Machine}
use Rattle.insn_form.specs.Step.{Step}
use Rattle.image_runs.specs.Deliveries.{Item, after, end_of, stepped_at}
use Rattle.sound_images.specs.Rewriting.{Rewriting, shown, outside}
use Rattle.sound_images.specs.Events.{due_events, log, passes, record_for, data_of}
use Rattle.sound_images.specs.Headline.{FollowsWith}
use Rattle.rewrite_core.specs.Glosses.{times}

-- The states of a run with deliveries.
abbrev pub states_of : Machine → List Item → List Machine
states_of s [] = s ∷ []
states_of s (i ∷ is) = s ∷ states_of (after s i) is

-- What a patched run us from b with deliveries says of the original's run is from a.
pub record SaidWith (r : Rewriting) (a : Machine) (is : List Item) (b : Machine) (us : List Item) : Type 0 where
  -- the patched run has an outside state for each state of the original's run
  pub as_many : length (outside r (states_of b us)) ≡ length is + 1
  -- the views of these outside states are those of the original's states, one by one
  pub alike : map (shown r) (outside r (states_of b us)) ≡ map (shown r) (states_of a is)
  -- the patched run ends in a state whose view is that of the original's last one
  pub ends_alike : shown r (end_of b us) ≡ shown r (end_of a is)
  -- the patched run passed the sites' trampolines in the order in which the original executed the
  -- sites
  pub in_order : passes r (states_of b us) ≡ log r (stepped_at a is)
  -- the patched run passed each site's trampoline as often as the original executed the site
  pub as_often : (i : ℕ) → times i (passes r (states_of b us)) ≡ times i (log r (stepped_at a is))
  -- the data part at the patched run's end is the record of these executions
  pub recorded : data_of r (end_of b us) ≡ map Some (record_for r (due_events r (stepped_at a is)))

-- A patched run with deliveries that follows the original's has as many outside states, of the same
-- views, with the same end, passes and record.
abbrev pub FollowsSaidWith : Type 0
FollowsSaidWith =
    (r : Rewriting) (a : Machine) (is : List Item) (b : Machine) (us : List Item) →
    FollowsWith Step r a is b us → SaidWith r a is b us
