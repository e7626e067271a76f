-- The headline, for any step relation (insn_form's Runs). Theorems cite it.
-- The patched run passes outside its trampolines through exactly the original's states, with one event before each execution
-- of a patched site and no other.
use Rattle.std.specs.Prelude.{◌≡◌, ℕ, ◌*◌, ◌≤◌, true, if◌then◌else◌, List, [], ◌∷◌, ◌++◌, length, map, Option, Some, None, Contains}
use Rattle.insn_form.specs.Machine.{Machine, standing_at}
use Rattle.insn_form.specs.Runs.{StepRelation, IsRun, last_of}
use Rattle.image_runs.specs.Listed.{is_start}
use Rattle.image_runs.specs.Quiet.{IsQuiet, IsStartPair}
use Rattle.sound_images.specs.Rewriting.{Site, Rewriting, shown}
use Rattle.trampoline.specs.Events.{Seen}
use Rattle.sound_images.specs.Events.{due_events, log, passes, record_for, data_of}
use Rattle.image_runs.specs.declared.delivery.Delivery.{Delivery}
use Rattle.image_runs.specs.Deliveries.{delivered, Item, Stepped, Taken, after, end_of, taken, IsRunWith, IsQuietWith, stepped_at}

-- A moment of a run outside the trampolines: what is seen of the state, the events so far, the data part.
pub record Moment : Type 0 where
  pub state : Machine
  pub events : List ℕ
  pub part : List (Option ℕ)

-- The moments of the original's run, given the states before: each state, with the log up to it and the
-- record of its events.
abbrev pub due_moments : Rewriting → List Machine → List Machine → List Moment
due_moments r before [] = []
due_moments r before (s ∷ ts) =
    record { state = shown r s; events = log r before; part = map Some (record_for r (due_events r before)) } ∷ due_moments r (before ++ s ∷ []) ts

-- The moments of the patched run, given the states before: each outside state, with the passes up to it and
-- its data part.
abbrev pub moments : Rewriting → List Machine → List Machine → List Moment
moments r before [] = []
moments r before (u ∷ us) =
    if is_start r.listed u.rip
    then record { state = shown r u; events = passes r (before ++ u ∷ []); part = data_of r u } ∷ moments r (before ++ u ∷ []) us
    else moments r (before ++ u ∷ []) us

-- The run us from b follows the original's run ts from a: at most 24 steps for each of its steps, ending
-- outside, and outside exactly its moments.
pub record Follows (Step : StepRelation) (r : Rewriting) (a : Machine) (ts : List Machine) (b : Machine) (us : List Machine) : Type 0 where
  pub run : IsRun Step b us
  pub bounded : length us ≤ 24 * length ts
  pub ends_outside : is_start r.listed (last_of b us).rip ≡ true
  pub same : moments r [] (b ∷ us) ≡ due_moments r [] (a ∷ ts)

-- The states of a run at which a step was made: all but the last.
abbrev pub made_at : Machine → List Machine → List Machine
made_at s [] = []
made_at s (t ∷ ts) = s ∷ made_at t ts

-- The run vs from u reaches the relocated code of a patched site at which the original stands in s, after these
-- events: the same is seen but for the instruction pointer, and the record has one event of the site more.
pub record Reaches (Step : StepRelation) (r : Rewriting) (site : Site) (s : Machine) (events : List Seen) (u : Machine) (vs : List Machine) : Type 0 where
  pub run : IsRun Step u vs
  pub bounded : length vs ≤ 24
  pub there : (last_of u vs).rip ≡ site.relocated
  pub same : standing_at 0 (shown r (last_of u vs)) ≡ standing_at 0 (shown r s)
  pub recorded : data_of r (last_of u vs) ≡ map Some (record_for r (events ++ record { number = site.number; regs = s.core.regs } ∷ []))

-- Before the relocated code comes the event: where the original's last state stands at a patched
-- site, the patched run goes on to reach the site's relocated code with its event recorded.
abbrev pub Before : StepRelation → Rewriting → Machine → List Machine → Machine → Type 0
Before Step r a ts u =
    (site : Site) → Contains r.sites site → site.addr ≡ (last_of a ts).rip →
    (vs : List Machine) × Reaches Step r site (last_of a ts) (due_events r (made_at a ts)) u vs

-- The headline for runs without deliveries: for every start pair and every quiet run of the
-- original there is a patched run that follows it, and from its end the event comes before the
-- relocated code.
abbrev pub PlainHeadline : StepRelation → Rewriting → Type 0
PlainHeadline Step r =
    (a b : Machine) → IsStartPair r.original r.patched r.entry a b → (ts : List Machine) → IsQuiet Step r.listed a ts →
    (us : List Machine) × Follows Step r a ts b us × Before Step r a ts (last_of b us)

-- A moment, and the delivery that is made at it, if one is.
abbrev pub Left : Type 0
Left = Moment × Option Delivery

-- The moment of a state of the original, given the states before at which a step was made.
abbrev pub due_moment : Rewriting → List Machine → Machine → Moment
due_moment r before s = record { state = shown r s; events = log r before; part = map Some (record_for r (due_events r before)) }

-- The moments of the original's run: an event is due where a step was made, and not where something was delivered.
abbrev pub due_with : Rewriting → List Machine → Machine → List Item → List Left
due_with r before s [] = (due_moment r before s, None) ∷ []
due_with r before s (Stepped t ∷ is) = (due_moment r before s, None) ∷ due_with r (before ++ s ∷ []) t is
due_with r before s (Taken d ∷ is) = (due_moment r before s, Some d) ∷ due_with r before (delivered d s) is

-- The moment of an outside state of the patched run, given the states before.
abbrev pub seen_moment : Rewriting → List Machine → Machine → Moment
seen_moment r before u = record { state = shown r u; events = passes r (before ++ u ∷ []); part = data_of r u }

-- The moments of a patched run with deliveries, given the states before: each outside state, with
-- the delivery made at it, if one is.
abbrev pub moments_with : Rewriting → List Machine → Machine → List Item → List Left
moments_with r before u [] = if is_start r.listed u.rip then (seen_moment r before u, None) ∷ [] else []
moments_with r before u (i ∷ is) =
    if is_start r.listed u.rip then (seen_moment r before u, taken i) ∷ moments_with r (before ++ u ∷ []) (after u i) is
    else moments_with r (before ++ u ∷ []) (after u i) is

-- The run us from b follows the original's run is from a: at most 24 steps for each of its steps and none for a delivery,
-- ending outside, and outside exactly its moments, at each the delivery that was made at it.
pub record FollowsWith (Step : StepRelation) (r : Rewriting) (a : Machine) (is : List Item) (b : Machine) (us : List Item) : Type 0 where
  pub run : IsRunWith Step r.listed b us
  pub bounded : length (stepped_at b us) ≤ 24 * length (stepped_at a is)
  pub ends_outside : is_start r.listed (end_of b us).rip ≡ true
  pub same : moments_with r [] b us ≡ due_with r [] a is

-- Before the relocated code comes the event, in runs with deliveries: where the original's last
-- state stands at a patched site, the patched run goes on to reach the site's relocated code with
-- its event recorded.
abbrev pub BeforeWith : StepRelation → Rewriting → Machine → List Item → Machine → Type 0
BeforeWith Step r a is u =
    (site : Site) → Contains r.sites site → site.addr ≡ (end_of a is).rip →
    (vs : List Machine) × Reaches Step r site (end_of a is) (due_events r (stepped_at a is)) u vs

-- The headline: for every start pair and every quiet run of the original with deliveries there is a
-- patched run with the same deliveries, each made at an outside state, that follows it, and from
-- its end the event comes before the relocated code.
abbrev pub Headline : StepRelation → Rewriting → Type 0
Headline Step r =
    (a b : Machine) → IsStartPair r.original r.patched r.entry a b → (is : List Item) → IsQuietWith Step r.listed a is →
    (us : List Item) × FollowsWith Step r a is b us × BeforeWith Step r a is (end_of b us)

-- The deliveries of a run, in order.
abbrev pub deliveries : List Item → List Delivery
deliveries [] = []
deliveries (Stepped t ∷ is) = deliveries is
deliveries (Taken d ∷ is) = d ∷ deliveries is
