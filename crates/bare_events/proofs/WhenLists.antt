-- Events under a condition that use six flags.
use Rattle.std.proofs.Common.{◌≡◌, ℕ, ◌+◌, ◌-◌, ◌≤◌, Bool, false, if◌then◌else◌, List, [], ◌∷◌, length, map, Some, refl, sym, ap, ◌∙◌, arith}
use Rattle.pun_base.specs.Memory.{Bytes}
use Rattle.pun_base.specs.Actions.{listed, AreComparisons}
use Rattle.pun_base.specs.declared.action.Base.{Base}
use Rattle.pun_base.specs.declared.action.Base.TheVariants as base
use Rattle.pun_base.specs.declared.action.Comparison.{Comparison}
use Rattle.pun_base.specs.declared.action.Comparisons.{Comparisons}
use Rattle.pun_base.specs.declared.action.Comparisons.TheVariants.{One, Two, Three}
use Rattle.cpu_alu.specs.declared.flag_word.Flags.{Flags}
use Rattle.cpu_state.specs.declared.state.Core.{Core}
use Rattle.cpu_state.specs.Processor.{IsProcessorCore}
use Rattle.killing.specs.declared.place.Place.TheVariants.{SixFlags}
use Rattle.event_steps.specs.declared.step.EventStep.{EventStep}
use Rattle.event_steps.specs.EventSteps.{AreSteps}
use Rattle.event_steps.specs.EventSteps.Mode.{Alone}
use Rattle.event_steps.specs.WholeEvents.{left_in}
use Rattle.cond_action.specs.Conditions.{all_hold}
use Rattle.cond_action.specs.CondLists.{marking_step}
use Rattle.cond_action.proofs.ListedConditions.{register_over}
use Rattle.trampoline.specs.Events.{base_mark, base_room, bytes_at}
use Rattle.trampoline.specs.Recording.{AreLaid, coming}
use Rattle.trampoline.proofs.FailedComparisons.{failing_low}
use Rattle.trampoline.proofs.PlainEvents.{covered, counted}
use Rattle.trampoline.proofs.ConditionEvents.{flagged, checked, ArePlain, no_puts}
use Rattle.bare_events.specs.BareLists.{flags_when}
use Rattle.bare_events.specs.BareRunning.{AllChangeLittle, WhensAreBare}
use Rattle.bare_events.proofs.EventStates.{little_left}

module _ (b : Base) (p i : ℕ) where
  -- the checks and what marks
  abbrev steps : List Comparison → List EventStep
  steps cs = (flags_when b cs p i).steps

  mark_is : (b : Base) → AreSteps Alone (flags_when b [] p i).uses (marking_step b false 0 ∷ [])
  mark_is base.Cover = (tt, (omega arith, refl, refl), omega arith, tt)
  mark_is base.Count = (tt, (omega arith, refl, refl), omega arith, tt)

  are_steps : (cs : List Comparison) → AreComparisons cs → length cs ≤ 3 → AreSteps Alone (flags_when b [] p i).uses (steps cs)
  are_steps [] a few = mark_is b
  are_steps (c ∷ cs) a few =
      let q = register_over b false 0 cs [] in
      ((a.0, a.1), tt, omega arith, (failing_low c.op, tt, omega (arith, q, few), are_steps cs a.2 (omega (arith, few))))

  -- none puts a number into an array
  mark_plain : (b : Base) → ArePlain (marking_step b false 0 ∷ [])
  mark_plain base.Cover = (refl, tt)
  mark_plain base.Count = (refl, tt)

  are_plain : (cs : List Comparison) → ArePlain (steps cs)
  are_plain [] = mark_plain b
  are_plain (c ∷ cs) = (refl, (refl, are_plain cs))

  -- each changes six flags alone
  mark_little : (b : Base) → AllChangeLittle SixFlags (marking_step b false 0 ∷ [])
  mark_little base.Cover = (λ x c. refl, tt)
  mark_little base.Count = (λ x c. refl, tt)

  are_little : (cs : List Comparison) → AllChangeLittle SixFlags (steps cs)
  are_little [] = mark_little b
  are_little (c ∷ cs) = (λ x d. refl, (λ x d. refl, are_little cs))

  laid_by : (b : Base) (n : ℕ) → base_room b i ≤ n → AreLaid (p + 64) (p + n) (flags_when b [] p i).uses
  laid_by base.Cover n room = ((omega arith, omega (arith, room)), tt)
  laid_by base.Count n room = ((omega arith, omega (arith, room)), tt)

  -- the step that marks marks the data part
  marked_by : (b : Base) (n : ℕ) (c : Core) (f : Flags) (m : Bytes) (bytes : List ℕ) → base_room b i ≤ n → p + n ≤ 0x7FFF0000 → bytes_at m (p + 64) (n - 64) ≡ map Some bytes
      → bytes_at (left_in (flags_when b [] p i).uses c 0 (marking_step b false 0 ∷ []) (flagged (coming (flags_when b [] p i).uses c m) f) m) (p + 64) (n - 64) ≡ map Some (base_mark b i bytes)
  marked_by base.Cover n c f m bytes room low held = covered p i n m bytes room low held
  marked_by base.Count n c f m bytes room low held = counted p i n m m bytes room low held held

  -- where all comparisons hold
  marks_by : (cs : List Comparison) (n : ℕ) (c : Core) (m : Bytes) (bytes : List ℕ) → AreComparisons cs → IsProcessorCore c → base_room b i ≤ n → p + n ≤ 0x7FFF0000
      → bytes_at m (p + 64) (n - 64) ≡ map Some bytes
      → bytes_at (left_in (flags_when b [] p i).uses c 0 (steps cs) (coming (flags_when b [] p i).uses c m) m) (p + 64) (n - 64) ≡ map Some (if all_hold cs c.regs then base_mark b i bytes else bytes)
  marks_by cs n c m bytes are h room low held =
      let ds = (flags_when b [] p i).uses in
      let after = λ (z : Bool). map Some (if z then base_mark b i bytes else bytes) in
      checked (λ k ss l. bytes_at (left_in ds c k ss l m) (p + 64) (n - 64) ≡ map Some (if all_hold cs c.regs then base_mark b i bytes else bytes)) (λ s k ss l q. q) (λ r v ss l q. q)
      (λ cc k ss l q. q) (marking_step b false 0) [] cs (coming ds c m) are h.small
      (λ f r a. marked_by b n c f m bytes room low held ∙ ap after (sym a)) (λ f r a. held ∙ ap after (sym a))

-- at most three comparisons are listed
few_listed : (list : Comparisons) → length (listed list) ≤ 3
few_listed (One a) = omega arith
few_listed (Two a b) = omega arith
few_listed (Three a b c) = omega arith

pub whens_bare : WhensAreBare
whens_bare b list p i n are room = record {
  kills = refl;
  steps = are_steps b p i (listed list) are (few_listed list);
  laid = laid_by b p i b n room;
  fits = λ c m. no_puts (flags_when b [] p i).uses (steps b p i (listed list)) (are_plain b p i (listed list)) 0 (coming (flags_when b [] p i).uses c m);
  little = are_little b p i (listed list);
  restores = λ c m h. little_left SixFlags 0 (steps b p i (listed list)) (coming (flags_when b [] p i).uses c m) (are_little b p i (listed list));
  marked = λ c m bytes h low held. marks_by b p i (listed list) n c m bytes are h room low held;
}
