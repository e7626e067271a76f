-- The event under a condition as a list of steps. Theorems cite it. p is the first address of the private range, i the number of the site.
use Rattle.std.specs.Prelude.{ℕ, ◌+◌, ◌*◌, Bool, true, false, List, [], ◌∷◌, ◌++◌, length}
use Rattle.pun_base.specs.declared.action.Base.{Base}
use Rattle.pun_base.specs.declared.action.Base.TheVariants as base
use Rattle.pun_base.specs.declared.action.Comparison.{Comparison}
use Rattle.cond_action.specs.Codes.{failing}
use Rattle.event_steps.specs.declared.step.Datum.{Datum}
use Rattle.event_steps.specs.declared.step.EventStep.{EventStep}
use Rattle.event_steps.specs.declared.step.Place.TheVariants.{At}
use Rattle.event_steps.specs.declared.step.EventStep.TheVariants.{Cover, CountUp, Store, Load, StoreLow, LoadLow, IntoAh, IntoAl, FromAl, FromAh, Compare, SkipIf}
use Rattle.event_steps.specs.Interleaved.{Listed}
use Rattle.event_steps.specs.Interleaved.Killed.{Nothing}

-- the counter of site i
abbrev pub counter_at : ℕ → ℕ → ℕ
counter_at p i = p + 64 + 8 * i

-- the first byte of what an event of site i marks: the site's byte, or its counter
abbrev pub mark_at : Base → ℕ → ℕ → ℕ
mark_at base.Cover p i = p + 64 + i
mark_at base.Count p i = counter_at p i

-- how many bytes it marks
abbrev pub mark_len : Base → ℕ
mark_len base.Cover = 1
mark_len base.Count = 8

-- eight bytes at an address, and four
abbrev pub eight_at : ℕ → Datum
eight_at a = record { place = At a; size = 8; number = true }

abbrev pub four_at : ℕ → Datum
four_at a = record { place = At a; size = 4; number = true }

-- what an event marks, and the step that marks it
abbrev pub marked_datum : Base → ℕ → ℕ → Datum
marked_datum b p i = record { place = At (mark_at b p i); size = mark_len b; number = true }

abbrev pub marking_step : Base → Bool → ℕ → EventStep
marking_step base.Cover locked k = Cover k
marking_step base.Count locked k = CountUp locked k

-- comparisons of registers, each with a jump over those behind it and the step that marks
abbrev pub register_checks : List Comparison → List EventStep
register_checks [] = []
register_checks (c ∷ cs) = Compare c.reg c.value ∷ SkipIf (failing c.op) (2 * length cs + 1) ∷ register_checks cs

-- the event under a condition: rax and the flags saved in the private range, rax back for the comparisons, the mark, and all back
abbrev pub cond_event : Base → List Comparison → ℕ → ℕ → Listed
cond_event b cs p i = record {
  uses = eight_at p ∷ four_at (p + 8) ∷ marked_datum b p i ∷ [];
  steps = Store 0 ∷ IntoAh ∷ IntoAl ∷ StoreLow 1 ∷ Load 0 ∷ (register_checks cs ++ (marking_step b false 2 ∷ LoadLow 1 ∷ FromAl ∷ FromAh ∷ Load 0 ∷ []));
  kills = Nothing;
}
