-- A trampoline as it is written: the event's part, the code, and the jump back.
use Rattle.std.proofs.Common.{◌≡◌, ℕ, ◌+◌, Bool, true, false, cond, List, [], ◌++◌, length, length-append, Option, Some, None, refl, ap, ◌∙◌, arith}
use Rattle.pun_base.specs.declared.action.Action.{Action}
use Rattle.pun_base.specs.declared.action.Action.TheVariants.{Cover, Count, Ring, When}
use Rattle.pun_base.specs.declared.action.Comparisons.TheVariants.{One}
use Rattle.pun_base.specs.Actions.{listed}
use Rattle.length_decode.specs.Spelling.{Fields}
use Rattle.insn_form.specs.Instruction.{insn_of}
use Rattle.insn_form.specs.Displacing.{falls}
use Rattle.relocate_insn.specs.Relocating.{relocated_code}
use Rattle.relocate_insn.proofs.InstructionParts.{grown}
use Rattle.cond_action.proofs.CodeLengths.{code_long}
use Rattle.trampoline.specs.declared.event.Event.{Event}
use Rattle.trampoline.specs.Events.{event_code, event_length, HasEventCode}
use Rattle.trampoline.specs.Trampolines.{event_part, part_length, back_if, code_of}

-- an event's code has the length that is told
pub event_long : (action : Action) (p i : ℕ) → length (event_code action p i) ≡ event_length action
event_long Cover p i = refl
event_long Count p i = refl
event_long (Ring len) p i = refl
event_long (When b list) p i = code_long b (listed list) p i

-- the code of an event has at least one byte and at most 80
pub some_code : HasEventCode
some_code (When b (One x)) = (omega arith, omega arith)
some_code a = (omega arith, omega arith)

-- the event's part has the length that is told
pub part_long : (event : Option Event) (p : ℕ) → length (event_part event p) ≡ part_length event
part_long None p = refl
part_long (Some e) p = event_long e.action p e.number

-- the jump back has five bytes, where there is one
pub back_long : (b : Bool) (place next : ℕ) → length (back_if b place next) ≡ cond b 5 0
back_long true place next = refl
back_long false place next = refl

module _ (event : Option Event) (p next place end : ℕ) (goes : Bool) (x a w b z : List ℕ) (ex : x ≡ []) (ea : a ≡ x ++ event_part event p)
    (eb : b ≡ a ++ w) (ez : z ≡ b ++ back_if goes end next) where
  joined : z ≡ event_part event p ++ (w ++ back_if goes end next)
  joined =
      grown x (event_part event p) (w ++ back_if goes end next) a z ea (grown a w (back_if goes end next) b z eb ez)
      ∙ ap (λ (y : List ℕ). y ++ (event_part event p ++ (w ++ back_if goes end next))) ex

  -- the event's part, relocated code behind it and the jump back, put together, are the trampoline's code
  pub built : (f : Fields) (to : ℕ) → to ≡ place + part_length event → end ≡ to + length w → goes ≡ falls (insn_of f)
      → w ≡ relocated_code p f next to → z ≡ code_of event p f next place
  built f to et ee eg ew =
      let v : w ≡ relocated_code p f next (place + part_length event) = ew ∙ ap (λ (t : ℕ). relocated_code p f next t) et in
      let e : end ≡ (place + part_length event) + length (relocated_code p f next (place + part_length event)) = ee
      ∙ λ j. et j + length (v j) in
      joined ∙ λ j. event_part event p ++ (v j ++ back_if (eg j) (e j) next)

  -- the lengths of these parts make that of the whole
  pub built_long : part_length event + length w + cond goes 5 0 ≡ length z
  built_long =
      let e = ap length joined ∙ length-append (event_part event p) (w ++ back_if goes end next) in
      omega (arith, e, length-append w (back_if goes end next), part_long event p, back_long goes end next)
