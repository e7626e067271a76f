-- The code of lists of steps: each step is made where it stands, and leads in front of the next one.
use Rattle.std.proofs.Common.{◌≡◌, ℕ, ◌+◌, ◌^◌, ◌<◌, Bool, true, false, cond, List, [], ◌∷◌, length-append, take, refl, ◌∙◌, subst, arith, Some, None, unwrap_or, ap}
use Rattle.pun_base.specs.Memory.{Bytes}
use Rattle.cpu_state.specs.Fixed.{IsFixed}
use Rattle.length_decode.specs.Spelling.{spelling}
use Rattle.insn_form.specs.Conditions.{is_met}
use Rattle.insn_form.specs.Meaning.{effect}
use Rattle.insn_form.specs.Machine.{Machine}
use Rattle.insn_form.specs.Runs.{nowhere}
use Rattle.relocate_insn.proofs.FixedCode.{SameCode, step_code, fixed_front, fixed_back}
use Rattle.event_steps.proofs.ThreadSteps.{keeps_code}
use Rattle.event_steps.specs.declared.step.Datum.{Datum}
use Rattle.event_steps.specs.declared.step.EventStep.{EventStep}
use Rattle.event_steps.specs.EventSteps.{Mode, place_in, size, long, over, fields_of, code}
use Rattle.event_steps.specs.MadeSteps.{StepIn, EventStepTold, EventStepGoes, EventStepLeads, CodeIsLong}
use Rattle.event_steps.specs.EventSteps.Mode.{Alone, Shared}
use Rattle.event_steps.specs.declared.step.EventStep.TheVariants.{SkipIf, Reduce}
use Rattle.event_steps.proofs.SingleSteps.{makes, tells, spelled_long}
use Rattle.std.proofs.lemmas.Int.{ints}
use Rattle.std.specs.Int.{cast_signed, w8}
use Rattle.cpu_state.specs.Bytes.{advanced}
use Rattle.insn_form.specs.Operands.{word_of}
use Rattle.insn_form.specs.Filling.{integer_of}
use Rattle.insn_form.specs.Resolving.{absolute}
use Rattle.relocate_insn.proofs.PieceSteps.{absolute_word}

-- a short distance forward
forward_word : (d : ℕ) → d < 128 → word_of (cast_signed w8 d) ≡ d
forward_word d h = grind (arith, ints)

-- the address so many bytes further
pub goes_over : (next d : ℕ) → next < 2 ^ 31 → d < 128 → word_of (absolute next (integer_of (d ∷ []))) ≡ next + d
goes_over next d l h =
    absolute_word next (integer_of (d ∷ [])) ∙ ap (λ z. advanced next z) (forward_word d h)
    ∙ (let e : advanced next d ≡ next + d = omega arith in e)

-- a target that is there where a jump is taken
taken : (b : Bool) (t next : ℕ) → unwrap_or (cond b (Some t) None) next ≡ cond b t next
taken true t next = refl
taken false t next = refl

-- where a short jump leads
pub leads_over : (b : Bool) (next d : ℕ) → next < 2 ^ 31 → d < 128 → unwrap_or (cond b (Some (word_of (absolute next (integer_of (d ∷ []))))) None) next ≡ cond b (next + d) next
leads_over b next d l h = taken b _ next ∙ ap (λ z. cond b z next) (goes_over next d l h)

-- code has as many bytes as is said
pub code_long : CodeIsLong
code_long ds [] = refl
code_long ds (s ∷ ss) = omega (arith, length-append (spelling (fields_of s (place_in ds s) (over s ss))) (code ds ss), spelled_long s (place_in ds s) (over s ss), code_long ds ss)

-- a step that is made where a step of an event stands is that step's
pub step_told : EventStepTold
step_told mode ds s ss at v w are l r c st = tells mode s (place_in ds s) (over s ss) at v w are.0 (omega (arith, l)) r (fixed_front v.mem at (spelling (fields_of s (place_in ds s) (over s ss))) (code ds ss) c) st

-- where it has its operands it is made
pub step_goes : EventStepGoes
step_goes mode ds s ss at v are l r c h = makes mode s (place_in ds s) (over s ss) at v are.0 (omega (arith, l)) r (fixed_front v.mem at (spelling (fields_of s (place_in ds s) (over s ss))) (code ds ss) c) h

-- it leads in front of the next step that isn't left out
pub step_leads : EventStepLeads
unfolding effect
step_leads ds (SkipIf cc k) ss at v l h = leads_over (is_met cc v.core.flags) (at + 2) (long (take k ss)) (omega (arith, l)) h ∙ by_test (is_met cc v.core.flags)
  where
    by_test : (b : Bool) → cond b (at + 2 + long (take k ss)) (at + 2) ≡ at + 2 + long (take (cond b k 0) ss)
    by_test true = refl
    by_test false = omega arith
step_leads ds (Reduce true) ss at v l h = omega arith
step_leads ds (Reduce false) ss at v l h = omega arith
step_leads ds s ss at v l h = omega arith

-- a step keeps code
pub same_code : (mode : Mode) (v w : Machine) → StepIn mode v w → SameCode v.mem w.mem
same_code Alone v w st = step_code nowhere v.mem v w st (λ x i j. refl)
same_code Shared v w st = keeps_code v.mem st.0 v w st.1 (λ x i j. refl)

-- the code behind a step
pub rest_stands : (m : Bytes) (ds : List Datum) (at : ℕ) (s : EventStep) (ss : List EventStep) → at + long (s ∷ ss) < 2 ^ 31 → IsFixed m at (code ds (s ∷ ss)) → IsFixed m (at + size s) (code ds ss)
rest_stands m ds at s ss l c =
    let q = spelled_long s (place_in ds s) (over s ss) in
    subst (λ (z : ℕ). IsFixed m (at + z) (code ds ss)) q (fixed_back m at (spelling (fields_of s (place_in ds s) (over s ss))) (code ds ss) (omega (arith, l, q)) c)
