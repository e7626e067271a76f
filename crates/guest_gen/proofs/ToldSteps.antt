-- A step of a guest, by what the code is told of it.
use Rattle.std.proofs.Common.{◌≡◌, List, [], ◌∷◌, ◌++◌, Option, Some, None, Result, Ok, Err, sym, ap, ◌∙◌, subst, append-nil}
use Rattle.cpu_state.specs.declared.state.State.{State}
use Rattle.cpu_state.specs.declared.world.Entry.{Entry}
use Rattle.cpu_state.specs.declared.world.Question.{Question}
use Rattle.insn_form.specs.Machine.{Machine}
use Rattle.insn_form.specs.Step.{Step, task_of}
use Rattle.insn_form.specs.Runs.{nowhere}
use Rattle.insn_form.proofs.UniqueSteps.{one_next}
use Rattle.cpu_step.specs.declared.stop.Stop.{Stop}
use Rattle.cpu_step.specs.declared.stop.Stop.TheVariants.{WorldDiffers}
use Rattle.cpu_step.specs.declared.step_info.StepInfo.{StepInfo}
use Rattle.cpu_step.specs.Stepping.{machine_of, judged_in, judgement}
use Rattle.cpu_step.specs.Steps as steps
use Rattle.cpu_step.proofs.JudgedTasks.{ok_err}
use Rattle.guest_gen.specs.Running.{Advances, CanRun, HasStep, asked_in, blank}
use Rattle.guest_gen.proofs.GuestTurns.{Turn, Quiet, Asks, left, told}

-- one stop is told
same_stop : (e f : Stop) → ◌≡◌ {A = Result StepInfo Stop} (Err e) (Err f) → e ≡ f
same_stop e f h = cc

-- no question isn't one
none_some : {A : Type 0} (x : A) → ◌≡◌ {A = Option A} None (Some x) → ⊥
none_some x h = cc

-- one question is told
same_some : {A : Type 0} (x y : A) → ◌≡◌ {A = Option A} (Some x) (Some y) → x ≡ y
same_some x y h = cc

-- what is told where the world's next entry answers nothing
told_blank : (s : State) (b : Entry) (stop : Stop) → b ≡ blank → judgement (machine_of s (blank ∷ [])) ≡ Err stop
    → steps.told (judged_in s (Some b)) ≡ Err stop
told_blank s b stop e j = ap steps.told (ap (λ (z : Entry). judgement (machine_of s (z ∷ []))) e ∙ j)

-- a step that asks nothing adds no entry
quiet_advances : (old new : State) (es : List Entry) (b : Entry) (w : List Entry) (t : Machine)
    → ((rest : List Entry) → Step nowhere (machine_of old rest) (left t rest)) → CanRun (left t [])
    → Step nowhere (machine_of old (b ∷ [])) (machine_of new w) → Advances old new es es
quiet_advances old new es b w t on g st =
    let e = one_next task_of nowhere nowhere (machine_of old (b ∷ [])) (left t (b ∷ [])) (machine_of new w) (on (b ∷ [])) st in
    let same : (rest : List Entry) → left t rest ≡ machine_of new rest =
    λ rest i. record { core = (e i).core; rip = (e i).rip; mem = (e i).mem; world = rest } in
    record {
      more = [];
      entries = sym (append-nil es);
      nothing = tt;
      steps = λ rest. subst (λ (z : Machine). Step nowhere (machine_of old rest) z) (same rest) (on rest);
      goes = subst CanRun (same []) g;
    }

-- where the code is told of a step, none was asked for
pub advance_ok : (old new : State) (es : List Entry) (b : Entry) (w : List Entry) (info : StepInfo) (r : Result StepInfo Stop) → b ≡ blank
    → Turn (machine_of old []) → r ≡ steps.told (judged_in old (Some b)) → r ≡ Ok info
    → Step nowhere (machine_of old (b ∷ [])) (machine_of new w) → Advances old new es es
advance_ok old new es b w info r e (Quiet t on g) j k st = quiet_advances old new es b w t on g st
advance_ok old new es b w info r e (Asks q t judged on g) j k st =
    absurd (ok_err info (WorldDiffers old.rip q) (sym k ∙ j ∙ told_blank old b (WorldDiffers old.rip q) e judged))

-- the stop tells a question, and an entry that answers it by nothing leads on
pub record Asked (old : State) (stop : Stop) : Type 0 where
  pub question : Question
  pub next : Machine
  pub is : stop ≡ WorldDiffers old.rip question
  pub on : (rest : List Entry) → Step nowhere (machine_of old (told question ∷ rest)) (left next rest)
  pub goes : CanRun (left next [])

-- where the code is told of a stop, a question is
pub advance_asks : (old : State) (b : Entry) (stop : Stop) (r : Result StepInfo Stop) → b ≡ blank → Turn (machine_of old [])
    → r ≡ steps.told (judged_in old (Some b)) → r ≡ Err stop → ((t : Machine) → Step nowhere (machine_of old (b ∷ [])) t → ⊥)
    → Asked old stop
advance_asks old b stop r e (Quiet t on g) j k never = absurd (never (left t (b ∷ [])) (on (b ∷ [])))
advance_asks old b stop r e (Asks q t judged on g) j k never = record {
  question = q;
  next = t;
  is = same_stop stop (WorldDiffers old.rip q) (sym k ∙ j ∙ told_blank old b (WorldDiffers old.rip q) e judged);
  on = on;
  goes = g;
}

-- so the stop has a question
pub asks_some : (old : State) (stop : Stop) → Asked old stop → asked_in stop ≡ None → ⊥
asks_some old stop a h = none_some a.question (sym h ∙ ap asked_in a.is)

-- which is that one
pub asks_this : (old : State) (stop : Stop) (q : Question) → (a : Asked old stop) → Some q ≡ asked_in stop → q ≡ a.question
asks_this old stop q a h = same_some q a.question (h ∙ ap asked_in a.is)

-- an entry that answers it by nothing leads on
entry_on : (old : State) (stop : Stop) (e : Entry) (a : Asked old stop) → e ≡ told a.question → (rest : List Entry)
    → Step nowhere (machine_of old (e ∷ rest)) (left a.next rest)
entry_on old stop e a h rest = subst (λ (z : Entry). Step nowhere (machine_of old (z ∷ rest)) (left a.next rest)) (sym h) (a.on rest)

-- so a step is made
pub asks_step : (old now : State) (stop : Stop) (e : Entry) → (a : Asked old stop) → e ≡ told a.question → now ≡ old → HasStep now e
asks_step old now stop e a h n = subst (λ (z : State). HasStep z e) (sym n) (left a.next [], entry_on old stop e a h [])

-- a step that asks adds the entry that answers it
pub asks_advances : (old now new : State) (stop : Stop) (es later : List Entry) (e : Entry) (w : List Entry) → (a : Asked old stop)
    → e ≡ told a.question
    → now ≡ old → Step nowhere (machine_of now (e ∷ [])) (machine_of new w) → later ≡ es ++ e ∷ [] → Advances old new es later
asks_advances old now new stop es later e w a h n st l =
    let st' = subst (λ (z : State). Step nowhere (machine_of z (e ∷ [])) (machine_of new w)) n st in
    let p = one_next task_of nowhere nowhere (machine_of old (e ∷ [])) (left a.next []) (machine_of new w) (entry_on old stop e a h []) st' in
    let same : (rest : List Entry) → left a.next rest ≡ machine_of new rest =
    λ rest i. record { core = (p i).core; rip = (p i).rip; mem = (p i).mem; world = rest } in
    record {
      more = e ∷ [];
      entries = l;
      nothing = (ap (λ (z : Entry). z.answer) h, tt);
      steps = λ rest. subst (λ (z : Machine). Step nowhere (machine_of old (e ∷ rest)) z) (same rest) (entry_on old stop e a h rest);
      goes = subst CanRun (same []) a.goes;
    }
