-- What `check` and `step` do is told by how they end and what they print.
use Rattle.std.proofs.Common.{◌≡◌, ℕ, inl, Bool, true, false, nat_lt, if◌then◌else◌, List, [], ◌∷◌, length, Option, Some, Result, subst}
use Rattle.pun_base.specs.Shown.{Files, DeskState, SinkState}
use Rattle.command_words.specs.Words.{CheckNames, StepNames, Command, Check, Step, command_of}
use Rattle.command_io.specs.Endings.{Delivers}
use Rattle.command_io.specs.Inputs.{most, TooLong, All, with_first, first_of, gathered}
use Rattle.command_io.specs.Inspecting.{Telling, TellsAll}
use Rattle.command_io.specs.Failing.{Failed, Answer, Answers, end_message}
use Rattle.inspect_commands.specs.CheckAnswers.{check_inputs, CheckAccepts, CheckRefuses, CheckTells, IsCheckStatus, HeldFollowed, Checks}
use Rattle.inspect_commands.specs.StepAnswers.{step_inputs, StepAccepts, StepRefuses, StepTells, IsStepStatus}
use Rattle.commands.specs.Commands.{Does}
use Rattle.command_io.specs.declared.ends.Input.{Input}
use Rattle.command_io.specs.declared.ends.Input.TheVariants as input
use Rattle.command_io.proofs.ReadingEnds.{found, inspected}
use Rattle.inspect_commands.proofs.CheckVerdicts.{check_agrees}
use Rattle.inspect_commands.proofs.StepVerdicts.{step_agrees}

-- ---- the headline, for what stands under the names

-- four inputs that are held, and told of, are within the limit
four : (T : Telling) (w x y z : Input) (a b c d : List ℕ) (e f g h : Bool) (text : List ℕ) (status : ℕ)
    → TellsAll T (if e then TooLong w else with_first a (if f then TooLong x else with_first b (if g then TooLong y
    else with_first c (if h then TooLong z else All (d ∷ []))))) text status
    → T (a ∷ b ∷ c ∷ d ∷ []) text status
four T w x y z a b c d true f g h text status t = absurd t
four T w x y z a b c d false true g h text status t = absurd t
four T w x y z a b c d false false true h text status t = absurd t
four T w x y z a b c d false false false true text status t = absurd t
four T w x y z a b c d false false false false text status t = t

held_followed : (n : CheckNames) (files : Files) (text : List ℕ) (status : ℕ) → status ≡ 0
    → TellsAll CheckTells (gathered files (check_inputs n)) text status → HeldFollowed n files
held_followed n files text status zero t = λ file out starts report e f g h.
    let P : Option (List ℕ) → Option (List ℕ) → Option (List ℕ) → Option (List ℕ) → Type 0 = λ a b c d.
    TellsAll CheckTells (first_of a (input.File, n.file) (first_of b (input.Out, n.out) (first_of c (input.Starts, n.starts)
    (first_of d (input.Report, n.report) (All []))))) text status in
    let p = subst (λ a. P a (files n.out) (files n.starts) (files n.report)) e t in
    let q = subst (λ b. P (Some file) b (files n.starts) (files n.report)) f p in
    let r = subst (λ c. P (Some file) (Some out) c (files n.report)) g q in
    let s : P (Some file) (Some out) (Some starts) (Some report) = subst (λ d. P (Some file) (Some out) (Some starts) d) h r in
    let v = four CheckTells input.File input.Out input.Starts input.Report file out starts report (nat_lt most (length file))
    (nat_lt most (length out)) (nat_lt most (length starts)) (nat_lt most (length report)) text status s in
    (v.list, (v.mode, (v.value, (v.accepted.starts_are, v.accepted.report_is.spelled, v.followed zero))))

-- ---- what the commands do

-- where `check` answers so and its end is delivered, the command did what its words ask
pub check_ran : (words : List (List ℕ)) (n : CheckNames) (s t : DeskState) (k l : SinkState) (r : Result Answer Failed) (status : ℕ)
    → Check n ≡ command_of words → Answers (check_inputs n) CheckRefuses CheckTells IsCheckStatus s t r
    → Delivers (end_message r) k l status → Does (command_of words) s t k l status
check_ran words n s t k l r status q a d =
    let c : Checks n s t k l status = record {
      inspects = inspected (check_inputs n) CheckAccepts CheckRefuses CheckTells IsCheckStatus check_agrees s t k l r status a d;
      followed = λ files h z.
          let w = found CheckAccepts CheckRefuses CheckTells IsCheckStatus check_agrees files s (check_inputs n) k l r status
          (a.says files h) d (inl z) in
          held_followed n files w.0 status z w.1;
    } in
    subst (λ (x : Command). Does x s t k l status) q c

-- where `step` answers so and its end is delivered, the command did what its words ask
pub step_ran : (words : List (List ℕ)) (n : StepNames) (count : ℕ) (s t : DeskState) (k l : SinkState) (r : Result Answer Failed) (status : ℕ)
    → Step n count ≡ command_of words → Answers (step_inputs n) StepRefuses (StepTells count) IsStepStatus s t r
    → Delivers (end_message r) k l status → Does (command_of words) s t k l status
step_ran words n count s t k l r status q a p =
    subst (λ (x : Command). Does x s t k l status) q
    (inspected (step_inputs n) StepAccepts StepRefuses (StepTells count) IsStepStatus (step_agrees count) s t k l r status a p)
