-- What a step did, with one access at most in place of each list.
use Rattle.std.specs.Prelude.{ℕ, if◌then◌else◌, List, [], ◌∷◌, Result, Ok, Err}
use Rattle.cpu_step.specs.declared.step_info.Access.{Access}
use Rattle.cpu_step.specs.declared.step_info.StepFacts.{StepFacts}
use Rattle.cpu_step.specs.declared.step_info.StepInfo.{StepInfo}
use Rattle.cpu_step.specs.declared.stop.Stop.{Stop}

-- the access, where there is one
abbrev pub access_list : Access → List (ℕ × ℕ)
access_list a = if a.is_made then (a.addr, a.size) ∷ [] else []

-- the same with lists
abbrev pub info_from : StepFacts → StepInfo
info_from f = record {
  used = f.used;
  reads = access_list f.read;
  writes = access_list f.write;
  answer_wrote = f.answer_wrote;
}

abbrev pub told_info : Result StepFacts Stop → Result StepInfo Stop
told_info (Ok f) = Ok (info_from f)
told_info (Err stop) = Err stop
