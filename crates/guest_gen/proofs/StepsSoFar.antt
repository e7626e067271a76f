-- The steps that a guest made so far, and the entries that answered them.
use Rattle.std.proofs.Common.{◌≡◌, ℕ, ◌+◌, List, [], ◌∷◌, ◌++◌, refl, sym, ap, ◌∙◌, subst, append_assoc, append-nil, length-append}
use Rattle.std.specs.List.{AllByRecursion}
use Rattle.pun_base.proofs.JoinedLists.{all_appended}
use Rattle.cpu_state.specs.declared.state.State.{State}
use Rattle.cpu_state.specs.declared.world.Entry.{Entry}
use Rattle.insn_form.specs.Machine.{Machine}
use Rattle.insn_form.specs.Step.{Step}
use Rattle.insn_form.specs.Runs.{nowhere, IsRun, last_of}
use Rattle.cpu_step.specs.Stepping.{machine_of}
use Rattle.guest_gen.specs.Worlds.{SetsNothing}
use Rattle.guest_gen.specs.Running.{Advances, Answered, AnsweredSoFar, CanRun, Leads}

-- one step more
run_more : (s u v : Machine) (ts : List Machine) → IsRun Step s ts → last_of s ts ≡ u → Step nowhere u v → IsRun Step s (ts ++ v ∷ [])
run_more s u v [] r e st = (subst (λ (z : Machine). Step nowhere z v) (sym e) st, tt)
run_more s u v (t ∷ ts) r e st = (r.0, run_more t u v ts r.1 e st)

-- it ends in the last state
last_more : (s v : Machine) (ts : List Machine) → last_of s (ts ++ v ∷ []) ≡ v
last_more s v [] = refl
last_more s v (t ∷ ts) = last_more t v ts

-- so a run leads one state further
leads_more : (s u v : Machine) (n : ℕ) (ts : List Machine) → Leads s u n ts → Step nowhere u v → Leads s v (n + 1) (ts ++ v ∷ [])
leads_more s u v n ts h st = record {
  count = length-append ts (v ∷ []) ∙ ap (λ (k : ℕ). k + 1) h.count;
  run = run_more s u v ts h.run h.last st;
  last = last_more s v ts;
}

-- no step yet
pub answered_none : (s : State) (es : List Entry) → es ≡ [] → CanRun (machine_of s []) → AnsweredSoFar 0 s s es
answered_none s es e h = subst (AnsweredSoFar 0 s s) (sym e)
    (record { nothing = tt; goes = h; states = λ rest. []; leads = λ rest. record { count = refl; run = tt; last = refl } })

-- a further one
pub answered_more : (n : ℕ) (first now next : State) (es later : List Entry) → AnsweredSoFar n first now es → Advances now next es later
    → AnsweredSoFar (n + 1) first next later
answered_more n first now next es later a d =
    let one : (rest : List Entry) → Leads (machine_of first (es ++ (d.more ++ rest))) (machine_of next rest) (n + 1)
    (a.states (d.more ++ rest) ++ machine_of next rest ∷ []) =
    λ rest. leads_more (machine_of first (es ++ (d.more ++ rest))) (machine_of now (d.more ++ rest)) (machine_of next rest) n
    (a.states (d.more ++ rest)) (a.leads (d.more ++ rest)) (d.steps rest) in
    let same : (rest : List Entry) → es ++ (d.more ++ rest) ≡ later ++ rest =
    λ rest. sym (append_assoc es d.more rest) ∙ ap (λ (z : List Entry). z ++ rest) (sym d.entries) in
    record {
      nothing = subst (AllByRecursion SetsNothing) (sym d.entries) (all_appended SetsNothing es d.more a.nothing d.nothing);
      goes = d.goes;
      states = λ rest. a.states (d.more ++ rest) ++ machine_of next rest ∷ [];
      leads = λ rest. subst (λ (z : List Entry). Leads (machine_of first z) (machine_of next rest) (n + 1)
          (a.states (d.more ++ rest) ++ machine_of next rest ∷ []))
          (same rest) (one rest);
    }

-- all of them
pub answered_all : (n m : ℕ) (first now : State) (es : List Entry) → n ≡ m → AnsweredSoFar n first now es → Answered m first es
answered_all n m first now es e a =
    let h : Leads (machine_of first es) (machine_of now []) n (a.states []) =
    subst (λ (z : List Entry). Leads (machine_of first z) (machine_of now []) n (a.states [])) (append-nil es) (a.leads []) in
    record {
      nothing = a.nothing;
      states = a.states [];
      uses = record { count = h.count ∙ e; run = h.run; used = ap (λ (z : Machine). z.world) h.last };
    }
