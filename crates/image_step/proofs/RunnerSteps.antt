-- One step of a runner, by what a call of step told.
use Rattle.std.proofs.Common.{◌≡◌, ◌↔◌, ℕ, zero, suc, ◌+◌, Bool, true, false, ◌&&◌, cond, List, [], ◌∷◌, drop, Option, Some, None, Result, Ok, Err, Bor, refl, ap, sym, subst, ◌∙◌, arith}
use Rattle.std.specs.Prelude.{option_copied}
use Rattle.std.specs.Slice.{IsItemAt}
use Rattle.std.proofs.lemmas.List.{at_drop_all, drop_more}
use Rattle.cpu_state.specs.declared.state.State.{State}
use Rattle.cpu_state.specs.declared.world.Entry.{Entry}
use Rattle.insn_form.specs.Machine.{first, rest}
use Rattle.insn_form.specs.Runs.{nowhere}
use Rattle.insn_form.specs.Step.{Step}
use Rattle.cpu_step.specs.declared.step_info.StepInfo.{StepInfo}
use Rattle.cpu_step.specs.declared.stop.Stop.{Stop}
use Rattle.cpu_step.specs.Stepping.{Taken, judged_in, machine_of, world_after}
use Rattle.cpu_step.specs.Steps.{Steps, Touches, avoids_told, told}
use Rattle.image_step.specs.Running.{IsStopped}

-- What is handed in is the first entry that is left.
pub first_left : (xs : List Entry) (k : ℕ) (r : Option (Bor Entry)) → IsItemAt xs k r → first (drop k xs) ≡ option_copied r
first_left xs k None h = at_drop_all first xs k h.3
first_left xs k (Some x) h = ap first (drop_more xs k x.now h.3.0) ∙ ap (λ (e : Entry). Some e) (sym h.1)

rest_drop : (xs : List Entry) (k : ℕ) → rest (drop k xs) ≡ drop (k + 1) xs
rest_drop [] zero = refl
rest_drop [] (suc k) = let e : suc k + 1 ≡ suc (k + 1) = omega arith in ap (λ (n : ℕ). drop {A = Entry} n []) (sym e)
rest_drop (x ∷ xs) zero = refl
rest_drop (x ∷ xs) (suc k) = let e : suc k + 1 ≡ suc (k + 1) = omega arith in rest_drop xs k ∙ ap (λ (n : ℕ). drop n (x ∷ xs)) (sym e)

-- Of a world of which k entries are used one more is used or none.
pub world_left : (used : Bool) (xs : List Entry) (k : ℕ) → world_after used (drop k xs) ≡ drop (k + cond used 1 0) xs
world_left true xs k = rest_drop xs k
world_left false xs k = let e : k ≡ k + 0 = omega arith in ap (λ (n : ℕ). drop n xs) e

-- A step that a call told leads to the world with the entries that are left.
pub step_taken : (old new : State) (world : List Entry) (k n : ℕ) (next : Option Entry) (info : StepInfo) → first (drop k world) ≡ next
    → n ≡ cond info.used 1 0 → Steps next old new (Ok info) → Step nowhere (machine_of old (drop k world)) (machine_of new (drop (k + n) world))
step_taken old new world k n next info f e s =
    let left : world_after info.used (drop k world) ≡ drop (k + n) world = world_left info.used world k ∙ ap (λ (m : ℕ). drop (k + m) world) (sym e) in
    subst (λ (w : List Entry). Step nowhere (machine_of old (drop k world)) (machine_of new w)) left (s (drop k world) f)

-- It leaves a set alone exactly where what was told does.
pub step_apart : (set : ℕ → Bool) (old new : State) (world : List Entry) (k n : ℕ) (next : Option Entry) (info : StepInfo) → first (drop k world) ≡ next
    → n ≡ cond info.used 1 0 → Touches next old new (Ok info)
    → Step set (machine_of old (drop k world)) (machine_of new (drop (k + n) world)) ↔ (avoids_told set next info ≡ true)
step_apart set old new world k n next info f e t =
    let left : world_after info.used (drop k world) ≡ drop (k + n) world = world_left info.used world k ∙ ap (λ (m : ℕ). drop (k + m) world) (sym e) in
    subst (λ (w : List Entry). Step set (machine_of old (drop k world)) (machine_of new w) ↔ (avoids_told set next info ≡ true)) left (t set (drop k world) f)

-- What a call told of a stop is what it was judged to be.
pub told_err : (r : Result Taken Stop) (stop : Stop) → ◌≡◌ {A = Result StepInfo Stop} (Err stop) (told r) → r ≡ Err stop
told_err (Ok t) stop h = absurd cc
told_err (Err e) stop h = cc

-- A stop that a call told is why no step leads on.
pub stopped : (s : State) (world : List Entry) (k : ℕ) (next : Option Entry) (stop : Stop) → first (drop k world) ≡ next
    → ◌≡◌ {A = Result StepInfo Stop} (Err stop) (told (judged_in s next)) → Steps next s s (Err stop) → IsStopped (machine_of s (drop k world)) stop
stopped s world k next stop f h n =
    record {
      reason = ap (λ (e : Option Entry). judged_in s e) f ∙ told_err (judged_in s next) stop h;
      none = n (drop k world) f;
    }

-- Quiet so far, and by the step.
pub quiet_by : (new q k a s : Bool) (P : Type 0) → new ≡ (q && (k && (a && s))) → P ↔ (a ≡ true) → (new ≡ true) ↔ ((q ≡ true) × (k ≡ true) × P × (s ≡ true))
quiet_by new true true true true P e f = (λ _. (refl, refl, f.1 refl, refl), λ _. e)
quiet_by new true true true false P e f = (λ h. absurd cc, λ p. absurd (let d : false ≡ true = p.3 in cc))
quiet_by new true true false s P e f = (λ h. absurd cc, λ p. absurd (let d : false ≡ true = f.0 p.2 in cc))
quiet_by new true false a s P e f = (λ h. absurd cc, λ p. absurd (let d : false ≡ true = p.1 in cc))
quiet_by new false k a s P e f = (λ h. absurd cc, λ p. absurd (let d : false ≡ true = p.0 in cc))
