-- Code that stays: in parts, in another map, and along steps.
use Rattle.std.proofs.Common.{◌≡◌, ℕ, suc, ◌+◌, ◌^◌, ◌<◌, Bool, true, false, List, [], ◌∷◌, ◌++◌, length, refl, ap, ◌∙◌, subst, arith}
use Rattle.pun_base.specs.Memory.{Bytes}
use Rattle.cpu_state.specs.Bytes.{advanced, allows, byte_of, Stands}
use Rattle.cpu_state.specs.Fixed.{IsFixed}
use Rattle.insn_form.specs.Machine.{Machine}
use Rattle.insn_form.specs.Step.{Step, next_after, task_of}
use Rattle.insn_form.specs.Runs.{nowhere, IsRun, last_of}
use Rattle.insn_form.proofs.TouchedMemory.{guarded}

-- what can be executed and not written in the one map stands in the other
abbrev pub SameCode : Bytes → Bytes → Type 0
SameCode m w = (x : ℕ) → allows 1 (m x) ≡ true → allows 2 (m x) ≡ false → w x ≡ m x

-- an address that doesn't wrap is a sum
pub next_address : (a n : ℕ) → a + n < 2 ^ 64 → advanced a n ≡ a + n
next_address a n h = omega arith

-- code that can't be written stands
pub fixed_stands : (m : Bytes) (a : ℕ) (bs : List ℕ) → IsFixed m a bs → Stands m a bs
fixed_stands m a [] h = tt
fixed_stands m a (b ∷ bs) h = (h.0, h.2, fixed_stands m (advanced a 1) bs h.3)

-- it stands so in each map with the same code
pub fixed_on : (m w : Bytes) (a : ℕ) (bs : List ℕ) → SameCode m w → IsFixed m a bs → IsFixed w a bs
fixed_on m w a [] c h = tt
fixed_on m w a (b ∷ bs) c h =
    let e = c a h.0 h.1 in
    (ap (allows 1) e ∙ h.0, ap (allows 2) e ∙ h.1, ap byte_of e ∙ h.2, fixed_on m w (advanced a 1) bs c h.3)

-- its front can't be written
pub fixed_front : (m : Bytes) (a : ℕ) (xs ys : List ℕ) → IsFixed m a (xs ++ ys) → IsFixed m a xs
fixed_front m a [] ys h = tt
fixed_front m a (x ∷ xs) ys h = (h.0, h.1, h.2, fixed_front m (advanced a 1) xs ys h.3)

-- nor can what stands behind the front
pub fixed_back : (m : Bytes) (a : ℕ) (xs ys : List ℕ) → a + length xs < 2 ^ 64 → IsFixed m a (xs ++ ys) → IsFixed m (a + length xs) ys
fixed_back m a [] ys l h = let e : a ≡ a + 0 = omega arith in subst (λ (z : ℕ). IsFixed m z ys) e h
fixed_back m a (x ∷ xs) ys l h =
    let n : advanced a 1 ≡ a + 1 = next_address a 1 (omega arith) in
    let r = fixed_back m (a + 1) xs ys (omega arith) (subst (λ (z : ℕ). IsFixed m z (xs ++ ys)) n h.3) in
    let e : a + 1 + length xs ≡ a + suc (length xs) = omega arith in
    subst (λ (z : ℕ). IsFixed m z ys) e r

-- a step keeps what can be executed and not written
pub step_code : (set : ℕ → Bool) (m : Bytes) (s t : Machine) → Step set s t → SameCode m s.mem → SameCode m t.mem
step_code set m s t st h x a w =
    let e = h x a w in
    guarded (task_of st.0 (next_after s.rip st.0)) (next_after s.rip st.0) s t st.1.acts x (ap (allows 2) e ∙ w) ∙ e

-- so does a run
pub run_code : (m : Bytes) (s : Machine) (ts : List Machine) → IsRun Step s ts → SameCode m s.mem → SameCode m (last_of s ts).mem
run_code m s [] r h = h
run_code m s (t ∷ ts) r h = run_code m t ts r.1 (step_code nowhere m s t r.0 h)

-- code that can't be written stands so after a step
pub fixed_after : (set : ℕ → Bool) (s t : Machine) (a : ℕ) (bs : List ℕ) → Step set s t → IsFixed s.mem a bs → IsFixed t.mem a bs
fixed_after set s t a bs st h = fixed_on s.mem t.mem a bs (step_code set s.mem s t st (λ x i j. refl)) h
