-- Running the copy of an instruction.
use Rattle.std.proofs.Common.{◌≡◌, ◌⊎◌, inl, inr, ℕ, ◌+◌, ◌^◌, ◌<◌, Bool, true, false, List, [], length, Option, Some, None, Ok, unwrap_or, refl, sym, ap, ◌∙◌, subst, arith, true≢false}
use Rattle.std.specs.Option.{is_some}
use Rattle.length_decode.specs.Spelling.{Fields, IsInstruction, spelling, parts_of}
use Rattle.cpu_state.specs.Fixed.{IsFixed}
use Rattle.insn_form.specs.declared.form.Insn.{Insn}
use Rattle.insn_form.specs.Classes.{has_rip}
use Rattle.insn_form.specs.Instruction.{insn_of}
use Rattle.insn_form.specs.Resolving.{resolved_insn}
use Rattle.insn_form.specs.Displacing.{falls}
use Rattle.insn_form.specs.Moved.{direct_target, named, moved_fields}
use Rattle.insn_form.specs.Machine.{Machine, Task, act}
use Rattle.insn_form.specs.Step.{StepsBy, Step, next_after, task_of}
use Rattle.insn_form.specs.Runs.{nowhere}
use Rattle.insn_form.specs.Laws.{is_steady}
use Rattle.insn_form.specs.Again.{always_goes}
use Rattle.insn_form.proofs.RepeatedSteps.{copied_to}
use Rattle.insn_form.proofs.TaskCopies.{same_task}
use Rattle.relocate_insn.specs.Relocating.{copy_of}
use Rattle.relocate_insn.specs.Running.{IsReady, Works}
use Rattle.relocate_insn.proofs.RelocatedLengths.{copy_length}
use Rattle.relocate_insn.proofs.PieceSteps.{is_at, next_is, step_of}

-- an instruction leads from s to s', the places that it names are low, and its code is ready in t
pub record Given (set : ℕ → Bool) (f : Fields) (private place : ℕ) (code : List ℕ) (s s' t : Machine) : Type 0 where
  pub step : StepsBy set f s s'
  pub rip : has_rip (parts_of f) ≡ true → named f (next_after s.rip f) < 2 ^ 31
  pub next_low : next_after s.rip f < 2 ^ 31
  pub place_low : place < 0x7FFF0080
  pub ready : IsReady set private 24 place code s t

-- where the copy of an instruction acts, it is a step
pub copy_step : (place next : ℕ) (f : Fields) (t w : Machine) → IsInstruction f → direct_target (insn_of f) ≡ None
    → (has_rip (parts_of f) ≡ true → named f next < 2 ^ 31)
    → place + length (spelling f) < 2 ^ 31 → t.rip ≡ place → IsFixed t.mem place (copy_of f next place)
    → act (task_of f next) (place + length (spelling f)) t ≡ Ok w → Step nowhere t w
copy_step place next f t w i d rip l r h e =
    let next' = place + length (spelling f) in
    let g = moved_fields f next next' in
    let same = same_task f next next' i d l rip in
    let n : next' ≡ next_after t.rip g = ap (λ z. place + z) (sym same.1) ∙ sym (next_is t place g (omega (arith, same.1)) r) in
    let here : act (task_of g next') next' t ≡ Ok w = subst (λ (z : Task). act z next' t ≡ Ok w) (sym same.2) e in
    step_of t w g (is_at t place g same.0 r h) (subst (λ (z : ℕ). act (task_of g z) z t ≡ Ok w) n here)

-- where a copy goes on
arrives_by : (b : Bool) (o : Option ℕ) (next next' x y : ℕ) → (b ≡ false → is_some o ≡ true) → x ≡ unwrap_or o next → y ≡ unwrap_or o next'
    → (y ≡ x) ⊎ ((b ≡ true) × (x ≡ next) × (y ≡ next'))
arrives_by b (Some z) next next' x y g e k = inl (k ∙ sym e)
arrives_by true None next next' x y g e k = inr (refl, e, k)
arrives_by false None next next' x y g e k = absurd (true≢false (sym (g refl)))

-- the copy of an instruction that uses its own place at most to go on behind itself works
pub copy_works : (set : ℕ → Bool) (f : Fields) (private place : ℕ) (s s' t : Machine) (x : Insn) → insn_of f ≡ x → direct_target x ≡ None
    → is_steady (resolved_insn (next_after s.rip f) x) ≡ true
    → (falls x ≡ false → always_goes (resolved_insn (next_after s.rip f) x) ≡ true)
    → Given set f private place (copy_of f (next_after s.rip f) place) s s' t
    → Works set x private (next_after s.rip f) place (length (copy_of f (next_after s.rip f) place)) s' t
copy_works set f private place s s' t x e d steady goes g =
    let next = next_after s.rip f in
    let next' = place + length (spelling f) in
    let st = g.step in
    let r = g.ready in
    let i = st.at.spelled in
    let short = i.short in
    let pl = g.place_low in
    let long = copy_length f next place i in
    let res = ap (resolved_insn next) e in
    let o = copied_to set (task_of f next) next next' s t s' (ap is_steady res ∙ steady) (sym r.seen) st.apart st.acts in
    let one = copy_step place next f t o.0 i (ap direct_target e ∙ d) g.rip (omega arith) r.there r.stands o.1 in
    let go = o.2 in
    record {
      inner = [];
      end = o.0;
      run = (one, tt);
      few = omega arith;
      inside = tt;
      seen = sym go.same;
      arrives = subst (λ (n : ℕ). (o.0.rip ≡ s'.rip) ⊎ ((falls x ≡ true) × (s'.rip ≡ next) × (o.0.rip ≡ place + n))) (sym long)
          (arrives_by (falls x) go.target next next' s'.rip o.0.rip (λ k. go.gone (ap always_goes res ∙ goes k)) go.own go.other);
      kept = λ y k z. o.3 y k;
    }
