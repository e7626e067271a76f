-- The entries of a world that a run leaves.
use Rattle.std.proofs.Common.{◌≡◌, ℕ, Bool, true, false, cond, List, [], ◌∷◌, ◌++◌, length, drop, refl, sym, ap, ◌∙◌, subst, arith, append_assoc, length-append}
use Rattle.std.proofs.lemmas.List.{drop_at}
use Rattle.cpu_state.specs.declared.world.Entry.{Entry}
use Rattle.insn_form.specs.Machine.{Machine, rest}
use Rattle.insn_form.specs.Runs.{nowhere, IsRun, last_of}
use Rattle.insn_form.specs.Step.{Step, next_after}
use Rattle.insn_form.proofs.FrameRule.{carry_ok}

-- entries that are left where others were used, from the front
record IsLeft (all left : List Entry) : Type 0 where
  used : List Entry
  is : all ≡ used ++ left

-- none was used
all_left : (all : List Entry) → IsLeft all all
all_left all = record { used = []; is = refl }

-- one was used, if there is one
rest_left : (es : List Entry) → IsLeft es (rest es)
rest_left [] = record { used = []; is = refl }
rest_left (e ∷ es) = record { used = e ∷ []; is = refl }

-- one or none
one_or_none : (b : Bool) (es : List Entry) → IsLeft es (cond b (rest es) es)
one_or_none true es = rest_left es
one_or_none false es = all_left es

-- what is left of what is left
left_twice : (a b c : List Entry) → IsLeft a b → IsLeft b c → IsLeft a c
left_twice a b c p q = record {
  used = p.used ++ q.used;
  is = p.is ∙ ap (λ (z : List Entry). p.used ++ z) q.is ∙ sym (append_assoc p.used q.used c);
}

-- a step leaves entries of its world
step_left : (set : ℕ → Bool) (s t : Machine) → Step set s t → IsLeft s.world t.world
step_left set s t x =
    let q = carry_ok (next_after s.rip x.0) s.mem s.world _ t x.1.acts in
    subst (λ (w : List Entry). IsLeft s.world w) (sym (ap (λ (z : Machine). z.world) q.2)) (one_or_none q.0.used s.world)

-- so does a run
run_left : (s : Machine) (ts : List Machine) → IsRun Step s ts → IsLeft s.world (last_of s ts).world
run_left s [] r = all_left s.world
run_left s (t ∷ ts) r = left_twice s.world t.world (last_of t ts).world (step_left nowhere s t r.0) (run_left t ts r.1)

-- what is left is what stands behind so many entries
left_is : (all left : List Entry) (p : IsLeft all left) → left ≡ drop (length p.used) all
left_is all left p = sym (ap (λ (z : List Entry). drop (length p.used) z) p.is ∙ drop_at p.used left (length p.used) refl)

-- so its length tells it
left_by_length : (all v w : List Entry) → IsLeft all v → IsLeft all w → length v ≡ length w → v ≡ w
left_by_length all v w p q e =
    let m : length p.used ≡ length q.used = omega
    (arith, ap length p.is, ap length q.is, length-append p.used v, length-append q.used w) in
    left_is all v p ∙ ap (λ (n : ℕ). drop n all) m ∙ sym (left_is all w q)

-- two runs that begin with one world leave the same of it where they leave as many entries
pub world_by_length : (s u : Machine) (ts us : List Machine) → s.world ≡ u.world → IsRun Step s ts → IsRun Step u us
    → length (last_of s ts).world ≡ length (last_of u us).world → (last_of s ts).world ≡ (last_of u us).world
world_by_length s u ts us e p q h =
    left_by_length u.world (last_of s ts).world (last_of u us).world
    (subst (λ (w : List Entry). IsLeft w (last_of s ts).world) e (run_left s ts p)) (run_left u us q) h
