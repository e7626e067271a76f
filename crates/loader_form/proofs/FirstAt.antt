-- The first moment of a run at an address.
use Rattle.std.proofs.Common.{◌≡◌, ◌≢◌, ◌⊎◌, inl, inr, ℕ, ◌<◌, ◌≤◌, List, [], ◌∷◌, ◌++◌, Option, true, false, refl, ap}
use Rattle.std.specs.Prelude.{eqb}
use Rattle.std.proofs.lemmas.Bool.Decides.{eqb_tells}
use Rattle.insn_form.specs.Machine.{Machine}
use Rattle.loader_form.specs.Kernel.{Move, IsRunWith, last_state, MadeInside}
use Rattle.loader_form.specs.Running.{NeverThere}
use Rattle.loader_form.specs.Answers.{NeverAt}

-- a front of the run ends there, and makes no step there
pub record FirstAt (a : ℕ) (s : Machine) (xs : List Move) : Type 0 where
  pub front : List Move
  pub back : List Move
  pub split : xs ≡ front ++ back
  pub before : NeverAt a s front
  pub there : (last_state s front).rip ≡ a

-- a run comes there, or it never stands there
pub first_at : (a : ℕ) (s : Machine) (xs : List Move) → FirstAt a s xs ⊎ NeverThere a s xs
first_at a s [] = here (eqb_tells s.rip a)
  where
    here : ((eqb s.rip a ≡ true) × (s.rip ≡ a)) ⊎ ((eqb s.rip a ≡ false) × (s.rip ≢ a)) → FirstAt a s [] ⊎ NeverThere a s []
    here (inl e) = inl (record { front = []; back = []; split = refl; before = tt; there = e.1 })
    here (inr n) = inr n.1
first_at a s (x ∷ xs) = here (eqb_tells s.rip a) (first_at a x.state xs)
  where
    here : ((eqb s.rip a ≡ true) × (s.rip ≡ a)) ⊎ ((eqb s.rip a ≡ false) × (s.rip ≢ a)) → FirstAt a x.state xs ⊎ NeverThere a x.state xs
        → FirstAt a s (x ∷ xs) ⊎ NeverThere a s (x ∷ xs)
    here (inl e) later = inl (record { front = []; back = x ∷ xs; split = refl; before = tt; there = e.1 })
    here (inr n) (inl f) =
        inl (record { front = x ∷ f.front; back = f.back; split = ap (λ (z : List Move). x ∷ z) f.split; before = (n.1, f.before); there = f.there })
    here (inr n) (inr never) = inr (n.1, never)

-- what never stands there makes no step there
pub no_step_there : (a : ℕ) (s : Machine) (xs : List Move) → NeverThere a s xs → NeverAt a s xs
no_step_there a s [] h = tt
no_step_there a s (x ∷ xs) h = (h.0, no_step_there a x.state xs h.1)

-- a run none of whose states stands at an address ends elsewhere
pub ends_elsewhere : (a : ℕ) (s : Machine) (xs : List Move) → NeverThere a s xs → (last_state s xs).rip ≢ a
ends_elsewhere a s [] h = h
ends_elsewhere a s (x ∷ xs) h = ends_elsewhere a x.state xs h.1

-- a front of a run is a run
pub front_runs : (file : List ℕ) (k : Option ℕ) (s : Machine) (xs ys : List Move) → IsRunWith file k s (xs ++ ys) → IsRunWith file k s xs
front_runs file k s [] ys h = tt
front_runs file k s (x ∷ xs) ys h = (h.0, front_runs file x.number x.state xs ys h.1)

-- where a run stands in a range all the while, so does a front at its end
pub front_inside : (lo hi : ℕ) (s : Machine) (xs ys : List Move) → MadeInside lo hi s (xs ++ ys) → lo ≤ (last_state s (xs ++ ys)).rip
    → (last_state s (xs ++ ys)).rip < hi → (lo ≤ (last_state s xs).rip) × ((last_state s xs).rip < hi)
front_inside lo hi s [] [] h p q = (p, q)
front_inside lo hi s [] (y ∷ ys) h p q = (h.0, h.1)
front_inside lo hi s (x ∷ xs) ys h p q = front_inside lo hi x.state xs ys h.2 p q
