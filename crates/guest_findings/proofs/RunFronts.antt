-- Two runs from one state: the one with fewer steps is a front of the other.
use Rattle.std.proofs.Common.{◌≡◌, ◌⊎◌, inl, inr, ℕ, zero, suc, ◌<◌, ◌≤◌, Bool, true, List, [], ◌∷◌, length, take, sym, ap, subst, arith}
use Rattle.std.specs.Prelude.{count_by}
use Rattle.std.proofs.lemmas.Bool.{cases_lt, cond-true}
use Rattle.std.proofs.lemmas.List.{length-take-le}
use Rattle.start_entries.specs.declared.entry.StartEntry.{StartEntry}
use Rattle.insn_form.specs.Machine.{Machine}
use Rattle.insn_form.specs.Runs.{nowhere, IsRun, last_of}
use Rattle.insn_form.specs.Step.{Step}
use Rattle.insn_form.proofs.UniqueSteps.{one_run}
use Rattle.patch_report.proofs.ListPlaces.{count_cons}
use Rattle.image_runs.specs.Listed.{is_start}
use Rattle.guest_findings.specs.Findings.{outside_count, RunsUntil}

-- ---- fronts

-- the front of a run is a run
run_front : (k : ℕ) (s : Machine) (ts : List Machine) → IsRun Step s ts → IsRun Step s (take k ts)
run_front zero s ts r = tt
run_front (suc k) s [] r = tt
run_front (suc k) s (t ∷ ts) r = (r.0, run_front k t ts r.1)

-- behind a front of a run that isn't the whole a step is made
pub goes_on : (k : ℕ) (s : Machine) (ts : List Machine) → k < length ts → IsRun Step s ts
    → (t : Machine) × Step nowhere (last_of s (take k ts)) t
goes_on k s [] l r = absurd (omega arith)
goes_on zero s (t ∷ ts) l r = (t, r.0)
goes_on (suc k) s (t ∷ ts) l r = goes_on k t ts (omega arith) r.1

-- of two runs from one state the one with fewer steps is a front of the other
pub front_is : (s : Machine) (ts us : List Machine) → length ts ≤ length us → IsRun Step s ts → IsRun Step s us → ts ≡ take (length ts) us
front_is s ts us l a b = one_run s ts (take (length ts) us) (sym (length-take-le (length ts) us l)) a (run_front (length ts) s us b)

-- ---- how many states pass a test

-- a last state that passes counts
last_counts : (p : Machine → Bool) (s : Machine) (ts : List Machine) → p (last_of s ts) ≡ true → 1 ≤ count_by p (s ∷ ts)
last_counts p s [] h = omega (arith, count_cons p s [], cond-true {A = ℕ} (p s) 1 0 h)
last_counts p s (t ∷ ts) h = omega (arith, count_cons p s (t ∷ ts), last_counts p t ts h)

-- so a front without it has fewer
fewer : (p : Machine → Bool) (k : ℕ) (s : Machine) (ts : List Machine) → k < length ts → p (last_of s ts) ≡ true
    → count_by p (s ∷ take k ts) < count_by p (s ∷ ts)
fewer p k s [] l h = absurd (omega arith)
fewer p zero s (t ∷ ts) l h = omega (arith, count_cons p s [], count_cons p s (t ∷ ts), last_counts p t ts h)
fewer p (suc k) s (t ∷ ts) l h = omega (arith, count_cons p s (t ∷ take k ts), count_cons p s (t ∷ ts), fewer p k t ts (omega arith) h)

-- ---- a run up to an outside state

module _ (listed : List StartEntry) (number most : ℕ) (s : Machine) (ts us : List Machine) (h : RunsUntil listed number most s ts)
    (run : IsRun Step s us) (few : length us ≤ most) (last : is_start listed (last_of s us).rip ≡ true)
    (many : outside_count listed (s ∷ us) ≡ number) where
  -- it doesn't end earlier than a run that ends there
  not_earlier : length ts < length us → ⊥
  not_earlier l = by_end h.ends
    where
      front : ts ≡ take (length ts) us
      front = front_is s ts us (omega arith) h.run run

      as_many : outside_count listed (s ∷ ts) ≡ outside_count listed (s ∷ take (length ts) us)
      as_many = ap (λ (z : List Machine). outside_count listed (s ∷ z)) front

      by_end : (number ≤ outside_count listed (s ∷ ts)) ⊎ ((length ts ≡ most) ⊎ ((t : Machine) → Step nowhere (last_of s ts) t → ⊥)) → ⊥
      by_end (inl n) = let f = fewer (λ (u : Machine). is_start listed u.rip) (length ts) s us l last in omega (arith, as_many, many, f)
      by_end (inr (inl e)) = omega arith
      by_end (inr (inr none)) =
          let next = goes_on (length ts) s us l run in
          none next.0 (subst (λ (z : List Machine). Step nowhere (last_of s z) next.0) (sym front) next.1)

  -- nor later
  not_later : length us < length ts → ⊥
  not_later l =
      let front = front_is s us ts (omega arith) run h.run in
      let e : outside_count listed (s ∷ us) ≡ outside_count listed (s ∷ take (length us) ts) =
      ap (λ (z : List Machine). outside_count listed (s ∷ z)) front in
      let b = h.before (length us) l in
      omega (arith, e, many, b)

  -- both runs are one
  pub one_until : ts ≡ us
  one_until = elim (cases_lt (length ts) (length us)) [
    | inl l ↦ absurd (not_earlier l)
    | inr l ↦ elim (cases_lt (length us) (length ts)) [
      | inl k ↦ absurd (not_later k)
      | inr k ↦ one_run s ts us (omega arith) h.run run
    ]
  ]
