-- A file that is followed, step by step, up to an outside state of a number.
use Rattle.std.proofs.Common.{◌≡◌, ℕ, ◌+◌, ◌<◌, ◌≤◌, ◌⊎◌, inl, inr, Bool, true, false, not, is_some, List, [], ◌∷◌, ◌++◌, length, take, Option, Some, None, refl, sym, ap, ◌∙◌, subst, arith, append-nil, length-append}
use Rattle.std.proofs.lemmas.Bool.{not-false, not-true}
use Rattle.std.proofs.lemmas.List.{take-append-le}
use Rattle.cpu_step.specs.declared.stop.Stop.{Stop}
use Rattle.insn_form.specs.Machine.{Machine}
use Rattle.insn_form.specs.Runs.{last_of, nowhere}
use Rattle.insn_form.specs.Step.{Step}
use Rattle.start_entries.specs.declared.entry.StartEntry.{StartEntry}
use Rattle.image_step.specs.declared.runner.Runner.{Runner}
use Rattle.image_step.specs.Running.{Shows, Ends, machine_in}
use Rattle.guest_findings.specs.Findings.{outside_count, most_patched_steps}
use Rattle.guest_findings.specs.Generating.{StepsOn, RanUntil}

-- ---- one step

-- states of which none are more
none_more : (r : Runner) (s : Machine) (ts : List Machine) → Shows r s (ts ++ []) → Shows r s ts
none_more r s ts h = subst (Shows r s) (append-nil ts) h

-- a run of at most one step shows one, or none leads on
pub one_step : (r : Runner) (s : Machine) (ts more : List Machine) (n : ℕ) (stop : Option Stop) (b : Bool) → Shows r s (ts ++ more)
    → n ≡ length more → Ends stop (machine_in r) n 1 → is_some stop ≡ not b → StepsOn r s ts b
one_step r s ts [] n None b h e f q = absurd (omega arith)
one_step r s ts (t ∷ []) n None b h e f q = subst (StepsOn r s ts) (sym (not-false b (sym q))) (t, h)
one_step r s ts (t ∷ u ∷ more) n None b h e f q = absurd (omega arith)
one_step r s ts [] n (Some stop) b h e f q =
    let g = none_more r s ts h in
    let none : (t : Machine) → Step nowhere (last_of s ts) t → ⊥ =
    subst (λ (m : Machine). (t : Machine) → Step nowhere m t → ⊥) g.here f.1.none in
    subst (StepsOn r s ts) (sym (not-true b (sym q))) (g, none)
one_step r s ts (t ∷ more) n (Some stop) b h e f q = absurd (let l = f.0 in omega arith)

-- ---- steps so far

-- So many steps were shown, before each of which fewer states than the number stood at a listed start.
pub record Led (listed : List StartEntry) (number n : ℕ) (s : Machine) (r : Runner) : Type 0 where
  pub states : List Machine
  pub shows : Shows r s states
  pub count : length states ≡ n
  pub before : (k : ℕ) → k < n → outside_count listed (s ∷ take k states) < number

-- A runner made so many steps since it showed a first state alone.
pub record SoFar (old now : Runner) (number n : ℕ) : Type 0 where
  pub steps : now.steps ≡ n
  pub starts : now.starts ≡ old.starts
  pub led : (s : Machine) → Shows old s [] → Led old.starts number n s now

-- at first none were made
pub none_so_far : (r : Runner) (number : ℕ) → r.steps ≡ 0 → SoFar r r number 0
none_so_far r number z = record {
  steps = z;
  starts = refl;
  led = λ s h. record { states = []; shows = h; count = refl; before = λ k l. absurd (omega arith) };
}

-- the runner's count is that of the states that it shows
counted : (listed : List StartEntry) (number n : ℕ) (s : Machine) (r : Runner) → r.starts ≡ listed → (l : Led listed number n s r)
    → r.outside ≡ outside_count listed (s ∷ l.states)
counted listed number n s r e l = subst (λ (es : List StartEntry). r.outside ≡ outside_count es (s ∷ l.states)) e l.shows.outside

-- all of a list is a front of it with more behind
whole : (xs ys : List Machine) → take (length xs) (xs ++ ys) ≡ xs
whole [] ys = refl
whole (x ∷ xs) ys = ap (λ (zs : List Machine). x ∷ zs) (whole xs ys)

-- before the last step, and before those before it, the number wasn't reached
before_more : (listed : List StartEntry) (number n : ℕ) (s t : Machine) (xs : List Machine) → length xs ≡ n
    → ((k : ℕ) → k < n → outside_count listed (s ∷ take k xs) < number) → outside_count listed (s ∷ xs) < number
    → (k : ℕ) → (k < n) ⊎ (k ≡ n) → outside_count listed (s ∷ take k (xs ++ t ∷ [])) < number
before_more listed number n s t xs e before last k (inl l) =
    subst (λ (ys : List Machine). outside_count listed (s ∷ ys) < number) (sym (take-append-le k xs (t ∷ []) (omega arith))) (before k l)
before_more listed number n s t xs e before last k (inr q) =
    let all : take k (xs ++ t ∷ []) ≡ xs = ap (λ (m : ℕ). take m (xs ++ t ∷ [])) (q ∙ sym e) ∙ whole xs (t ∷ []) in
    subst (λ (ys : List Machine). outside_count listed (s ∷ ys) < number) (sym all) last

-- a number below the next one is below this one, or is it
below_or_at : (k n : ℕ) → k < n + 1 → (k < n) ⊎ (k ≡ n)
below_or_at k n l = grind arith

-- one step more was made from where the number wasn't reached
led_more : (listed : List StartEntry) (number n : ℕ) (s : Machine) (now new : Runner) → now.starts ≡ listed → now.outside < number
    → (l : Led listed number n s now) → StepsOn new s l.states true → Led listed number (n + 1) s new
led_more listed number n s now new e below l on =
    let last : outside_count listed (s ∷ l.states) < number = subst (λ (m : ℕ). m < number) (counted listed number n s now e l) below in
    record {
      states = l.states ++ on.0 ∷ [];
      shows = on.1;
      count = length-append l.states (on.0 ∷ []) ∙ ap (λ (m : ℕ). m + 1) l.count;
      before = λ k lt. before_more listed number n s on.0 l.states l.count l.before last k (below_or_at k n lt);
    }

-- so one step more was made since the first state
pub more_so_far : (old now new : Runner) (number n : ℕ) → SoFar old now number n → now.outside < number → new.starts ≡ now.starts
    → new.steps ≡ now.steps + 1 → ((s : Machine) (ts : List Machine) → Shows now s ts → StepsOn new s ts true)
    → SoFar old new number (n + 1)
more_so_far old now new number n x below starts steps on = record {
  steps = let e = x.steps in omega arith;
  starts = starts ∙ x.starts;
  led = λ s h. let l = x.led s h in led_more old.starts number n s now new x.starts below l (on s l.states l.shows);
}

-- ---- the end

-- the steps that were made, and why there are no more
ended : (listed : List StartEntry) (number n : ℕ) (s : Machine) (now new : Runner) (l : Led listed number n s now) → n ≤ most_patched_steps
    → (number ≤ outside_count listed (s ∷ l.states))
    ⊎ ((length l.states ≡ most_patched_steps) ⊎ ((t : Machine) → Step nowhere (last_of s l.states) t → ⊥))
    → machine_in new ≡ last_of s l.states → RanUntil listed number s new n
ended listed number n s now new l few why here = record {
  states = l.states;
  until = record {
    run = l.shows.run;
    few = subst (λ (m : ℕ). m ≤ most_patched_steps) (sym l.count) few;
    before = λ k lt. l.before k (subst (λ (m : ℕ). k < m) l.count lt);
    ends = why;
  };
  here = here;
  counted = sym l.count;
}

-- the number is reached
pub until_reached : (old now : Runner) (number n : ℕ) → SoFar old now number n → n ≤ most_patched_steps → number ≤ now.outside
    → (s : Machine) → Shows old s [] → RanUntil old.starts number s now n
until_reached old now number n x few reached s h =
    let l = x.led s h in
    let at : number ≤ outside_count old.starts (s ∷ l.states) =
    subst (λ (m : ℕ). number ≤ m) (counted old.starts number n s now x.starts l) reached in
    ended old.starts number n s now now l few (inl at) l.shows.here

-- no step leads on
pub until_stopped : (old now new : Runner) (number n : ℕ) → SoFar old now number n → n ≤ most_patched_steps
    → ((s : Machine) (ts : List Machine) → Shows now s ts → StepsOn new s ts false)
    → (s : Machine) → Shows old s [] → RanUntil old.starts number s new n
until_stopped old now new number n x few on s h =
    let l = x.led s h in
    let o = on s l.states l.shows in
    ended old.starts number n s now new l few (inr (inr o.1)) o.0.here

-- all steps were made
pub until_most : (old now : Runner) (number n : ℕ) → SoFar old now number n → n ≡ most_patched_steps
    → (s : Machine) → Shows old s [] → RanUntil old.starts number s now most_patched_steps
until_most old now number n x most s h =
    let l = x.led s h in
    subst (RanUntil old.starts number s now) most (ended old.starts number n s now now l (omega arith) (inr (inl (l.count ∙ most))) l.shows.here)
