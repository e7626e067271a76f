-- What a runner shows after one more step, or one more delivery.
use Rattle.std.proofs.Common.{◌≡◌, ◌↔◌, ℕ, ◌+◌, ◌<◌, true, cond, List, [], ◌∷◌, ◌++◌, length, map, Some, None, Ok, refl, ap, sym, subst, ◌∙◌, arith, append-nil, append_assoc, length-append}
use Rattle.std.specs.Prelude.{count_by}
use Rattle.std.proofs.lemmas.List.{map-append}
use Rattle.start_entries.specs.declared.entry.StartEntry.{StartEntry}
use Rattle.insn_form.specs.Machine.{Machine}
use Rattle.insn_form.specs.Runs.{nowhere}
use Rattle.insn_form.specs.Step.{Step}
use Rattle.cpu_step.specs.declared.stop.Stop.{Stop}
use Rattle.image_step.specs.declared.delivery.Due.{Due}
use Rattle.image_step.specs.declared.runner.RunEnd.{RunEnd}
use Rattle.image_step.specs.declared.runner.Runner.{Runner}
use Rattle.image_runs.specs.Listed.{is_start}
use Rattle.image_runs.specs.declared.delivery.Delivery.{Delivery}
use Rattle.image_runs.specs.Deliveries.{delivered, Item, Stepped, Taken, end_of, Fits, IsRunWith, IsQuietWith, stepped_at}
use Rattle.image_step.specs.Running.{Advances, Ends, Goes, IsStopped, Shows, machine_in}
use Rattle.image_step.specs.Scheduled.{Delivers, GoesOn, ShowsWith, numbered}
use Rattle.image_runs.proofs.MoreItems.{QuietMore, counted, counted_step, counted_taken, end_more, items_more, plain_end, plain_length, plain_quiet, plain_run, plain_states, quiet_step, quiet_taken, stepped_step, stepped_taken, unquiet_step}

-- What is shown with one more step.
shows_step : (b c : Runner) (s : Machine) (is : List Item) → c.starts ≡ b.starts → Advances b c None → ShowsWith b s is → ShowsWith c s (is ++ Stepped (machine_in c) ∷ [])
shows_step b c s is e a h =
    let t = machine_in c in
    let step : Step nowhere (end_of s is) t = subst (λ (m : Machine). Step nowhere m t) h.here a.0 in
    let quiet : (c.quiet ≡ true) ↔ IsQuietWith Step b.starts s (is ++ Stepped t ∷ []) = (
      λ q. let p = a.3.0 q in
          quiet_step b.starts s is t (h.quiet.0 p.0) (subst (λ (m : Machine). QuietMore b.starts m t) h.here (p.1, p.2, p.3)),
      λ q. let p = unquiet_step b.starts s is t q in
          let m = subst (λ (m : Machine). QuietMore b.starts m t) (sym h.here) p.1 in
          a.3.1 (h.quiet.1 p.0, m.0, m.1, m.2),
    ) in
    record {
      run = subst (λ (ls : List StartEntry). IsRunWith Step ls s (is ++ Stepped t ∷ [])) (sym e) (items_more (Step nowhere) b.starts s is (Stepped t) h.run step);
      here = sym (end_more s is (Stepped t));
      steps = a.1 ∙ (ap (λ (n : ℕ). n + 1) h.steps ∙ sym (ap length (stepped_step s is t) ∙ length-append (stepped_at s is) (end_of s is ∷ [])));
      outside = subst (λ (ls : List StartEntry). c.outside ≡ counted (λ u. is_start ls u.rip) s (is ++ Stepped t ∷ [])) (sym e)
          (a.2 ∙ (ap (λ (n : ℕ). n + cond (is_start b.starts t.rip) 1 0) h.outside ∙ sym (counted_step (λ u. is_start b.starts u.rip) s is t)));
      quiet = subst (λ (ls : List StartEntry). (c.quiet ≡ true) ↔ IsQuietWith Step ls s (is ++ Stepped t ∷ [])) (sym e) quiet;
    }

-- What is shown with one more delivery.
pub shows_taken : (b c : Runner) (d : Delivery) (s : Machine) (is : List Item) → c.starts ≡ b.starts → Delivers b c d (Ok tt) → ShowsWith b s is
    → ShowsWith c s (is ++ Taken d ∷ [])
shows_taken b c d s is e a h =
    let fit : Fits b.starts (end_of s is) d = subst (λ (m : Machine). Fits b.starts m d) h.here a.0 in
    let still = quiet_taken b.starts s is d fit in
    let quiet : (c.quiet ≡ true) ↔ IsQuietWith Step b.starts s (is ++ Taken d ∷ []) =
    (λ q. still.0 (h.quiet.0 (sym a.4 ∙ q)), λ q. a.4 ∙ h.quiet.1 (still.1 q)) in
    record {
      run = subst (λ (ls : List StartEntry). IsRunWith Step ls s (is ++ Taken d ∷ [])) (sym e) (items_more (Step nowhere) b.starts s is (Taken d) h.run fit);
      here = a.1 ∙ (ap (delivered d) h.here ∙ sym (end_more s is (Taken d)));
      steps = a.2 ∙ (h.steps ∙ sym (ap length (stepped_taken s is d)));
      outside = subst (λ (ls : List StartEntry). c.outside ≡ counted (λ u. is_start ls u.rip) s (is ++ Taken d ∷ [])) (sym e)
          (a.3 ∙ (h.outside ∙ sym (counted_taken (λ u. is_start b.starts u.rip) s is d fit.here fit.there)));
      quiet = subst (λ (ls : List StartEntry). (c.quiet ≡ true) ↔ IsQuietWith Step ls s (is ++ Taken d ∷ [])) (sym e) quiet;
    }

-- A runner stands where another one does, after as many steps and states outside, as quiet as it.
pub record IsAlike (b c : Runner) : Type 0 where
  pub starts : c.starts ≡ b.starts
  pub here : machine_in c ≡ machine_in b
  pub steps : c.steps ≡ b.steps
  pub outside : c.outside ≡ b.outside
  pub quiet : c.quiet ≡ b.quiet

-- It shows the same.
pub shows_same : (b c : Runner) (s : Machine) (is : List Item) → IsAlike b c → ShowsWith b s is → ShowsWith c s is
shows_same b c s is a h =
    record {
      run = subst (λ (ls : List StartEntry). IsRunWith Step ls s is) (sym a.starts) h.run;
      here = a.here ∙ h.here;
      steps = a.steps ∙ h.steps;
      outside = subst (λ (ls : List StartEntry). c.outside ≡ counted (λ u. is_start ls u.rip) s is) (sym a.starts) (a.outside ∙ h.outside);
      quiet = subst (λ (ls : List StartEntry). (c.quiet ≡ true) ↔ IsQuietWith Step ls s is) (sym a.starts)
          (λ q. h.quiet.0 (sym a.quiet ∙ q), λ q. a.quiet ∙ h.quiet.1 q);
    }

-- ---- steps one after the other

-- A runner that showed a run shows it with k more steps.
abbrev pub Went : Runner → Runner → ℕ → Type 0
Went old new k = (s : Machine) (is : List Item) → ShowsWith old s is → (more : List Machine) × (length more ≡ k) × ShowsWith new s (is ++ map Stepped more)

-- So far k steps were made.
pub record Along (old new : Runner) (k : ℕ) : Type 0 where
  pub starts : new.starts ≡ old.starts
  pub steps : new.steps ≡ old.steps + k
  pub went : Went old new k

-- From a runner to itself it is no step.
pub along_none : (r : Runner) → Along r r 0
along_none r =
    record {
      starts = refl;
      steps = omega arith;
      went = λ s is h. ([], refl, subst (λ (js : List Item). ShowsWith r s js) (sym (append-nil is)) h);
    }

-- One step more leads one step further.
pub along_more : (a b c : Runner) (k : ℕ) → Along a b k → c.starts ≡ b.starts → Advances b c None → Along a c (k + 1)
along_more a b c k l e h =
    let steps : b.steps ≡ a.steps + k = l.steps in
    let one : c.steps ≡ b.steps + 1 = h.1 in
    record {
      starts = e ∙ l.starts;
      steps = omega arith;
      went = λ s is shown.
          let w = l.went s is shown in
          let t = machine_in c in
          let more = shows_step b c s (is ++ map Stepped w.0) e h w.2 in
          let len : length w.0 ≡ k = w.1 in (
            w.0 ++ t ∷ [],
            length-append w.0 (t ∷ []) ∙ ap (λ (n : ℕ). n + 1) len,
            subst (λ (js : List Item). ShowsWith c s js)
                (append_assoc is (map Stepped w.0) (Stepped t ∷ []) ∙ ap (λ (js : List Item). is ++ js) (sym (map-append Stepped w.0 (t ∷ [])))) more,
          );
    }

-- A runner that stands where another one does has made as many.
pub along_same : (a b c : Runner) (k : ℕ) → Along a b k → IsAlike b c → Along a c k
along_same a b c k l e =
    record {
      starts = e.starts ∙ l.starts;
      steps = e.steps ∙ l.steps;
      went = λ s is shown. let w = l.went s is shown in (w.0, w.1, shows_same b c s (is ++ map Stepped w.0) e w.2);
    }

-- So it is where no step leads on.
pub alike_stopped : (b c : Runner) (stop : Stop) → c.starts ≡ b.starts → Advances b c (Some stop) → IsAlike b c
alike_stopped b c stop e h = record { starts = e; here = h.0; steps = h.1; outside = h.2; quiet = h.3 }

-- No step leads on, and the state stays.
pub stops_here : (b c : Runner) (k n : ℕ) (stop : Stop) → Advances b c (Some stop) → k < n → Ends (Some stop) (machine_in c) k n
stops_here b c k n stop h less = (less, subst (λ (m : Machine). IsStopped m stop) (sym h.0) h.4)

-- Steps have no delivery among them.
steps_alone : (k : ℕ) (ts : List Machine) → numbered k (map Stepped ts) ≡ []
steps_alone k [] = refl
steps_alone k (t ∷ ts) = steps_alone (k + 1) ts

steps_numbered : (k : ℕ) (is : List Item) (ts : List Machine) → numbered k (is ++ map Stepped ts) ≡ numbered k is
steps_numbered k [] ts = steps_alone k ts
steps_numbered k (Stepped t ∷ is) ts = steps_numbered (k + 1) is ts
steps_numbered k (Taken d ∷ is) ts = ap (λ (ds : List Due). record { step = k; delivery = d } ∷ ds) (steps_numbered k is ts)

-- So steps go on with no delivery.
pub goes_on : (a b : Runner) (k : ℕ) → Along a b k → GoesOn a b []
goes_on a b k l s is shown =
    let w = l.went s is shown in
    (map Stepped w.0, w.2, steps_numbered 0 is w.0 ∙ sym (append-nil (numbered 0 is)))

-- ---- runs without deliveries

-- A run without deliveries is shown exactly where its steps are shown as items.
pub shows_plain : (r : Runner) (s : Machine) (ts : List Machine) → Shows r s ts ↔ ShowsWith r s (map Stepped ts)
shows_plain r s ts =
    let count = λ (us : List Machine). count_by (λ u. is_start r.starts u.rip) us in (
      λ h. record {
        run = (plain_run r.starts s ts).1 h.run;
        here = h.here ∙ sym (plain_end s ts);
        steps = h.steps ∙ sym (plain_length s ts);
        outside = h.outside ∙ ap count (sym (plain_states s ts));
        quiet = (λ q. (plain_quiet r.starts s ts).1 (h.quiet.0 q), λ q. h.quiet.1 ((plain_quiet r.starts s ts).0 q));
      },
      λ h. record {
        run = (plain_run r.starts s ts).0 h.run;
        here = h.here ∙ plain_end s ts;
        steps = h.steps ∙ plain_length s ts;
        outside = h.outside ∙ ap count (plain_states s ts);
        quiet = (λ q. (plain_quiet r.starts s ts).0 (h.quiet.0 q), λ q. h.quiet.1 ((plain_quiet r.starts s ts).1 q));
      },
    )

-- What goes on with steps goes on so from a run without deliveries.
pub goes_plain : (a b : Runner) (k n : ℕ) (end : RunEnd) → Along a b k → end.steps ≡ k → Ends end.stop (machine_in b) end.steps n
    → (s : Machine) (ts : List Machine) → Shows a s ts → Goes b s ts n end
goes_plain a b k n end l e h s ts shown =
    let w = l.went s (map Stepped ts) ((shows_plain a s ts).0 shown) in
    record {
      more = w.0;
      shows = (shows_plain b s (ts ++ w.0)).1 (subst (λ (js : List Item). ShowsWith b s js) (sym (map-append Stepped ts w.0)) w.2);
      steps = e ∙ sym w.1;
      ends = h;
    }
