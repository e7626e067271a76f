-- What the moments of two runs say of their states, their ends, passes and records: the case in which nothing is delivered.
use Rattle.std.proofs.Common.{◌≡◌, ◌+◌, true, List, [], ◌∷◌, length, map, Some, refl, sym, ap, ◌∙◌}
use Rattle.std.proofs.lemmas.List.{length-map}
use Rattle.insn_form.specs.Machine.{Machine}
use Rattle.insn_form.specs.Runs.{last_of}
use Rattle.image_runs.specs.Deliveries.{Stepped}
use Rattle.image_runs.specs.Listed.{is_start}
use Rattle.sound_images.specs.Rewriting.{Rewriting, shown, outside}
use Rattle.sound_images.specs.Events.{due_events, log, passes, record_for, data_of}
use Rattle.sound_images.specs.Headline.{moments, due_moments, made_at}
use Rattle.sound_images.proofs.PlainItems.{plain, steps_made, steps_end, due_plain, moments_plain}
use Rattle.rewrite_core.specs.Glosses.{Said, times}
use Rattle.rewrite_core.specs.GlossesWith.{SaidWith, states_of}
use Rattle.rewrite_core.proofs.MomentsWith.{said_by_moments}

-- steps as items pass through the run's states
steps_states : (s : Machine) (ts : List Machine) → states_of s (map Stepped ts) ≡ s ∷ ts
steps_states s [] = refl
steps_states s (t ∷ ts) = ap (λ (z : List Machine). s ∷ z) (steps_states t ts)

-- a patched run that ends outside and has the original's moments says so
pub said : (r : Rewriting) (a : Machine) (ts : List Machine) (b : Machine) (us : List Machine) → is_start r.listed (last_of b us).rip ≡ true → moments r [] (b ∷ us) ≡ due_moments r [] (a ∷ ts) → Said r a ts b us
said r a ts b us h e =
    let w : SaidWith r a (map Stepped ts) b (map Stepped us) =
    said_by_moments r a (map Stepped ts) b (map Stepped us) (ap (λ (z : Machine). is_start r.listed z.rip) (steps_end b us) ∙ h)
    (moments_plain r [] b us ∙ ap (map plain) e ∙ sym (due_plain r [] a ts)) in
    let p : passes r (b ∷ us) ≡ log r (made_at a ts) =
    ap (passes r) (sym (steps_states b us)) ∙ w.in_order ∙ ap (log r) (steps_made a ts) in
    record {
      as_many = ap (λ (z : List Machine). length (outside r z)) (sym (steps_states b us)) ∙ w.as_many ∙ ap (λ n. n + 1) (length-map ts Stepped);
      alike = ap (λ (z : List Machine). map (shown r) (outside r z)) (sym (steps_states b us)) ∙ w.alike ∙ ap (map (shown r)) (steps_states a ts);
      ends_alike = ap (shown r) (sym (steps_end b us)) ∙ w.ends_alike ∙ ap (shown r) (steps_end a ts);
      in_order = p;
      as_often = λ i. ap (times i) p;
      recorded = ap (data_of r) (sym (steps_end b us)) ∙ w.recorded
          ∙ ap (λ (z : List Machine). map Some (record_for r (due_events r z))) (steps_made a ts);
    }
