-- A quiet run with deliveries is made behind the stub's steps and beside the front.
use Rattle.std.proofs.Common.{◌≡◌, ◌⊎◌, inl, inr, ℕ, ◌+◌, ◌==◌, true, List, [], ◌∷◌, ◌++◌, map, None, refl, sym, ap, ◌∙◌, subst}
use Rattle.std.specs.List.{list_any}
use Rattle.std.proofs.Math.Path.{fun_ext}
use Rattle.pun_base.specs.Memory.{Bytes, joined, without}
use Rattle.cpu_state.specs.Bytes.{allows}
use Rattle.start_entries.specs.declared.entry.StartEntry.{StartEntry}
use Rattle.insn_form.specs.Machine.{Machine, put_all, avoids_writes}
use Rattle.insn_form.specs.Step.{Step, next_after, task_of}
use Rattle.insn_form.specs.Touched.{perms_at}
use Rattle.insn_form.specs.Runs.{IsPath, last_of}
use Rattle.insn_form.proofs.TouchedMemory.{writes_held, put_all_perms}
use Rattle.insn_form.proofs.FrameRule.{lacking_writes_frame, put_all_frame, put_all_keeps}
use Rattle.image_runs.specs.Listed.{is_start, is_known_start, is_listed_byte}
use Rattle.image_runs.specs.Quiet.{IsQuietStep}
use Rattle.image_runs.specs.declared.delivery.Delivery.{Delivery}
use Rattle.image_runs.specs.Deliveries.{delivered, Fits, Item, Stepped, Taken, end_of, AreItems, IsQuietWith}
use Rattle.settled_runs.specs.Laws.{stub_places, StubStep, beside}
use Rattle.settled_runs.specs.Quiet.{item_beside}
use Rattle.settled_runs.proofs.BesideRuns.{of_w, IsApart, not_held, hidden_at, byte_after, none_of, apart_after, step_beside}

module _ (w : Bytes) (listed : List StartEntry) where
  -- a delivery beside memory that a state hasn't
  record IsDeliveredBeside (s : Machine) (d : Delivery) : Type 0 where
    pub fits : Fits listed (beside w s) d
    pub same : delivered d (beside w s) ≡ beside w (delivered d s)
    pub apart : IsApart w (delivered d s).mem

  delivered_beside : (s : Machine) (d : Delivery) → IsApart w s.mem → Fits listed s d → IsDeliveredBeside s d
  delivered_beside s d h f =
      let ws = d.writes in let m = joined w s.mem in
      let av : avoids_writes (of_w w) ws ≡ true = writes_held s.mem (of_w w) (λ a q. ap (allows 2) (not_held w s.mem a h q)) ws f.held in
      let e : without (of_w w) s.mem ≡ without (of_w w) m = fun_ext (λ x. hidden_at w (w x) (s.mem x)) in
      let mem : put_all m ws ≡ joined w (put_all s.mem ws) =
      fun_ext (λ x. byte_after w (w x) (put_all s.mem ws x) (put_all m ws x) (s.mem x) (ap (λ (z : Bytes). z x) (put_all_frame (of_w w) s.mem m ws e)) (λ q. put_all_keeps (of_w w) m ws x av q)) in
      record {
        fits = record { here = f.here; there = f.there; core = f.core; held = sym (lacking_writes_frame (of_w w) s.mem m e ws av) ∙ f.held; apart = f.apart };
        same = λ i. record { core = d.core; rip = d.rip; mem = mem i; world = s.world };
        apart = λ x. step (put_all s.mem ws) x (put_all_perms s.mem ws x) (h x);
      }
    where
      step : (m : Bytes) (x : ℕ) → perms_at m x ≡ perms_at s.mem x
          → (w x ≡ None) ⊎ (s.mem x ≡ None) → (w x ≡ None) ⊎ (m x ≡ None)
      step m x p (inl q) = inl q
      step m x p (inr q) = inr (none_of w (m x) (s.mem x) p q)

  -- a run of items beside it, and its end
  record AreBeside (s : Machine) (is : List Item) : Type 0 where
    pub items : AreItems (IsQuietStep Step listed) listed (beside w s) (map (item_beside w) is)
    pub end : end_of (beside w s) (map (item_beside w) is) ≡ beside w (end_of s is)

  items_beside : (is : List Item) (s : Machine) → IsApart w s.mem → AreItems (IsQuietStep Step listed) listed s is → AreBeside s is
  items_beside [] s h r = record { items = tt; end = refl }
  items_beside (Stepped t ∷ is) s h r =
      let st = r.0.1 in let next = next_after s.rip st.0 in
      let q = items_beside is t (apart_after w (task_of st.0 next) next s t h st.1.acts) r.1 in
      record { items = ((r.0.0, step_beside w (is_listed_byte listed) s t h st), q.items); end = q.end }
  items_beside (Taken d ∷ is) s h r =
      let k = delivered_beside s d h r.0 in let q = items_beside is (delivered d s) k.apart r.1 in
      let js = map (item_beside w) is in
      record {
        items = (k.fits, subst (λ (z : Machine). AreItems (IsQuietStep Step listed) listed z js) (sym k.same) q.items);
        end = ap (λ (z : Machine). end_of z js) k.same ∙ q.end;
      }

  -- a quiet run with deliveries beside it
  pub delivered_quiet : (is : List Item) (s : Machine) → IsApart w s.mem → IsQuietWith Step listed s is → IsQuietWith Step listed (beside w s) (map (item_beside w) is)
  delivered_quiet is s h r =
      let q = items_beside is s h r.0 in
      (q.items, ap (λ (z : Machine). is_start listed z.rip) q.end ∙ r.1)

-- a quiet run with deliveries behind the stub's quiet steps
pub delivered_on : (listed : List StartEntry) (at : ℕ) (s t : Machine) (ts : List Machine) (is : List Item)
    → ((k : ℕ) → list_any (λ j. j == k) stub_places ≡ true → is_known_start listed (at + k) ≡ true)
    → IsPath (StubStep at) s ts → IsPath (Step (is_listed_byte listed)) s ts → last_of s ts ≡ t → IsQuietWith Step listed t is → IsQuietWith Step listed s (map Stepped ts ++ is)
delivered_on listed at s t [] is known p q e r = subst (λ (z : Machine). IsQuietWith Step listed z is) (sym e) r
delivered_on listed at s t (x ∷ ts) is known p q e r =
    let k = delivered_on listed at x t ts is known p.1 q.1 e r in
    (((ap (is_known_start listed) p.0.there ∙ known p.0.place p.0.listed, q.0), k.0), k.1)
