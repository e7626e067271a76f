-- A run of a guest beside memory that it leaves alone is one without it.
use Rattle.std.proofs.Common.{◌≡◌, ◌⊎◌, inl, inr, ℕ, List, [], ◌∷◌, true, None, refl, ap, ◌∙◌, subst}
use Rattle.std.specs.Prelude.{slice_set}
use Rattle.std.proofs.Math.Path.{fun_ext}
use Rattle.pun_base.specs.Memory.{Bytes, joined, without}
use Rattle.start_entries.specs.declared.entry.StartEntry.{StartEntry}
use Rattle.insn_form.specs.Machine.{put_all, avoids_writes}
use Rattle.insn_form.proofs.TouchedMemory.{writes_held, put_all_perms}
use Rattle.insn_form.proofs.FrameRule.{lacking_writes_frame, put_all_frame, put_all_keeps}
use Rattle.image_runs.specs.declared.delivery.Delivery.{Delivery}
use Rattle.thread_runs.specs.Guest.{Guest, machine_of, thread_of, Moves}
use Rattle.thread_runs.specs.GuestDeliveries.{Goes, Takes, given, Receives}
use Rattle.thread_laws.specs.Beginning.{BirthItem, Does, Begins, with_thread, LeadsOn, IsGrowing}
use Rattle.settled_runs.proofs.BesideRuns.{hidden_at, byte_after, none_of}
use Rattle.settled_threads.specs.Beside.{is_held, IsUnwritable, AreApart, guest_beside, ItemLeaves, RunLeaves, IsRunBeside, RunsComeBack}
use Rattle.settled_threads.proofs.BackSteps.{bare, step_back, apart_on}

module _ (w : Bytes) (listed : List StartEntry) (unwritable : IsUnwritable w) where
  -- the guest after an item without the memory
  record IsItemBeside (i : BirthItem) (g h : Guest) : Type 0 where
    pub to : Guest
    pub leads : LeadsOn listed i g to
    pub same : h ≡ guest_beside w to
    pub apart : AreApart w to.mem

  moved_back : (k : ℕ) (g h : Guest) → AreApart w g.mem → ItemLeaves w (Does (Goes k)) (guest_beside w g) → Moves k (guest_beside w g) h
      → IsItemBeside (Does (Goes k)) g h
  moved_back k g h a l m =
      let t = m.thread in let s = machine_of g.mem t in let f = m.steps.0 in let st = m.steps.1 in
      let b = step_back w f s m.to unwritable (l t f m.there st.at) st in
      record {
        to = record { threads = slice_set g.threads k (thread_of b.to); mem = b.to.mem };
        leads = record { thread = t; there = m.there; to = b.to; steps = (f, b.steps); after = refl };
        same = m.after ∙ (λ i. record { threads = slice_set g.threads k (thread_of (b.same i)); mem = (b.same i).mem });
        apart = apart_on w f s b.to a b.steps;
      }

  given_back : (k : ℕ) (d : Delivery) (g h : Guest) → AreApart w g.mem → Receives listed k d (guest_beside w g) h → IsItemBeside (Does (Takes k d)) g h
  given_back k d g h a r =
      let m = g.mem in let v = joined w m in let set = is_held w in let ws = d.writes in let t = r.thread in let f = r.fits in
      let av : avoids_writes set ws ≡ true = writes_held v set (bare w m unwritable) ws f.held in
      let e : without set m ≡ without set v = fun_ext (λ x. hidden_at w (w x) (m x)) in
      let mem : put_all v ws ≡ joined w (put_all m ws) =
      fun_ext (λ x. byte_after w (w x) (put_all m ws x) (put_all v ws x) (m x) (ap (λ (z : Bytes). z x) (put_all_frame set m v ws e)) (λ q. put_all_keeps set v ws x av q)) in
      record {
        to = record { threads = slice_set g.threads k (given d t); mem = put_all m ws };
        leads = record {
          thread = t;
          there = r.there;
          fits = record { here = f.here; there = f.there; core = f.core; held = lacking_writes_frame set m v e ws av ∙ f.held; apart = f.apart };
          after = refl;
        };
        same = r.after ∙ (λ i. record { threads = slice_set g.threads k (given d t); mem = mem i });
        apart = λ x. on x (a x);
      }
    where
      on : (x : ℕ) → (w x ≡ None) ⊎ (g.mem x ≡ None) → (w x ≡ None) ⊎ (put_all g.mem d.writes x ≡ None)
      on x (inl q) = inl q
      on x (inr q) = inr (none_of w (put_all g.mem d.writes x) (g.mem x) (put_all_perms g.mem d.writes x) q)

  item_back : (i : BirthItem) (g h : Guest) → AreApart w g.mem → ItemLeaves w i (guest_beside w g) → LeadsOn listed i (guest_beside w g) h → IsItemBeside i g h
  item_back (Does (Goes k)) g h a l m = moved_back k g h a l m
  item_back (Does (Takes k d)) g h a l r = given_back k d g h a r
  item_back (Begins t) g h a l b = record { to = with_thread t g; leads = (b.0, refl); same = b.1; apart = a }

  pub run_back : (is : List BirthItem) (g : Guest) (hs : List Guest) → AreApart w g.mem → IsGrowing listed is (guest_beside w g) hs
      → RunLeaves w is (guest_beside w g) hs → IsRunBeside w listed is g hs
  run_back [] g [] a r l = record { states = []; run = tt; same = refl }
  run_back [] g (h ∷ hs) a r l = absurd r
  run_back (i ∷ is) g [] a r l = absurd r
  run_back (i ∷ is) g (h ∷ hs) a r l =
      let b = item_back i g h a l.0 r.0 in
      let q = run_back is b.to hs b.apart (subst (λ (z : Guest). IsGrowing listed is z hs) b.same r.1) (subst (λ (z : Guest). RunLeaves w is z hs) b.same l.1) in
      record { states = b.to ∷ q.states; run = (b.leads, q.run); same = λ j. b.same j ∷ q.same j }

pub runs_come_back : RunsComeBack
runs_come_back w listed is g hs u a r l = run_back w listed u is g hs a r l
