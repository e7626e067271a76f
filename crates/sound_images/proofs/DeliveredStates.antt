-- A delivery that fits leads from two related states to two related states.
use Rattle.std.proofs.Common.{◌≡◌, ℕ, ◌+◌, ◌<◌, ◌≤◌, Bool, true, false, not, List, None, refl, sym, ap, ◌∙◌, true≢false}
use Rattle.pun_base.specs.Memory.{Bytes}
use Rattle.cpu_state.specs.declared.world.MemWrite.{MemWrite}
use Rattle.cpu_state.specs.Bytes.{allows}
use Rattle.insn_form.specs.Plan.{lacking_writes}
use Rattle.insn_form.specs.Machine.{Machine, put_all, avoids_writes}
use Rattle.insn_form.proofs.FrameRule.{lacking_writes_frame, put_all_frame, put_all_keeps}
use Rattle.insn_form.proofs.TouchedMemory.{writes_both, writes_held, put_all_perms}
use Rattle.relocate_insn.proofs.FixedCode.{SameCode}
use Rattle.relocate_insn.proofs.PrivateRange.{private_on}
use Rattle.trampoline.specs.Events.{Seen}
use Rattle.trampoline.proofs.DataParts.{bytes_keep}
use Rattle.image_runs.specs.Listed.{is_start, is_listed_byte}
use Rattle.sound_images.specs.Rewriting.{Rewriting, is_new}
use Rattle.image_runs.specs.declared.delivery.Delivery.{Delivery}
use Rattle.image_runs.specs.Deliveries.{delivered, Fits}
use Rattle.sound_images.proofs.LoadedCode.{same_none}
use Rattle.sound_images.proofs.RelatedStates.{hidden_at, Related}

-- writes that are held with W leave what can't be written
pub written_code : (m w : Bytes) (ws : List MemWrite) → lacking_writes w ws ≡ None → SameCode m w → SameCode m (put_all w ws)
written_code m w ws h c x a b =
    let e = c x a b in
    put_all_keeps (λ y. not (allows 2 (w y))) w ws x
    (writes_held w (λ y. not (allows 2 (w y))) (λ y k. turned (allows 2 (w y)) k) ws h) (ap (λ o. not (allows 2 o)) e ∙ ap not b) ∙ e
  where
    turned : (b : Bool) → not b ≡ true → b ≡ false
    turned true k = absurd (true≢false (sym k))
    turned false k = refl

-- two related states take a delivery alike
module _ (r : Rewriting) (lo n : ℕ) (within : (x : ℕ) → r.data_lo ≤ x → x < r.data_lo + r.data_len → (lo ≤ x) × (x < lo + n))
    (events : List Seen) (s u : Machine) (d : Delivery) (h : Related r lo n events s u) (f : Fits r.listed s d) where
  -- a delivery writes no byte that a view leaves out
  unseen : avoids_writes (hidden_at r) d.writes ≡ true
  unseen = writes_both (is_listed_byte r.listed) (is_new r) d.writes f.apart
      (writes_held s.mem (is_new r) (λ x k. ap (allows 2) (h.bare x k)) d.writes f.held)

  -- a delivery can be made in the patched state too
  held : lacking_writes u.mem d.writes ≡ None
  held = lacking_writes_frame (hidden_at r) u.mem s.mem (ap (λ (z : Machine). z.mem) h.seen) d.writes unseen ∙ f.held

  -- a delivery that fits in the original's state fits in the patched one
  pub fits_too : Fits r.listed u d
  fits_too = record {
    here = ap (λ (z : Machine). is_start r.listed z.rip) h.seen ∙ f.here;
    there = f.there;
    core = f.core;
    held = held;
    apart = f.apart;
  }

  -- the two states after a delivery are related
  pub related_delivered : Related r lo n events (delivered d s) (delivered d u)
  related_delivered = record {
    seen =
        let m = put_all_frame (hidden_at r) u.mem s.mem d.writes (ap (λ (z : Machine). z.mem) h.seen) in
        let w = ap (λ (z : Machine). z.world) h.seen in
        λ i. record { core = d.core; rip = d.rip; mem = m i; world = w i };
    own = written_code r.original s.mem d.writes f.held h.own;
    other = written_code r.patched u.mem d.writes held h.other;
    bare = λ x k. same_none (put_all s.mem d.writes x) (s.mem x) (put_all_perms s.mem d.writes x) (h.bare x k);
    range = private_on (hidden_at r) lo n u.mem (put_all u.mem d.writes) (put_all_perms u.mem d.writes) h.range;
    part = bytes_keep u.mem (put_all u.mem d.writes) r.data_lo r.data_len
        (λ x a b. let q = within x a b in put_all_keeps (hidden_at r) u.mem d.writes x unseen (h.range.inside x q.0 q.1)) ∙ h.part;
    is_data = h.is_data;
    processor = record { core = f.core; world = h.processor.world };
  }
