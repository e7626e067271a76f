-- An instruction that no patch touched may be patched.
use Rattle.std.proofs.Common.{◌≡◌, ◌⊎◌, inl, inr, ◌+◌, ◌<◌, ◌≤◌, true, not, List, sym, ap, arith}
use Rattle.std.specs.Prelude.{Contains}
use Rattle.std.proofs.lemmas.Bool.{cases_lt, and_parts, not-true}
use Rattle.pun_base.specs.Memory.{Bytes}
use Rattle.start_entries.specs.declared.entry.StartEntry.{StartEntry}
use Rattle.start_list.specs.Forms.{MayBeSite}
use Rattle.start_list.specs.TurnViews.{TurnView, is_unchanged, is_untouched}
use Rattle.start_entries.specs.Standing.{AreEntries}
use Rattle.start_entries.proofs.AscendingEntries.{same_entry}

-- an instruction that isn't touched may be patched
pub untouched_may : (v : TurnView) (e : StartEntry) → is_untouched v e ≡ true → MayBeSite e
untouched_may v e h = not-true e.shared (and_parts (is_unchanged (v.lock e.addr)) (not e.shared) h).1

module _ (m : Bytes) (es : List StartEntry) (A : AreEntries m es) (e f : StartEntry) (c : Contains es e) (d : Contains es f) where
  -- listed entries at one address are one
  pub one_entry : e.addr ≡ f.addr → e ≡ f
  one_entry at = same_entry es e f A.ascending c d at

  -- of two entries, one of which may be patched, the lower one ends at the other's address or below
  pub ends_below : MayBeSite e ⊎ MayBeSite f → e.addr < f.addr → e.addr + e.len ≤ f.addr
  ends_below may below = elim (cases_lt f.addr (e.addr + e.len)) [
    | inl l ↦ absurd (omega (arith, below, ap (λ (z : StartEntry). z.addr) (same l)))
    | inr l ↦ l
  ]
    where
      same : f.addr < e.addr + e.len → e ≡ f
      same l =
          let some = (A.each f d).some in
          elim may [
            | inl k ↦ sym (A.alone e c k f.addr (omega (arith, below)) l f d (omega arith) (omega (arith, some)))
            | inr k ↦ A.alone f d k f.addr (omega arith) (omega (arith, some)) e c (omega (arith, below)) l
          ]
