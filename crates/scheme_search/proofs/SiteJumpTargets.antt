-- The targets that a jump on a site can have.
use Rattle.std.proofs.Common.{◌≡◌, ◌↔◌, inl, inr, ℕ, ℤ, pos, ◌+◌, ◌-◌, ◌^◌, ◌<◌, ◌≤◌, ◌≤ℤ◌, ◌<ℤ◌, min, true, List, [], ◌∷◌, length, drop, get_or, Option, Some, refl, sym, ap, ◌∙◌, subst, arith, length-drop}
use Rattle.std.proofs.lemmas.Bool.{cases_lt}
use Rattle.std.proofs.lemmas.List.{get_or-drop}
use Rattle.pun_base.specs.Memory.{Cell}
use Rattle.elf_read.specs.declared.segment.Segment.{Segment}
use Rattle.elf_read.specs.Code.{is_exec_in}
use Rattle.cpu_state.specs.Bytes.{byte_of, with_byte}
use Rattle.cpu_state.specs.Fixed.{IsFixed}
use Rattle.byte_locks.specs.declared.lock.Lock.TheVariants.{Free}
use Rattle.insn_form.specs.Moved.{rel_bytes}
use Rattle.jump_form.specs.declared.window.Targets.{Targets}
use Rattle.jump_form.specs.Windows.{IsAllowed}
use Rattle.start_entries.specs.declared.entry.StartEntry.{StartEntry}
use Rattle.start_list.specs.TurnViews.{TurnView, memory_now, code_segment, is_code_of, share_segment}
use Rattle.start_list.specs.PlanJumps.{cell_with, after_writes}
use Rattle.start_list.specs.Forms.{for_site}
use Rattle.start_list.specs.Admissible.{ArePlaced}
use Rattle.start_list.specs.Plans.{bytes_from}
use Rattle.scheme_search.specs.Padded.{jumps, Reaches, IsTarget}
use Rattle.scheme_search.proofs.ConsecutiveBytes.{length-bytes_from, get_or-bytes_from, same_list}
use Rattle.scheme_search.proofs.CodeCells.{IsCodeCell, IsFixedByte, locked_cell, written_cell, written_byte, to_fixed, from_fixed}
use Rattle.scheme_search.proofs.OneJumpBytes.{within_true, within_parts, jump_length, behind_opcode, code, size, room, written_is, written_at, left_at, punned_is}
use Rattle.scheme_search.proofs.Displacements.{allowed_to, allowed_from}

-- A site in a segment: its bytes are free, and what can be executed is held so.
pub record OnSite (v : TurnView) (site : StartEntry) (s : Segment) : Type 0 where
  pub low : site.addr + site.len ≤ 0x7fff0000
  pub free : (k : ℕ) → k < site.len → v.lock (site.addr + k) ≡ Free
  pub segment : code_segment v.segments site.addr ≡ Some s
  pub code : (x : ℕ) → is_exec_in x s ≡ true → IsCodeCell (v.image x)
  pub site_code : (k : ℕ) → k < site.len → IsCodeCell (v.image (site.addr + k))
  pub below : (x : ℕ) → is_exec_in x s ≡ true → x < 0x7fff0000

module _ (v : TurnView) (site : StartEntry) (s : Segment) (g : OnSite v site s) (p own : ℕ) (inside : p < site.len) (is_own : own ≡ min (site.len - p - 1) 4) where
  -- an address shares the site's segment exactly where it is executed from that segment
  shares : (x : ℕ) → share_segment v.segments site.addr x ≡ is_exec_in x s
  shares x = ap (λ (o : Option Segment). is_code_of o x) g.segment

  -- the bytes after the site that the jump needs are the segment's
  pub puns_code : (t : ℕ) → Reaches v site p t → (k : ℕ) → k < 4 - own → is_exec_in (site.addr + site.len + k) s ≡ true
  puns_code t r k l =
      let n = jump_length p 0x40 (site.addr + p + 5) t in
      let x = site.addr + site.len + k in
      let w = within_true (site.addr + site.len) (size site p t - site.len) x (omega arith) (omega (arith, n)) in
      sym (shares x) ∙ r.punned x (punned_is site p t x ∙ w)

  module _ (executed : (k : ℕ) → k < 4 - own → is_exec_in (site.addr + site.len + k) s ≡ true) where
    -- the jump ends at 0x7fff0000 or below
    pub jump_low : site.addr + p + 5 ≤ 0x7fff0000
    jump_low = elim (cases_lt own 4) [
      | inl l ↦ (let last = g.below (site.addr + site.len + (3 - own)) (executed (3 - own) (omega arith)) in omega (arith, last))
      | inr h ↦ (let low = g.low in omega (arith, low))
    ]

    module _ (t : ℕ) where
      -- the jump ends below 2^64
      fits : site.addr + size site p t < 2 ^ 64
      fits = omega (arith, jump_length p 0x40 (site.addr + p + 5) t, jump_low)

      -- bytes after the site are as they stood
      behind : (i : ℕ) → i < 4 - own → after_writes (memory_now v) (jumps site p t) (site.addr + (site.len + i)) ≡ memory_now v (site.addr + site.len + i)
      behind i l =
          let e : site.addr + (site.len + i) ≡ site.addr + site.len + i = omega arith in
          let n = jump_length p 0x40 (site.addr + p + 5) t in
          ap (λ (o : Option ℕ). cell_with o (memory_now v (site.addr + (site.len + i)))) (left_at site p t (site.addr + (site.len + i)) (inr (omega (arith, n))))
          ∙ ap (memory_now v) e

      -- where the jump reaches a place, the bytes after the site are the high bytes of its displacement
      pub stands_from : Reaches v site p t → (i : ℕ) → i < 4 - own → byte_of (memory_now v (site.addr + site.len + i)) ≡ get_or (rel_bytes (site.addr + p + 5) t) (own + i) 0
      stands_from r i l =
          let n = jump_length p 0x40 (site.addr + p + 5) t in
          let f = from_fixed (after_writes (memory_now v) (jumps site p t)) site.addr (code site p t) fits r.stands.0 (site.len + i) (omega (arith, n)) in
          sym (ap byte_of (behind i l)) ∙ f.byte ∙ behind_opcode p 0x40 (rel_bytes (site.addr + p + 5) t) (site.len + i) (own + i) (omega arith)

      -- the jump's bytes in the site stand after the writes
      in_site : (k : ℕ) → k < site.len → k < size site p t → IsFixedByte (after_writes (memory_now v) (jumps site p t) (site.addr + k)) (get_or (code site p t) k 0)
      in_site k l h =
          let e : after_writes (memory_now v) (jumps site p t) (site.addr + k) ≡ with_byte (get_or (code site p t) k 0) (memory_now v (site.addr + k)) =
          ap (λ (o : Option ℕ). cell_with o (memory_now v (site.addr + k))) (written_at site p t k (omega arith)) in
          let held = locked_cell (v.lock (site.addr + k)) (v.image (site.addr + k)) (g.site_code k l) in
          subst (λ (c : Option Cell). IsFixedByte c (get_or (code site p t) k 0)) (sym e)
          (record { code = written_cell (get_or (code site p t) k 0) (memory_now v (site.addr + k)) held; byte = written_byte (get_or (code site p t) k 0) (memory_now v (site.addr + k)) held })

      -- the jump's bytes after the site stand after the writes, where they are the high bytes of its displacement
      past_site : ((i : ℕ) → i < 4 - own → byte_of (memory_now v (site.addr + site.len + i)) ≡ get_or (rel_bytes (site.addr + p + 5) t) (own + i) 0)
          → (i : ℕ) → i < 4 - own → IsFixedByte (after_writes (memory_now v) (jumps site p t) (site.addr + (site.len + i))) (get_or (code site p t) (site.len + i) 0)
      past_site h i l =
          let x = site.addr + site.len + i in
          subst (λ (c : Option Cell). IsFixedByte c (get_or (code site p t) (site.len + i) 0)) (sym (behind i l))
          (record { code = locked_cell (v.lock x) (v.image x) (g.code x (executed i l)); byte = h i l ∙ sym (behind_opcode p 0x40 (rel_bytes (site.addr + p + 5) t) (site.len + i) (own + i) (omega arith)) })

      -- the jump stands after the writes, where the bytes after the site are the high bytes of its displacement
      stands_to : ((i : ℕ) → i < 4 - own → byte_of (memory_now v (site.addr + site.len + i)) ≡ get_or (rel_bytes (site.addr + p + 5) t) (own + i) 0)
          → IsFixed (after_writes (memory_now v) (jumps site p t)) site.addr (code site p t)
      stands_to h = to_fixed (after_writes (memory_now v) (jumps site p t)) site.addr (code site p t) fits each
        where
          each : (k : ℕ) → k < size site p t → IsFixedByte (after_writes (memory_now v) (jumps site p t) (site.addr + k)) (get_or (code site p t) k 0)
          each k l = elim (cases_lt k site.len) [
            | inl q ↦ in_site k q l
            | inr q ↦ (let e : site.len + (k - site.len) ≡ k = omega arith in
                subst (λ (j : ℕ). IsFixedByte (after_writes (memory_now v) (jumps site p t) (site.addr + j)) (get_or (code site p t) j 0)) e
                (past_site h (k - site.len) (omega (arith, jump_length p 0x40 (site.addr + p + 5) t))))
          ]

      -- where the bytes after the site are so, and the trampoline is placed there, the jump reaches the place
      pub reaches : ((i : ℕ) → i < 4 - own → byte_of (memory_now v (site.addr + site.len + i)) ≡ get_or (rel_bytes (site.addr + p + 5) t) (own + i) 0)
          → ArePlaced v (for_site site t ∷ []) → Reaches v site p t
      reaches h placed = record {
        free = λ x e.
            let w = within_parts site.addr (room site p t) x (sym (written_is site p t x) ∙ e) in
            let q : site.addr + (x - site.addr) ≡ x = omega (arith, w.0) in
            subst (λ (y : ℕ). v.lock y ≡ Free) q (g.free (x - site.addr) (omega (arith, w.0, w.1)));
        punned = λ x e.
            let w = within_parts (site.addr + site.len) (size site p t - site.len) x (sym (punned_is site p t x) ∙ e) in
            let n = jump_length p 0x40 (site.addr + p + 5) t in
            let k = x - (site.addr + site.len) in
            let q : site.addr + site.len + k ≡ x = omega (arith, w.0) in
            shares x ∙ subst (λ (y : ℕ). is_exec_in y s ≡ true) q (executed k (omega (arith, w.0, w.1, n)));
        stands = (stands_to h, tt);
        placed = placed;
      }

    module _ (fixed : List ℕ) (w : Targets) (is_fixed : fixed ≡ bytes_from (memory_now v) (site.addr + site.len) (4 - own)) (win : (target : ℤ) → IsAllowed (site.addr + p + 5) [] own fixed target ↔ ((w.lo ≤ℤ target) × (target <ℤ w.hi))) where
      -- a place of the site's trampoline is below 2^31
      below_top : (t : ℕ) → ArePlaced v (for_site site t ∷ []) → t < 2 ^ 31
      below_top t placed = let b = placed.0.2.below in omega (arith, b)

      -- the high bytes, as a list and byte by byte
      list_from : (t : ℕ) → ((i : ℕ) → i < 4 - own → byte_of (memory_now v (site.addr + site.len + i)) ≡ get_or (rel_bytes (site.addr + p + 5) t) (own + i) 0)
          → drop own (rel_bytes (site.addr + p + 5) t) ≡ fixed
      list_from t h =
          let rel = rel_bytes (site.addr + p + 5) t in
          let four : length rel ≡ 4 = refl in
          let n = length-drop own rel in
          same_list (drop own rel) (bytes_from (memory_now v) (site.addr + site.len) (4 - own)) (omega (arith, n, four, length-bytes_from (memory_now v) (site.addr + site.len) (4 - own)))
          (λ i l. let q : i < 4 - own = omega (arith, n, four) in get_or-drop own rel i 0 ∙ sym (h i q) ∙ sym (get_or-bytes_from (memory_now v) (site.addr + site.len) (4 - own) i q))
          ∙ sym is_fixed

      -- where the fixed bytes are the high bytes of the displacement, the bytes after the site are
      list_to : (t : ℕ) → drop own (rel_bytes (site.addr + p + 5) t) ≡ fixed → (i : ℕ) → i < 4 - own → byte_of (memory_now v (site.addr + site.len + i)) ≡ get_or (rel_bytes (site.addr + p + 5) t) (own + i) 0
      list_to t e i l =
          sym (get_or-bytes_from (memory_now v) (site.addr + site.len) (4 - own) i l) ∙ ap (λ (xs : List ℕ). get_or xs i 0) (sym is_fixed ∙ sym e)
          ∙ get_or-drop own (rel_bytes (site.addr + p + 5) t) i 0

      -- a place that the jump reaches is a target of the window at which the trampoline is free
      pub to_target : (t : ℕ) → Reaches v site p t → IsTarget v site w t
      to_target t r =
          let top = below_top t r.placed in
          let low = jump_low in
          let a = allowed_from (site.addr + p + 5) t own fixed (omega arith) (omega (arith, low)) top (list_from t (stands_from t r)) in
          let b = (win (pos t)).0 a in
          record { from = b.0; before = b.1; placed = r.placed }

      -- the jump reaches each target of the window at which the trampoline is free
      pub from_target : (t : ℕ) → IsTarget v site w t → Reaches v site p t
      from_target t r =
          let top = below_top t r.placed in
          let low = jump_low in
          let a = (win (pos t)).1 (r.from, r.before) in
          reaches t (list_to t (allowed_to (site.addr + p + 5) t own fixed (omega arith) (omega (arith, low)) top a)) r.placed
