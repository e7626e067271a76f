-- Which bytes one jump on a site writes, and which it puns.
use Rattle.std.proofs.Common.{◌≡◌, ◌⊎◌, inl, inr, ℕ, zero, suc, ◌+◌, ◌-◌, ◌<◌, ◌≤◌, min, Bool, true, false, cond, not, ◌&&◌, ◌||◌, nat_le, nat_lt, List, ◌∷◌, ◌++◌, length, get_or, replicate, Option, Some, None, is_some, refl, sym, ap, ◌∙◌, arith, length-append, true≢false}
use Rattle.std.specs.Option.{option_or}
use Rattle.std.proofs.lemmas.Bool.{and_parts, cases_lt, ltb-true, leb-true, cond-true, cond-false}
use Rattle.std.proofs.lemmas.Bool.Decides.{nat_tests}
use Rattle.std.proofs.Math.Bool.{or-false}
use Rattle.std.specs.Cmp.{both_ways}
use Rattle.std.proofs.lemmas.List.{length-replicate}
use Rattle.pun_base.specs.Ranges.{is_within}
use Rattle.insn_form.specs.Moved.{rel_bytes}
use Rattle.start_entries.specs.declared.entry.StartEntry.{StartEntry}
use Rattle.start_list.specs.PlanJumps.{written, is_written, is_punned}
use Rattle.scheme_search.specs.Padded.{jumps}

-- An address from a range's begin on, and before its end, is within it.
pub within_true : (lo n a : ℕ) → lo ≤ a → a < lo + n → is_within lo n a ≡ true
within_true lo n a p q = grind (arith, nat_tests)

-- An address below a range or from its end on isn't within it.
pub within_false : (lo n a : ℕ) → (a < lo) ⊎ (lo + n ≤ a) → is_within lo n a ≡ false
within_false lo n a (inl p) = grind (arith, nat_tests)
within_false lo n a (inr p) = grind (arith, nat_tests)

-- An address within a range lies from its begin on, and before its end.
pub within_parts : (lo n a : ℕ) → is_within lo n a ≡ true → (lo ≤ a) × (a < lo + n)
within_parts lo n a e =
    let k = and_parts (nat_le lo a) (nat_lt (a - lo) n) e in
    let p = leb-true lo a k.0 in let q = ltb-true (a - lo) n k.1 in (p, omega arith)

-- A jump after p pads has p + 5 bytes.
pub jump_length : (p pad next t : ℕ) → length (replicate p pad ++ 0xE9 ∷ rel_bytes next t) ≡ p + 5
jump_length p pad next t = let four : length (0xE9 ∷ rel_bytes next t) ≡ 5 = refl in omega (arith, length-append (replicate p pad) (0xE9 ∷ rel_bytes next t), length-replicate p pad, four)

-- The displacement of a jump stands after the pads and the opcode.
pub behind_opcode : (p pad : ℕ) (ds : List ℕ) (k i : ℕ) → k ≡ p + 1 + i → get_or (replicate p pad ++ 0xE9 ∷ ds) k 0 ≡ get_or ds i 0
behind_opcode zero pad ds zero i e = absurd (omega arith)
behind_opcode zero pad ds (suc k) i e = let q : k ≡ i = omega arith in ap (λ x. get_or ds x 0) q
behind_opcode (suc p) pad ds zero i e = absurd (omega arith)
behind_opcode (suc p) pad ds (suc k) i e = behind_opcode p pad ds k i (omega arith)

module _ (site : StartEntry) (p t : ℕ) where
  abbrev pub size : ℕ
  size = length (replicate p 0x40 ++ 0xE9 ∷ rel_bytes (site.addr + p + 5) t)

  abbrev pub code : List ℕ
  code = replicate p 0x40 ++ 0xE9 ∷ rel_bytes (site.addr + p + 5) t

  abbrev pub room : ℕ
  room = min site.len size

  -- One jump writes where its own test says so.
  written_by_test : (w : Bool) (b : ℕ) → is_some (option_or (cond w (Some b) None) None) ≡ w || false
  written_by_test true b = refl
  written_by_test false b = refl

  -- The jump writes those of its bytes that lie in the site.
  pub written_is : (x : ℕ) → is_written (jumps site p t) x ≡ is_within site.addr room x
  written_is x = written_by_test (is_within site.addr room x) (get_or code (x - site.addr) 0) ∙ or-false (is_within site.addr room x)

  -- Each byte that the jump writes is the one that stands there in its code.
  pub written_at : (k : ℕ) → k < room → written (jumps site p t) (site.addr + k) ≡ Some (get_or code k 0)
  written_at k l =
      let w = within_true site.addr room (site.addr + k) (omega arith) (omega arith) in
      let e : site.addr + k - site.addr ≡ k = omega arith in
      ap (λ (o : Option ℕ). option_or o None) (cond-true (is_within site.addr room (site.addr + k)) (Some (get_or code (site.addr + k - site.addr) 0)) None w)
      ∙ ap (λ i. Some (get_or code i 0)) e

  -- Below the site, and after these bytes, it writes nothing.
  pub left_at : (x : ℕ) → (x < site.addr) ⊎ (site.addr + room ≤ x) → written (jumps site p t) x ≡ None
  left_at x h = ap (λ (o : Option ℕ). option_or o None) (cond-false (is_within site.addr room x) (Some (get_or code (x - site.addr) 0)) None (within_false site.addr room x h))

  -- One jump puns what it spans and doesn't write.
  punned_test : (s w : Bool) (o : Bool) → o ≡ w → ((s || false) && not o) ≡ (s && not w)
  punned_test true w o e = ap not e
  punned_test false w o e = refl

  -- What is spanned and not written is spanned, and isn't written.
  outside : (s w : Bool) → (s && not w) ≡ true → (s ≡ true) × (w ≡ false)
  outside true true e = absurd (true≢false (sym e))
  outside true false e = (refl, refl)
  outside false w e = absurd (true≢false (sym e))

  -- What is spanned and isn't written is punned.
  both : (s w : Bool) → s ≡ true → w ≡ false → (s && not w) ≡ true
  both true false e f = refl
  both true true e f = absurd (true≢false f)
  both false w e f = absurd (true≢false (sym e))

  -- An address at or above the first of a range, and not within it, lies at its end or above.
  not_within : (lo n x : ℕ) → is_within lo n x ≡ false → lo ≤ x → lo + n ≤ x
  not_within lo n x e l = elim (cases_lt x (lo + n)) [
    | inl q ↦ absurd (true≢false (sym (within_true lo n x l q) ∙ e))
    | inr q ↦ q
  ]

  -- The jump puns those of its bytes that lie after the site.
  pub punned_is : (x : ℕ) → is_punned (jumps site p t) x ≡ is_within (site.addr + site.len) (size - site.len) x
  punned_is x =
      punned_test (is_within site.addr size x) (is_within site.addr room x) (is_written (jumps site p t) x) (written_is x)
      ∙ both_ways _ _
      (λ e.
      let q = outside (is_within site.addr size x) (is_within site.addr room x) e in
      let i = within_parts site.addr size x q.0 in
      let o = not_within site.addr room x q.1 i.0 in
      within_true (site.addr + site.len) (size - site.len) x (omega (arith, i.0, i.1, o)) (omega (arith, i.0, i.1, o)))
      (λ e.
      let i = within_parts (site.addr + site.len) (size - site.len) x e in
      both (is_within site.addr size x) (is_within site.addr room x) (within_true site.addr size x (omega (arith, i.0, i.1)) (omega (arith, i.0, i.1)))
      (within_false site.addr room x (inr (omega (arith, i.0, i.1)))))
